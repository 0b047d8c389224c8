use Rattle.std.proofs.Common.{◌≡◌, ◌∙◌, ◌<◌, ◌≤◌, ℕ, List, length, refl, ap, subst, arith}
use Rattle.std.proofs.lemmas.Option.{slice_get_read}
use Rattle.query_plan.specs.table_spec.Rows.{Cells}
use Rattle.query_rows.specs.Indexed.{holds_place}
use Rattle.query_rows.specs.Marked.{key_text}
use Rattle.query_rows.specs.declared.index.Index.{Index}
use Rattle.query_rows.proofs.IndexLaws.{first_more, all_held}
use Rattle.query_rows.proofs.known.by_cells.Goals as goal

pub loop-i-init : goal.loop-i-init
loop-i-init c = λ j a lt at. absurd (omega (arith, lt))

pub loop-i-preserved : goal.loop-i-preserved
loop-i-preserved c =
    let list : List Cells = c.args.rows.now in
    let i : ℕ = c.loop-i.i in
    let a : Cells = c.index-rows-i.result in
    let within : i < length list = omega (arith, c.loop-i-test.true, c.loop-i.auto.i-end) in
    let there = slice_get_read list (length list) i a refl within c.index-rows-i.is in
    let text : c.in_ok-text.text.items ≡ key_text a = c.in_ok-text.ensures ∙ ap key_text c.as_slice.ensures in
    first_more (λ (x : Index) (j : ℕ) (row : Cells). holds_place x (key_text row) j) list c.loop-i.index c.note.new.index i a there (subst (λ t. holds_place c.note.new.index t i) text c.in_ok-note.ensures.there)
    (λ j b h. c.in_ok-note.ensures.kept (key_text b) j h) c.loop-i.invariant

pub returns : goal.returns
returns c =
    let list : List Cells = c.args.rows.now in
    let all : length list ≤ c.loop-i.i = omega (arith, c.loop-i-test.false, c.loop-i.auto.i-end) in
    all_held (λ (x : Index) (j : ℕ) (row : Cells). holds_place x (key_text row) j) list c.loop-i.index c.loop-i.i all c.loop-i.invariant
