use Rattle.std.proofs.Common.{◌≡◌, ◌<◌, ◌≤◌, ℕ, List, length, refl, subst, arith, true}
use Rattle.std.proofs.lemmas.Option.{slice_get_read}
use Rattle.fleet_tables.specs.fleet_rows.Cell.{CellValue}
use Rattle.query_plan.specs.means_spec.Cells.{equals}
use Rattle.query_plan.specs.query_spec.declared.parts.Literal.{Literal}
use Rattle.query_rows.specs.Indexed.{holds_place}
use Rattle.query_rows.specs.Marked.{cell_text}
use Rattle.query_rows.specs.declared.index.Index.{Index}
use Rattle.query_rows.proofs.IndexLaws.{first_more, all_held}
use Rattle.query_rows.proofs.literals.by_value.Goals as goal

pub loop-i-init : goal.loop-i-init
loop-i-init c = λ j a lt at. absurd (omega (arith, lt))

pub loop-i-preserved : goal.loop-i-preserved
loop-i-preserved c =
    let list : List Literal = c.args.literals.now in
    let i : ℕ = c.loop-i.i in
    let a : Literal = c.index-literals-i.result in
    let within : i < length list = omega (arith, c.loop-i-test.true, c.loop-i.auto.i-end) in
    let there = slice_get_read list (length list) i a refl within c.index-literals-i.is in
    first_more (λ (x : Index) (j : ℕ) (l : Literal). (cell : CellValue) → equals cell l.value ≡ true → holds_place x (cell_text cell) j) list c.loop-i.index c.note_literal.new.index i a there
    (λ cell e. c.in_ok-note_literal.ensures.there cell (subst (λ (l : Literal). equals cell l.value ≡ true) c.index-literals-i.is e))
    (λ j b h cell e. c.in_ok-note_literal.ensures.kept (cell_text cell) j (h cell e)) c.loop-i.invariant

pub returns : goal.returns
returns c =
    let list : List Literal = c.args.literals.now in
    let all : length list ≤ c.loop-i.i = omega (arith, c.loop-i-test.false, c.loop-i.auto.i-end) in
    all_held (λ (x : Index) (j : ℕ) (l : Literal). (cell : CellValue) → equals cell l.value ≡ true → holds_place x (cell_text cell) j) list c.loop-i.index c.loop-i.i all c.loop-i.invariant
