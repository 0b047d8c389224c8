use Rattle.std.proofs.Common.{◌≡◌, ◌∙◌, ◌<◌, ◌≤◌, ℕ, List, length, refl, ap, subst, arith}
use Rattle.std.proofs.lemmas.Option.{slice_get_read}
use Rattle.query_plan.specs.means_spec.Cells.{node_in}
use Rattle.query_plan.specs.table_spec.Rows.{Cells}
use Rattle.query_rows.specs.Indexed.{holds_place, IsRising}
use Rattle.query_rows.specs.declared.index.Index.{Index}
use Rattle.query_rows.proofs.IndexLaws.{first_more, all_held}
use Rattle.query_rows.proofs.known.by_node.Goals as goal

pub loop-i-init : goal.loop-i-init
loop-i-init c = record { there = λ j a lt at. absurd (omega (arith, lt)); rising = c.new-index.ensures }

pub loop-i-preserved : goal.loop-i-preserved
loop-i-preserved c =
    let list : List Cells = c.args.rows.now in
    let i : ℕ = c.loop-i.i in
    let a : Cells = c.index-rows-i.result in
    let within : i < length list = omega (arith, c.loop-i-test.true, c.loop-i.auto.i-end) in
    let there = slice_get_read list (length list) i a refl within c.index-rows-i.is in
    let text : c.in_ok-text.text.items ≡ node_in c.args.entity a = c.in_ok-text.ensures ∙ c.node_in.ensures ∙ ap (node_in c.args.entity) c.as_slice.ensures in
    record {
      there =
          first_more (λ (x : Index) (j : ℕ) (row : Cells). holds_place x (node_in c.args.entity row) j) list c.loop-i.index c.note.new.index i a there
          (subst (λ t. holds_place c.note.new.index t i) text c.in_ok-note.ensures.there)
          (λ j b h. c.in_ok-note.ensures.kept (node_in c.args.entity b) j h) c.loop-i.invariant.there;
      rising = c.in_ok-note.ensures.rising c.loop-i.invariant.rising;
    }

pub returns-clause-there : goal.returns-clause-there
returns-clause-there c =
    let list : List Cells = c.args.rows.now in
    let all : length list ≤ c.loop-i.i = omega (arith, c.loop-i-test.false, c.loop-i.auto.i-end) in
    all_held (λ (x : Index) (j : ℕ) (row : Cells). holds_place x (node_in c.args.entity row) j) list c.loop-i.index c.loop-i.i all c.loop-i.invariant.there

pub returns-clause-rising : goal.returns-clause-rising
returns-clause-rising c =
    let all : c.loop-i.i ≡ length c.args.rows.now = omega (arith, c.loop-i-test.false, c.loop-i.auto.i-end) in
    subst (IsRising c.loop-i.index) all c.loop-i.invariant.rising
