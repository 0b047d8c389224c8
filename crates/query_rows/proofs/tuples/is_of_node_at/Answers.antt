use Rattle.std.proofs.Common.{◌∙◌, sym}
use Rattle.std.specs.Str.{bytes_eq}
use Rattle.query_plan.specs.means_spec.Cells.{node_in}
use Rattle.query_plan.specs.table_spec.Rows.{Cells}
use Rattle.query_rows.specs.Indexed.{passes_at}
use Rattle.query_rows.proofs.IndexLaws.{any_here, any_on}
use Rattle.query_rows.proofs.tuples.is_of_node_at.Goals as goal

pub returns-then-is_node_there : goal.returns-then-is_node_there
returns-then-is_node_there c =
    let test = passes_at (λ (x : Cells). bytes_eq (node_in c.args.other x) c.args.node.now) c.args.rows.now in
    any_here test c.args.places.now c.loop-place.place-index c.loop-place-test.true _ c.loop-place.invariant (sym c.is_node_there.ensures ∙ c.if-is_node_there.true)

pub loop-place-preserved : goal.loop-place-preserved
loop-place-preserved c =
    let test = passes_at (λ (x : Cells). bytes_eq (node_in c.args.other x) c.args.node.now) c.args.rows.now in
    any_on test c.args.places.now c.loop-place.place-index c.loop-place-test.true _ c.loop-place.invariant (sym c.is_node_there.ensures ∙ c.if-is_node_there.false)
