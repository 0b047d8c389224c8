use Rattle.std.proofs.Common.{◌∙◌, sym}
use Rattle.query_plan.specs.means_spec.Cells.{is_fact}
use Rattle.query_rows.specs.Indexed.{passes_at}
use Rattle.query_rows.proofs.FirstLaws.{find_here, find_on}
use Rattle.query_rows.proofs.seen.fact_at.Goals as goal

pub returns-then-is_fact_there : goal.returns-then-is_fact_there
returns-then-is_fact_there c =
    let test = passes_at (is_fact c.args.node.now c.args.name.now) c.args.facts.now in
    find_here test c.args.places.now c.loop-place.place-index c.loop-place-test.true _ c.loop-place.invariant (sym c.is_fact_there.ensures ∙ c.if-is_fact_there.true)

pub loop-place-preserved : goal.loop-place-preserved
loop-place-preserved c =
    let test = passes_at (is_fact c.args.node.now c.args.name.now) c.args.facts.now in
    find_on test c.args.places.now c.loop-place.place-index c.loop-place-test.true _ c.loop-place.invariant (sym c.is_fact_there.ensures ∙ c.if-is_fact_there.false)
