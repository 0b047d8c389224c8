use Rattle.std.proofs.Common.{◌∙◌, sym}
use Rattle.query_plan.specs.means_spec.Cells.{equals}
use Rattle.query_plan.specs.query_spec.declared.parts.Literal.{Literal}
use Rattle.query_rows.specs.Indexed.{passes_at}
use Rattle.row_views.specs.Seen.{seen_value}
use Rattle.query_rows.proofs.IndexLaws.{any_here, any_on}
use Rattle.query_rows.proofs.literals.is_equal_at.Goals as goal

pub returns-then-is_equal_there : goal.returns-then-is_equal_there
returns-then-is_equal_there c =
    let test = passes_at (λ (l : Literal). equals (seen_value c.args.seen.now) l.value) c.args.literals.now in
    any_here test c.args.places.now c.loop-place.place-index c.loop-place-test.true _ c.loop-place.invariant (sym c.is_equal_there.ensures ∙ c.if-is_equal_there.true)

pub loop-place-preserved : goal.loop-place-preserved
loop-place-preserved c =
    let test = passes_at (λ (l : Literal). equals (seen_value c.args.seen.now) l.value) c.args.literals.now in
    any_on test c.args.places.now c.loop-place.place-index c.loop-place-test.true _ c.loop-place.invariant (sym c.is_equal_there.ensures ∙ c.if-is_equal_there.false)
