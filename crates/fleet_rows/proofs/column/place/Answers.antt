use Rattle.std.proofs.Common.{◌∙◌, sym}
use Rattle.fleet_rows.specs.declared.column.Column.TheVariants.{CatalogEnvironment}
use Rattle.fleet_rows.proofs.ColumnSteps.{placed_here, placed_later}
use Rattle.fleet_rows.proofs.column.place.Goals as goal

pub returns-then-eq : goal.returns-then-eq
returns-then-eq c =
    sym (placed_here c.args.column c.args.columns.now c.loop-place.place CatalogEnvironment c.loop-place-test.true (rw (sym c.name.ensures, sym c.name-in-loop-place.ensures) (sym c.eq.ensures ∙ c.if-eq.true))) ∙ c.loop-place.invariant

pub loop-place-preserved : goal.loop-place-preserved
loop-place-preserved c =
    sym (placed_later c.args.column c.args.columns.now c.loop-place.place CatalogEnvironment c.loop-place-test.true (rw (sym c.name.ensures, sym c.name-in-loop-place.ensures) (sym c.eq.ensures ∙ c.if-eq.false))) ∙ c.loop-place.invariant
