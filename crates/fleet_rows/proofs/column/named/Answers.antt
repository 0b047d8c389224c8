use Rattle.std.proofs.Common.{◌∙◌, sym, ap}
use Rattle.std.specs.Str.{bytes_eq}
use Rattle.fleet_rows.specs.declared.column.Column.TheVariants.{CatalogEnvironment}
use Rattle.fleet_rows.proofs.ColumnSteps.{named_here, named_later}
use Rattle.fleet_rows.proofs.column.named.Goals as goal

pub returns-then-eq : goal.returns-then-eq
returns-then-eq c =
    sym (named_here c.args.name.now c.args.columns.now c.loop-column.column-index CatalogEnvironment c.loop-column-test.true (ap (λ n. bytes_eq n c.args.name.now) (sym c.name.ensures) ∙ sym c.eq.ensures ∙ c.if-eq.true)) ∙ c.loop-column.invariant

pub loop-column-preserved : goal.loop-column-preserved
loop-column-preserved c =
    sym (named_later c.args.name.now c.args.columns.now c.loop-column.column-index CatalogEnvironment c.loop-column-test.true (ap (λ n. bytes_eq n c.args.name.now) (sym c.name.ensures) ∙ sym c.eq.ensures ∙ c.if-eq.false)) ∙ c.loop-column.invariant
