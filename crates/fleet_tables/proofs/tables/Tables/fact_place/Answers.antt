use Rattle.std.proofs.Common.{◌≡◌, ℕ, List, sym, subst, arith}
use Rattle.checkpoint_spec.specs.fleet_rows.declared.row.Entity.TheVariants.{Facts}
use Rattle.checkpoint_spec.specs.table_machine.Rows.{table_rows}
use Rattle.checkpoint_spec.specs.table_machine.Table.{Table}
use Rattle.kept_nodes.specs.Spans.{IsSpanOf}
use Rattle.kept_nodes.specs.Wanted.{is_fact}
use Rattle.kept_nodes.specs.declared.wanted.Span.{Span}
use Rattle.kept_nodes.proofs.PlaceLaws.{span_first, span_none}
use Rattle.fleet_tables.proofs.tables.Tables.fact_place.Goals as goal

-- of the table that contracts see
spanned : (certname name : List ℕ) (inside seen : Table) (span : Span) → inside ≡ seen → IsSpanOf (is_fact certname name) (table_rows Facts inside) span → IsSpanOf (is_fact certname name) (table_rows Facts seen) span
spanned certname name inside seen span view h = subst (λ (t : Table). IsSpanOf (is_fact certname name) (table_rows Facts t) span) view h

pub returns-then-span-eq0-clause-row : goal.returns-then-span-eq0-clause-row
returns-then-span-eq0-clause-row c =
    sym (span_none (is_fact c.args.certname.now c.args.name.now) (table_rows Facts c.args.self.now) c.sought_span-span.result
    (spanned c.args.certname.now c.args.name.now c.self.inside.state c.args.self.now c.sought_span-span.result c.self.view_is c.sought_span-span.ensures) (omega arith))

pub returns-else-span-eq0-clause-row : goal.returns-else-span-eq0-clause-row
returns-else-span-eq0-clause-row c =
    span_first (is_fact c.args.certname.now c.args.name.now) (table_rows Facts c.args.self.now) c.sought_span-span.result
    (spanned c.args.certname.now c.args.name.now c.self.inside.state c.args.self.now c.sought_span-span.result c.self.view_is c.sought_span-span.ensures) (omega arith)
