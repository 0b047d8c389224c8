use Rattle.std.proofs.Common.{◌≡◌, ◌+◌, ℕ, List, subst}
use Rattle.std.specs.Prelude.{filter, slice_range}
use Rattle.checkpoint_spec.specs.fleet_rows.declared.row.Entity.{Entity}
use Rattle.checkpoint_spec.specs.table_machine.Rows.{table_rows}
use Rattle.checkpoint_spec.specs.table_machine.Table.{Table}
use Rattle.checkpoint_spec.specs.table_spec.Rows.{Cells}
use Rattle.kept_nodes.specs.Spans.{IsSpanOf}
use Rattle.kept_nodes.specs.Wanted.{is_of_node, is_wanted, of_certname}
use Rattle.kept_nodes.specs.declared.wanted.Span.{Span}
use Rattle.kept_nodes.proofs.PlaceLaws.{span_range}
use Rattle.fleet_tables.proofs.RowLaws.{table_rows_are}
use Rattle.fleet_tables.proofs.tables.Tables.of_node.Goals as goal

-- of the table that contracts see, and of the certname
spanned : (entity : Entity) (inside seen : Table) (name certname : List ℕ) (span : Span) → inside ≡ seen → name ≡ certname → IsSpanOf (is_of_node entity name (of_certname name)) (table_rows entity inside) span
    → IsSpanOf (is_wanted entity (of_certname certname)) (table_rows entity seen) span
spanned entity inside seen name certname span view named h =
    subst (λ (t : Table). IsSpanOf (is_wanted entity (of_certname certname)) (table_rows entity t) span) view
    (subst (λ s. IsSpanOf (is_of_node entity s (of_certname s)) (table_rows entity inside) span) named h)

pub returns-clause-within : goal.returns-clause-within
returns-clause-within c =
    (spanned c.args.entity c.self.inside.state c.args.self.now c.as_str-certname.result.now c.args.certname.now c.sought_span.result c.self.view_is c.as_str-certname.ensures c.sought_span.ensures).1

pub returns-clause-rows : goal.returns-clause-rows
returns-clause-rows c =
    span_range (is_wanted c.args.entity (of_certname c.args.certname.now)) (table_rows c.args.entity c.args.self.now) c.sought_span.result
    (spanned c.args.entity c.self.inside.state c.args.self.now c.as_str-certname.result.now c.args.certname.now c.sought_span.result c.self.view_is c.as_str-certname.ensures c.sought_span.ensures)

pub returns-clause-stands : goal.returns-clause-stands
returns-clause-stands c = λ history s.
    let span = c.sought_span.result in
    let rows = span_range (is_wanted c.args.entity (of_certname c.args.certname.now)) (table_rows c.args.entity c.args.self.now) span
    (spanned c.args.entity c.self.inside.state c.args.self.now c.as_str-certname.result.now c.args.certname.now span c.self.view_is c.as_str-certname.ensures c.sought_span.ensures) in
    subst (λ (l : List Cells). slice_range l span.from (span.from + span.count) ≡ filter (is_wanted c.args.entity (of_certname c.args.certname.now)) l) (table_rows_are c.args.entity c.args.self.now history s) rows
