use Rattle.std.proofs.Common.{◌≡◌, ℤ, Option, Some, IfOk, slice_get, sym, subst}
use Rattle.fleet_tables.specs.fleet_rows.declared.row.Entity.{Entity}
use Rattle.fleet_tables.specs.fleet_rows.declared.settings.Ttls.{Ttls}
use Rattle.fleet_tables.specs.table_machine.Rows.{node_rows}
use Rattle.kept_nodes.specs.Seen.{node_seen}
use Rattle.row_views.proofs.cursor.kept_of.Goals as goal

pub returns-in-Facts : goal.returns-in-Facts
returns-in-Facts c =
    subst (λ (e : Entity). IfOk c.fact_of.result (λ row. (ttls : Ttls) (expiry : Option ℤ) → slice_get (node_rows e ttls expiry (node_seen c.args.node.now)) c.args.j ≡ Some row))
    (sym c.in-Facts.is) c.fact_of.ensures

pub returns-in-Resources : goal.returns-in-Resources
returns-in-Resources c =
    subst (λ (e : Entity). IfOk c.resource_of.result (λ row. (ttls : Ttls) (expiry : Option ℤ) → slice_get (node_rows e ttls expiry (node_seen c.args.node.now)) c.args.j ≡ Some row))
    (sym c.in-Resources.is) c.resource_of.ensures

pub returns-in-Reports : goal.returns-in-Reports
returns-in-Reports c =
    subst (λ (e : Entity). (ttls : Ttls) (expiry : Option ℤ) → slice_get (node_rows e ttls expiry (node_seen c.args.node.now)) c.args.j ≡ Some c.report_of.result)
    (sym c.in-Reports.is) c.report_of.ensures
