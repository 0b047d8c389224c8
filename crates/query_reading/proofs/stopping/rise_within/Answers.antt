use Rattle.std.proofs.Common.{[], ◌∷◌, sym, subst}
use Rattle.fleet_tables.specs.fleet_rows.declared.row.Entity.{Entity}
use Rattle.fleet_tables.specs.table_machine.Rows.{node_rows}
use Rattle.query_plan.specs.means_spec.Paging.{orders_cmp}
use Rattle.query_plan.specs.table_spec.Columns.{columns}
use Rattle.query_reading.specs.Ordered.{Rises}
use Rattle.query_reading.proofs.OrderLaws.{facts_rise}
use Rattle.query_reading.proofs.stopping.rise_within.Goals as goal

pub returns-in-Facts : goal.returns-in-Facts
returns-in-Facts c = λ e ttls expiry node.
    let told = c.rises_by.ensures e in
    subst (λ (x : Entity). Rises (orders_cmp (columns x) (c.args.order.now ∷ [])) (node_rows x ttls expiry node)) (sym c.in-Facts.is) (facts_rise c.args.order.now told.0 told.1 ttls expiry node)
