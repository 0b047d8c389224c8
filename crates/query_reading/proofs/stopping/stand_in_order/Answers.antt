use Rattle.std.proofs.Common.{Option, sym, subst}
use Rattle.fleet_tables.specs.fleet_rows.declared.row.Entity.{Entity}
use Rattle.query_plan.specs.means_spec.Cells.{names_in}
use Rattle.query_plan.specs.means_spec.Paging.{orders_cmp}
use Rattle.query_plan.specs.means_spec.World.{rows_in}
use Rattle.query_rows.specs.Tables.{world_of}
use Rattle.query_reading.specs.Ordered.{Rises}
use Rattle.query_reading.proofs.stopping.stand_in_order.Goals as goal

pub returns-in-Some : goal.returns-in-Some
returns-in-Some c = λ e says.
    let table = c.args.tables.now in
    subst (λ (o : Option Entity). Rises (orders_cmp (names_in o) c.args.orders.now) (rows_in (world_of table says) o)) (sym c.in-Some.is)
    (c.rise.ensures e table.ttls table.expiry table.nodes c.stand_by_certname.ensures.order c.stand_by_certname.ensures.own)
