use Rattle.std.proofs.Common.{List, subst}
use Rattle.query_plan.specs.means_spec.Cells.{names_in}
use Rattle.query_plan.specs.means_spec.Paging.{orders_cmp}
use Rattle.query_plan.specs.means_spec.World.{rows_in}
use Rattle.query_rows.specs.Tables.{world_of}
use Rattle.query_plan.specs.query_spec.declared.parts.Order.{Order}
use Rattle.query_reading.specs.Ordered.{Rises}
use Rattle.query_reading.proofs.StoppingLaws.{page_enough}
use Rattle.query_reading.proofs.stopping.enough_in_order.Goals as goal

pub returns-then-stand_in_order : goal.returns-then-stand_in_order
returns-then-stand_in_order c = λ says test.
    let names = names_in c.args.entity in
    let rows = rows_in (world_of c.args.tables.now says) c.args.entity in
    page_enough names c.args.paging.now c.rows_to_page_end.result c.rows_to_page_end.ensures test rows
    (subst (λ (os : List Order). Rises (orders_cmp names os) rows) c.as_slice.ensures (c.stand_in_order.ensures c.if-stand_in_order.true says))
