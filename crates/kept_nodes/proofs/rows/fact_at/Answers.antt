use Rattle.std.proofs.Common.{arith}
use Rattle.kept_nodes.proofs.RowCounts.{fact_order_length}
use Rattle.kept_nodes.proofs.RowPlaces.{fact_inside, fact_row_is}
use Rattle.kept_nodes.proofs.rows.fact_at.Goals as goal

pub at-requires : goal.at-requires
at-requires c = omega (arith, c.requires.within, fact_order_length c.args.order.now c.args.change.now c.requires.order)

pub fact_row-requires : goal.fact_row-requires
fact_row-requires c = fact_inside c.args.change.now c.args.order.now c.args.j c.at.result c.requires.order c.at.ensures

pub returns : goal.returns
returns c = fact_row_is c.args.change.now c.args.order.now c.args.j c.at.result c.requires.order c.at.ensures c.fact_row.result c.fact_row.ensures
