use Rattle.std.proofs.Common.{◌≡◌, drop}
use Rattle.means_spec.specs.fleet_rows.Cell.{cells_of}
use Rattle.means_spec.specs.Paging.{orders_cmp}
use Rattle.paging_text.proofs.order.orders_cmp.Given as goal

abbrev pub invariant-loop-order : goal.invariant-loop-order
invariant-loop-order l = orders_cmp l.names (drop l.order-index l.orders) (cells_of l.a) (cells_of l.b) ≡ orders_cmp l.names l.orders (cells_of l.a) (cells_of l.b)
