use Rattle.std.proofs.Common.{◌≡◌, drop}
use Rattle.std.specs.List.{list_any}
use Rattle.query_engine.specs.Narrow.{order_makes}
use Rattle.query_engine.proofs.narrow.some_order_makes.Given as goal

abbrev pub invariant-loop-order : goal.invariant-loop-order
invariant-loop-order l = list_any (order_makes l.entity) (drop l.order-index l.orders) ≡ list_any (order_makes l.entity) l.orders
