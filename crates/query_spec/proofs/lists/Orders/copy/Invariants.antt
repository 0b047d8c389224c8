use Rattle.std.proofs.Common.{◌≡◌, ◌++◌, drop}
use Rattle.query_spec.proofs.lists.Orders.copy.Given as goal

abbrev pub invariant-loop-order : goal.invariant-loop-order
invariant-loop-order l = l.list ++ drop l.order-index l.order-items ≡ l.order-items
