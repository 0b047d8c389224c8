use Rattle.std.proofs.Common.{◌≡◌, drop}
use Rattle.query_spec.specs.Check.{unknown_outputs}
use Rattle.ast_tree.proofs.shown.unknown_outputs.Given as goal

abbrev pub invariant-loop-order : goal.invariant-loop-order
invariant-loop-order l = unknown_outputs l.shown (drop l.order-index l.orders) ≡ unknown_outputs l.shown l.orders
