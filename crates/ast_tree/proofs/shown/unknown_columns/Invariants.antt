use Rattle.std.proofs.Common.{◌≡◌, drop}
use Rattle.query_spec.specs.Check.{unknown_columns}
use Rattle.ast_tree.proofs.shown.unknown_columns.Given as goal

abbrev pub invariant-loop-order : goal.invariant-loop-order
invariant-loop-order l = unknown_columns l.entity (drop l.order-index l.orders) ≡ unknown_columns l.entity l.orders
