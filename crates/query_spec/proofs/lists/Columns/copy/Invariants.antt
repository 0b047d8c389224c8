use Rattle.std.proofs.Common.{◌≡◌, ◌++◌, drop}
use Rattle.query_spec.proofs.lists.Columns.copy.Given as goal

abbrev pub invariant-loop-column : goal.invariant-loop-column
invariant-loop-column l = l.list ++ drop l.column-index l.column-items ≡ l.column-items
