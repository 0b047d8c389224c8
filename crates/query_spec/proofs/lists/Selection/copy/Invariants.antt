use Rattle.std.proofs.Common.{◌≡◌, ◌++◌, drop}
use Rattle.query_spec.proofs.lists.Selection.copy.Given as goal

abbrev pub invariant-loop-selected : goal.invariant-loop-selected
invariant-loop-selected l = l.list ++ drop l.selected-index l.selected-items ≡ l.selected-items
