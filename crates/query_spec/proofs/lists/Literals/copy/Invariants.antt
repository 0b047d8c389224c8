use Rattle.std.proofs.Common.{◌≡◌, ◌++◌, drop}
use Rattle.query_spec.proofs.lists.Literals.copy.Given as goal

abbrev pub invariant-loop-literal : goal.invariant-loop-literal
invariant-loop-literal l = l.list ++ drop l.literal-index l.literal-items ≡ l.literal-items
