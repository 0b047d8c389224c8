use Rattle.std.proofs.Common.{◌≡◌, ◌++◌, drop}
use Rattle.query_spec.proofs.lists.Fields.copy.Given as goal

abbrev pub invariant-loop-field : goal.invariant-loop-field
invariant-loop-field l = l.list ++ drop l.field-index l.field-items ≡ l.field-items
