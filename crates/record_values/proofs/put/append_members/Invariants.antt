use Rattle.std.proofs.Common.{◌≡◌, ◌++◌, ◌∷◌, drop, false}
use Rattle.json_read.specs.text_spec.Json.{members_of}
use Rattle.json_read.specs.text_spec.Compact.{compact_members}
use Rattle.record_values.proofs.put.append_members.Given as goal

abbrev pub invariant-loop-at : goal.invariant-loop-at
invariant-loop-at l = l.out.items ++ compact_members l.later (members_of (drop l.at l.members)) ≡ l.fn.out.items ++ 123 ∷ compact_members false (members_of l.members)
