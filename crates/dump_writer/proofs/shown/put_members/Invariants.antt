use Rattle.std.proofs.Common.{◌≡◌, ◌++◌, ◌∷◌, drop, false}
use Rattle.dump_laws.specs.dump_spec.text_spec.Json.{members_of}
use Rattle.dump_laws.specs.dump_spec.text_spec.Compact.{compact_members}
use Rattle.dump_writer.proofs.shown.put_members.Given as goal

abbrev pub invariant-loop-at : goal.invariant-loop-at
invariant-loop-at l = l.out.items ++ compact_members l.later (members_of (drop l.at l.map)) ≡ l.fn.out.items ++ 123 ∷ compact_members false (members_of l.map)
