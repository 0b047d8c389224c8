use Rattle.std.proofs.Common.{length, ◌-◌, ◌≡◌, ◌≤◌, List, drop}
use Rattle.json_machine.specs.text_spec.Json.{members_of, members_levels}
use Rattle.json_tree.specs.Tree.{pairs}
use Rattle.json_machine.specs.Machine.{Frame, verdict, next_key}
use Rattle.json_read.proofs.run.run_members.Given as goal

abbrev pub invariant-members : goal.invariant-members
invariant-members l = record {
  past : l.start ≤ l.at;
  within : l.at ≤ length l.bytes;
  levels : members_levels (members_of (pairs l.members.items)) ≡ members_levels (members_of (pairs l.fn.members.items));
  same : (fs : List Frame) → verdict 127 fs (next_key (pairs l.fn.members.items)) l.start (drop l.start l.bytes) ≡ verdict 127 fs (next_key (pairs l.members.items)) l.at (drop l.at l.bytes);
}

abbrev pub decreases-members : goal.decreases-members
decreases-members l = length l.bytes - l.at
