use Rattle.std.proofs.Common.{◌-◌, ◌≡◌, ◌≤◌, length, List, ℕ, [], drop}
use Rattle.json_machine.specs.text_spec.Json.{Json}
use Rattle.json_machine.specs.Machine.{next_key, verdict}
use Rattle.json_read.specs.HeadSteps.{Watches}
use Rattle.json_read.proofs.head.members_head.Given as goal

abbrev pub invariant-members : goal.invariant-members
invariant-members l = record {
  within : l.at ≤ length l.bytes;
  same : (ms : List (List ℕ × Json)) × Watches ms l.watch.name l.watch.moment
      × (verdict 127 [] (next_key []) l.start (drop l.start l.bytes) ≡ verdict 127 [] (next_key ms) l.at (drop l.at l.bytes));
}

abbrev pub decreases-members : goal.decreases-members
decreases-members l = length l.bytes - l.at
