use Rattle.std.proofs.Common.{length, ◌-◌, ◌≡◌, ◌≤◌, drop}
use Rattle.json_machine.specs.text_spec.Json.{find_member}
use Rattle.json_read.proofs.fields.find.Given as goal

abbrev pub invariant-members : goal.invariant-members
invariant-members l = record {
  within : l.at ≤ length l.json;
  same : find_member l.name (drop l.at l.json) ≡ find_member l.name l.json;
}

abbrev pub decreases-members : goal.decreases-members
decreases-members l = length l.json - l.at
