use Rattle.std.proofs.Common.{length, ◌-◌, ◌≡◌, ◌≤◌, drop}
use Rattle.wire_spec.specs.text_spec.Json.{find_member}
use Rattle.wire_fields.proofs.member.find.Given as goal

abbrev pub invariant-members : goal.invariant-members
invariant-members l = record {
  within : l.at ≤ length l.json;
  same : find_member l.key (drop l.at l.json) ≡ find_member l.key l.json;
}

abbrev pub decreases-members : goal.decreases-members
decreases-members l = length l.json - l.at
