use Rattle.std.proofs.Common.{◌≡◌, drop}
use Rattle.fleet_rows.specs.text_spec.Json.{find_member}
use Rattle.fact_paths.proofs.names.member.Given as goal

abbrev pub invariant-loop-at : goal.invariant-loop-at
invariant-loop-at l = find_member l.name (drop l.at l.members) ≡ find_member l.name l.members
