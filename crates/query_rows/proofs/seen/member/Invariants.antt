use Rattle.std.proofs.Common.{◌≡◌, drop}
use Rattle.same_text.specs.text_spec.Json.{find_member}
use Rattle.query_rows.proofs.seen.member.Given as goal

abbrev pub invariant-loop-i : goal.invariant-loop-i
invariant-loop-i l = find_member l.name (drop l.i l.members) ≡ find_member l.name l.members
