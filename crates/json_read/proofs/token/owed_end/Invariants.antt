use Rattle.std.proofs.Common.{length, ◌≡◌, ◌≤◌, drop}
use Rattle.json_machine.specs.Machine.{owed_verdict}
use Rattle.json_read.proofs.token.owed_end.Given as goal

abbrev pub invariant-bytes : goal.invariant-bytes
invariant-bytes l = record {
  past : l.fn.at ≤ l.end;
  within : l.end ≤ length l.bytes;
  same : owed_verdict (drop l.expected-index l.owed) l.end (drop l.end l.bytes) ≡ owed_verdict l.owed l.fn.at (drop l.fn.at l.bytes);
}
