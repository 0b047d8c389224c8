use Rattle.std.proofs.Common.{length, ◌-◌, ◌≡◌, ◌≤◌, drop, List}
use Rattle.json_machine.specs.Machine as machine
use Rattle.json_machine.specs.Machine.{verdict}
use Rattle.json_read.specs.Found.{PassesSpace}
use Rattle.json_read.proofs.token.skip.Given as goal

abbrev pub invariant-spaces : goal.invariant-spaces
invariant-spaces l = record {
  past : l.fn.at ≤ l.end;
  within : l.end ≤ length l.bytes;
  same : (fs : List machine.Frame) (m : machine.Mode) → PassesSpace m → verdict 127 fs m l.fn.at (drop l.fn.at l.bytes) ≡ verdict 127 fs m l.end (drop l.end l.bytes);
}

abbrev pub decreases-spaces : goal.decreases-spaces
decreases-spaces l = length l.bytes - l.end
