use Rattle.std.proofs.Common.{length, ◌-◌, ◌≡◌, ◌≤◌, drop, []}
use Rattle.json_machine.specs.Machine.{verdict, value}
use Rattle.json_read.specs.Found.{frames_of, mode_of, Fits, FitsMode}
use Rattle.json_read.proofs.reader.follow.Given as goal

abbrev pub invariant-reading : goal.invariant-reading
invariant-reading l = record {
  within : l.at ≤ length l.bytes;
  fits : Fits (frames_of l.frames.items);
  mode : FitsMode (length l.frames.items) l.mode;
  same : verdict 127 (frames_of l.frames.items) (mode_of l.mode) l.at (drop l.at l.bytes) ≡ verdict 127 [] value 0 l.bytes;
}

abbrev pub decreases-reading : goal.decreases-reading
decreases-reading l = length l.bytes - l.at
