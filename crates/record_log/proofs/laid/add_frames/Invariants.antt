use Rattle.std.proofs.Common.{◌≡◌, ◌+◌, ◌++◌, ◌≤◌, length, drop, IsTrue}
use Rattle.fleet_ports.specs.Moments.{LeavesOnly}
use Rattle.log_spec.specs.ImageOf.{frame_texts}
use Rattle.record_log.specs.Lay.{IsShut, AllShut}
use Rattle.log_spec.specs.ImageOf.{AllShort}
use Rattle.record_log.proofs.laid.add_frames.Given as goal

abbrev pub invariant-adding : goal.invariant-adding
invariant-adding g l =
    let d = g.D.Disk in
    let rest = drop l.frame-index l.frames in
    record {
      low : 16 ≤ l.end;
      size : l.end + length (frame_texts rest) ≡ 16 + length (frame_texts l.frames);
      short : AllShort rest;
      end : IsTrue d.is_told → l.end ≡ length (d.seen l.disk);
      written : IsTrue d.is_told → d.seen l.disk ++ frame_texts rest ≡ d.seen l.fn.disk ++ frame_texts l.frames;
      shut : AllShut (d.may_leave l.fn.disk) → AllShut (d.may_leave l.disk);
      moments : AllShut (d.may_leave l.fn.disk) → LeavesOnly d.moment d.left_since l.fn.disk l.disk IsShut;
      later : d.fault_count l.disk ≡ d.fault_count l.fn.disk;
    }
