use Rattle.std.proofs.Common.{◌-◌, ◌≡◌, length, drop, IsTrue}
use Rattle.fleet_ports.specs.Moments.{Untouched}
use Rattle.fleet_ports.specs.Disks.{Only}
use Rattle.log_spec.specs.ImageOf.{image_of, opened, found}
use Rattle.log_spec.proofs.Walks.{prepends}
use Rattle.record_log.specs.Window.{Shows}
use Rattle.record_log.proofs.open.read_log.Given as goal

abbrev pub invariant-reading : goal.invariant-reading
invariant-reading g l =
    let d = g.D.Disk in
    let file = d.seen l.fn.disk in
    record {
      untouched : Untouched d.seen d.may_leave d.moment d.left_since l.fn.disk l.disk;
      later : d.fault_count l.disk ≡ d.fault_count l.fn.disk;
      durable : Only file (d.may_leave l.disk);
      shows : IsTrue d.is_told → Shows l.window (d.seen l.disk);
      length : IsTrue d.is_told → l.len ≡ length file;
      read : IsTrue d.is_told → image_of file ≡ opened l.generation (prepends l.frames (found l.at (drop l.at file)));
    }

abbrev pub decreases-reading : goal.decreases-reading
decreases-reading g l = l.len - l.at
