use Rattle.std.proofs.Common.{◌≡◌, ◌-◌, false}
use Rattle.record_log.specs.Log.{StandsFor, down_of, log_frames}
use Rattle.fleet_bench.proofs.log.append_all.Given as goal

abbrev pub invariant-appending : goal.invariant-appending
invariant-appending g l =
    let d = g.D.Disk in
    record {
      up : down_of l.log ≡ false;
      stands : StandsFor d.may_leave l.log (log_frames d.seen l.log);
    }

abbrev pub decreases-appending : goal.decreases-appending
decreases-appending g l = l.count - l.done
