use Rattle.std.proofs.Common.{subst}
use Rattle.fleet_hub.specs.core_state.declared.tally.Tally.{Tally}
use Rattle.calm_commands.specs.Told.{stream}
use Rattle.calm_commands.specs.Openings.{disk_sight}
use Rattle.spool_run.specs.Summary.{summary_text, Closes}
use Rattle.spool_run.proofs.RunEnds.{run_of_opened, leaves_open}
use Rattle.spool_run.proofs.run.run_core.Goals as goal

pub returns : goal.returns
returns g c disks opens =
    let d = g.D.Disk in
    let s = g.S.Source in
    let o = g.O.Sink in
    let w = disk_sight d.is_told d.seen d.may_leave d.moment d.left_since d.fault_count in
    let e = c.take_spool-core.ensures in
    let spool = stream (s.left c.args.spool.now) (s.fault_count c.args.spool.now) in
    let spool_after = stream (s.left c.take_spool-core.new.spool) (s.fault_count c.take_spool-core.new.spool) in
    let out = stream (o.held c.args.out.now) (o.fault_count c.args.out.now) in
    let out_after = stream (o.held c.close-status.new.out) (o.fault_count c.close-status.new.out) in
    let closes = subst (λ (t : Tally). Closes c.take_spool-core.result.end (summary_text t) out out_after c.close-status.result) c.tally.ensures c.close-status.ensures in
    record {
      run = run_of_opened w c.args.now spool spool_after out out_after disks c.args.core opens c.take_spool-core.result.core c.is_sound.ensures c.take_spool-core.result.end e.ends e.read_cause c.close-status.result closes;
      leaves = λ done. leaves_open w c.args.now spool out out_after disks c.args.core opens c.take_spool-core.result.core c.is_sound.ensures spool_after.bytes c.take_spool-core.result.end e.ends c.close-status.result closes done;
    }
