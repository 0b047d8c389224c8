use Rattle.std.proofs.Common.{sym, subst}
use Rattle.spool_text.specs.fleet_ports.declared.disk.Disks.{Disks}
use Rattle.calm_commands.specs.Told.{stream}
use Rattle.calm_commands.specs.Openings.{disk_sight}
use Rattle.spool_run.specs.Runs.{IsRun}
use Rattle.spool_run.proofs.run.run_opened.Goals as goal

pub returns : goal.returns
returns g c disks opens =
    let d = g.D.Disk in
    let s = g.S.Source in
    let o = g.O.Sink in
    let w = disk_sight d.is_told d.seen d.may_leave d.moment d.left_since d.fault_count in
    let spool = stream (s.left c.args.spool.now) (s.fault_count c.args.spool.now) in
    let spool_after = stream (s.left c.run_core-core.new.spool) (s.fault_count c.run_core-core.new.spool) in
    let out = stream (o.held c.args.out.now) (o.fault_count c.args.out.now) in
    let out_after = stream (o.held c.run_core-core.new.out) (o.fault_count c.run_core-core.new.out) in
    subst (λ (x : Disks g.row.D.Denot). IsRun w c.args.now spool spool_after out out_after disks x c.run_core-core.result.status) (sym c.into_disks.ensures) (c.run_core-core.ensures disks opens).run
