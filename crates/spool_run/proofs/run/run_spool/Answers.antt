use Rattle.calm_commands.specs.Told.{stream}
use Rattle.calm_commands.specs.Openings.{disk_sight}
use Rattle.spool_run.proofs.RunEnds.{run_of_unopened}
use Rattle.spool_run.proofs.run.run_spool.Goals as goal

pub returns-in-Ok : goal.returns-in-Ok
returns-in-Ok g c = c.run_opened.ensures c.args.disks c.in-Ok.ensures.opened

pub returns-in-Err : goal.returns-in-Err
returns-in-Err g c =
    let d = g.D.Disk in
    let s = g.S.Source in
    let o = g.O.Sink in
    let w = disk_sight d.is_told d.seen d.may_leave d.moment d.left_since d.fault_count in
    let spool = stream (s.left c.args.spool.now) (s.fault_count c.args.spool.now) in
    let out = stream (o.held c.args.out.now) (o.fault_count c.args.out.now) in
    run_of_unopened w c.args.now spool out c.args.disks c.in-Err.ended.disks c.in-Err.ended.status c.in-Err.ensures.refused
