use Rattle.calm_commands.specs.Openings.{disk_sight}
use Rattle.calm_commands.proofs.Compacted.{unopened_run}
use Rattle.calm_commands.proofs.compact.compact_disks.Goals as goal

pub returns-in-Ok : goal.returns-in-Ok
returns-in-Ok g c = c.compact_opened.ensures c.args.disks c.in-Ok.ensures.opened

pub returns-in-Err : goal.returns-in-Err
returns-in-Err g c =
    let d = g.D.Disk in
    let m = g.met.D.Disk in
    let w = disk_sight d.is_told d.seen d.may_leave d.moment d.left_since d.fault_count in
    unopened_run w m.counts_now m.only_now c.args.disks c.in-Err.ended.disks c.in-Err.ended.status c.in-Err.ensures.refused
