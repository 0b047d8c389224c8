use Rattle.std.proofs.Common.{refl, []}
use Rattle.spool_run.specs.calm_commands.Openings.{disk_sight}
use Rattle.busy_commands.specs.Serving as so
use Rattle.busy_commands.proofs.Serves.{opened_stands}
use Rattle.busy_commands.proofs.serving.serve_disks.Goals as goal

pub returns-in-Ok : goal.returns-in-Ok
returns-in-Ok g c =
    let d = g.D.Disk in
    let w = disk_sight d.is_told d.seen d.may_leave d.moment d.left_since d.fault_count in
    let opens = c.in-Ok.ensures.opened in
    so.opened_to c.in-Ok.core opens (c.serve_core.ensures c.args.disks [] (opened_stands w c.args.disks c.in-Ok.core opens))

pub returns-in-Err : goal.returns-in-Err
returns-in-Err g c = so.unopened c.in-Err.ensures.refused refl
