use Rattle.std.proofs.Common.{sym, subst}
use Rattle.query_answer.specs.fleet_ports.declared.disk.Disks.{Disks}
use Rattle.calm_commands.specs.Told.{stream}
use Rattle.calm_commands.specs.Openings.{disk_sight}
use Rattle.command_core.specs.retry_discard.Kept.{DiscardsView}
use Rattle.calm_commands.specs.Calm.{PrintsLines, IsDiscardsRun}
use Rattle.calm_commands.proofs.Opened.{discards_run, unopened_discards}
use Rattle.calm_commands.proofs.discards.print_discards.Goals as goal

pub returns-in-Ok : goal.returns-in-Ok
returns-in-Ok g c =
    let d = g.D.Disk in
    let o = g.O.Sink in
    let w = disk_sight d.is_told d.seen d.may_leave d.moment d.left_since d.fault_count in
    let out = stream (o.held c.args.out.now) (o.fault_count c.args.out.now) in
    let after = stream (o.held c.print_lines-status.new.out) (o.fault_count c.print_lines-status.new.out) in
    let e = c.print_lines-status.ensures in
    let run = discards_run w c.args.disks out after c.print_lines-status.result c.in-Ok.core c.in-Ok.ensures.opened e.silent e.cause e.ends (subst (λ (x : DiscardsView). PrintsLines c.print_lines-status.result x.list (o.held c.args.out.now) (o.held c.print_lines-status.new.out)) c.discards.ensures e.which) in
    subst (λ (x : Disks g.row.D.Denot). IsDiscardsRun w out after c.args.disks x c.print_lines-status.result) (sym c.into_disks.ensures) run

pub returns-in-Err : goal.returns-in-Err
returns-in-Err g c =
    let d = g.D.Disk in
    let o = g.O.Sink in
    let w = disk_sight d.is_told d.seen d.may_leave d.moment d.left_since d.fault_count in
    unopened_discards w c.args.disks c.in-Err.ended.disks (stream (o.held c.args.out.now) (o.fault_count c.args.out.now)) c.in-Err.ended.status c.in-Err.ensures.refused
