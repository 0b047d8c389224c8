use Rattle.std.proofs.Common.{sym, subst}
use Rattle.query_answer.specs.fleet_ports.declared.disk.Disks.{Disks}
use Rattle.calm_commands.specs.Told.{stream}
use Rattle.calm_commands.specs.Openings.{disk_sight}
use Rattle.command_core.specs.retry_discard.Kept.{DiscardsView, dead_at}
use Rattle.calm_commands.specs.Calm.{PrintsPayload, IsPayloadRun}
use Rattle.calm_commands.proofs.Opened.{payload_run, unopened_payload}
use Rattle.calm_commands.proofs.payload.print_payload.Goals as goal

pub returns-in-Ok : goal.returns-in-Ok
returns-in-Ok g c =
    let d = g.D.Disk in
    let o = g.O.Sink in
    let w = disk_sight d.is_told d.seen d.may_leave d.moment d.left_since d.fault_count in
    let out = stream (o.held c.args.out.now) (o.fault_count c.args.out.now) in
    let after = stream (o.held c.print_bytes-status.new.out) (o.fault_count c.print_bytes-status.new.out) in
    let e = c.print_bytes-status.ensures in
    let run = payload_run w c.args.disks out after c.print_bytes-status.result c.in-Ok.core c.in-Ok.ensures.opened e.silent e.cause c.args.receipt e.ends (subst (λ (x : DiscardsView). PrintsPayload c.print_bytes-status.result c.args.receipt (dead_at c.args.receipt x.list) (o.held c.args.out.now) (o.held c.print_bytes-status.new.out)) c.discards.ensures e.which) in
    subst (λ (x : Disks g.row.D.Denot). IsPayloadRun w c.args.receipt out after c.args.disks x c.print_bytes-status.result) (sym c.into_disks.ensures) run

pub returns-in-Err : goal.returns-in-Err
returns-in-Err g c =
    let d = g.D.Disk in
    let o = g.O.Sink in
    let w = disk_sight d.is_told d.seen d.may_leave d.moment d.left_since d.fault_count in
    unopened_payload w c.args.disks c.in-Err.ended.disks (stream (o.held c.args.out.now) (o.fault_count c.args.out.now)) c.in-Err.ended.status c.in-Err.ensures.refused c.args.receipt
