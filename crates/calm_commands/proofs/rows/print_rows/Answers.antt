use Rattle.std.proofs.Common.{◌∙◌, ap, sym, subst}
use Rattle.query_answer.specs.fleet_ports.declared.disk.Disks.{Disks}
use Rattle.command_core.specs.core_opening.Opened.{LogCore, disks_in}
use Rattle.calm_commands.specs.Told.{stream}
use Rattle.calm_commands.specs.Openings.{disk_sight}
use Rattle.calm_commands.specs.Rows.{pattern_sight, IsQueryRun}
use Rattle.calm_commands.proofs.Queried.{opened_query, unopened_query}
use Rattle.calm_commands.proofs.rows.print_rows.Goals as goal

pub returns-in-Ok : goal.returns-in-Ok
returns-in-Ok g c =
    let d = g.D.Disk in
    let o = g.O.Sink in
    let p = g.P.Patterns in
    let w = disk_sight d.is_told d.seen d.may_leave d.moment d.left_since d.fault_count in
    let at = c.args in
    let to = c.print_prepared-status.new in
    let answer = c.print_prepared-status.result in
    let e = c.print_prepared-status.ensures in
    let text = at.text.now in
    let patterns = pattern_sight (p.says at.patterns.now) (p.asked at.patterns.now) (p.refusals at.patterns.now) in
    let patterns_after = pattern_sight (p.says to.patterns) (p.asked to.patterns) (p.refusals to.patterns) in
    let out = stream (o.held at.out.now) (o.fault_count at.out.now) in
    let out_after = stream (o.held to.out) (o.fault_count to.out) in
    let run = opened_query w text patterns patterns_after out out_after at.disks answer c.in-Ok.core c.in-Ok.ensures.opened e.ends e.stands e.text e.silent e.same e.write_cause e.pattern_cause in
    subst (λ (x : Disks g.row.D.Denot). IsQueryRun w text patterns patterns_after out out_after at.disks x answer) (sym (c.disks_of.ensures ∙ ap (λ (k : LogCore g.row.D.Denot). disks_in k) e.core)) run

pub returns-in-Err : goal.returns-in-Err
returns-in-Err g c =
    let d = g.D.Disk in
    let o = g.O.Sink in
    let p = g.P.Patterns in
    let w = disk_sight d.is_told d.seen d.may_leave d.moment d.left_since d.fault_count in
    let at = c.args in
    unopened_query w at.text.now (pattern_sight (p.says at.patterns.now) (p.asked at.patterns.now) (p.refusals at.patterns.now)) (stream (o.held at.out.now) (o.fault_count at.out.now)) at.disks c.in-Err.ended.disks c.in-Err.ended.status c.in-Err.ensures.refused
