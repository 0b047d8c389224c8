use Rattle.std.proofs.Common.{Some, sym, subst, IfOk}
use Rattle.busy_commands.specs.calm_commands.Told.{stream}
use Rattle.busy_commands.specs.calm_commands.Openings.{disk_sight}
use Rattle.busy_commands.specs.calm_commands.Rows.{pattern_sight}
use Rattle.busy_commands.specs.Serving.{front_sight}
use Rattle.fleet_app.specs.Runs.{outside, IsAnyRun, HasRun}
use Rattle.fleet_app.proofs.program.end_of.Goals as goal

pub returns-in-Ok-clause-run : goal.returns-in-Ok-clause-run
returns-in-Ok-clause-run g c =
    let d = g.D.Disk in
    let s = g.S.Source in
    let o = g.O.Sink in
    let f = g.F.Front in
    let p = g.P.Patterns in
    let w = disk_sight d.is_told d.seen d.may_leave d.moment d.left_since d.fault_count in
    let at = c.args in
    let to = c.run_words-status.new in
    let before = outside (stream (s.left at.spool.now) (s.fault_count at.spool.now)) (stream (o.held at.out.now) (o.fault_count at.out.now)) (pattern_sight (p.says at.patterns.now) (p.asked at.patterns.now) (p.refusals at.patterns.now)) in
    let now = outside (stream (s.left to.spool) (s.fault_count to.spool)) (stream (o.held to.out) (o.fault_count to.out)) (pattern_sight (p.says to.patterns) (p.asked to.patterns) (p.refusals to.patterns)) in
    let front = front_sight (f.listens at.front.now) (f.left at.front.now) (f.handed_out at.front.now) (f.given_back at.front.now) (f.fault_count at.front.now) in
    let front_after = front_sight (f.listens to.front) (f.left to.front) (f.handed_out to.front) (f.given_back to.front) (f.fault_count to.front) in
    let run : IsAnyRun w c.in-Ok.words.now front front_after before now c.in-Ok.disks c.run_words-status.result.disks c.run_words-status.result.status = c.run_words-status.ensures.run in
    subst (λ start. IfOk start (λ it. HasRun w it.0.now front front_after before now it.1 (Some c.run_words-status.result.disks) c.run_words-status.result.status)) (sym c.in-Ok.is) run
