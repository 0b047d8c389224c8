use Rattle.std.proofs.Common.{◌∙◌, sym, ap}
use Rattle.busy_commands.proofs.of_plain_laws.Booleans.{never}
use Rattle.busy_commands.proofs.of_plain_laws.Options.{none_some, some_is}
use Rattle.busy_commands.specs.calm_commands.Openings.{disk_sight}
use Rattle.busy_commands.specs.calm_commands.Told.{stream}
use Rattle.busy_commands.specs.calm_commands.Rows.{pattern_sight}
use Rattle.fleet_app.specs.Runs.{outside}
use Rattle.fleet_app.proofs.CalmUsage.{ran, none_calm, unasked, unread}
use Rattle.fleet_app.proofs.calm.run_calm.Goals as goal

pub returns-then-is_calm-clause-run : goal.returns-then-is_calm-clause-run
returns-then-is_calm-clause-run g c =
    let d = g.D.Disk in
    let s = g.S.Source in
    let o = g.O.Sink in
    let p = g.P.Patterns in
    let w = disk_sight d.is_told d.seen d.may_leave d.moment d.left_since d.fault_count in
    let at = c.args in
    let to = c.run_request.new in
    let before = outside (stream (s.left at.spool.now) (s.fault_count at.spool.now)) (stream (o.held at.out.now) (o.fault_count at.out.now)) (pattern_sight (p.says at.patterns.now) (p.asked at.patterns.now) (p.refusals at.patterns.now)) in
    let now = outside (stream (s.left to.spool) (s.fault_count to.spool)) (stream (o.held to.out) (o.fault_count to.out)) (pattern_sight (p.says to.patterns) (p.asked to.patterns) (p.refusals to.patterns)) in
    let asked = c.in-Some.asked.request in
    let every = rw c.in-Some.is at c.in-Ok.ensures.every in
    let e = c.run_request.ensures in
    ran w at.words.now before now at.disks c.run_request.result.disks c.run_request.result.status asked (rw c.in-Some.is at c.in-Ok.ensures.some) (λ q is. some_is q asked (sym (every q is)))
    (c.is_calm.ensures.0 c.if-is_calm.true) e.run e.useful

pub returns-else-is_calm-clause-run : goal.returns-else-is_calm-clause-run
returns-else-is_calm-clause-run g c =
    let d = g.D.Disk in
    let s = g.S.Source in
    let o = g.O.Sink in
    let p = g.P.Patterns in
    let w = disk_sight d.is_told d.seen d.may_leave d.moment d.left_since d.fault_count in
    let at = c.args in
    let before = outside (stream (s.left at.spool.now) (s.fault_count at.spool.now)) (stream (o.held at.out.now) (o.fault_count at.out.now)) (pattern_sight (p.says at.patterns.now) (p.asked at.patterns.now) (p.refusals at.patterns.now)) in
    let asked = c.in-Some.asked.request in
    let every = rw c.in-Some.is at c.in-Ok.ensures.every in
    unasked w at.words.now before at.disks c.unused.result.disks c.unused.result.status c.unused.ensures.status c.unused.ensures.disks
    (none_calm at.words.now asked (λ q is. some_is q asked (sym (every q is))) (λ calm. never c.is_calm.result (c.is_calm.ensures.1 calm) c.if-is_calm.false))

pub returns-in-None-clause-run : goal.returns-in-None-clause-run
returns-in-None-clause-run g c =
    let d = g.D.Disk in
    let s = g.S.Source in
    let o = g.O.Sink in
    let p = g.P.Patterns in
    let w = disk_sight d.is_told d.seen d.may_leave d.moment d.left_since d.fault_count in
    let at = c.args in
    let before = outside (stream (s.left at.spool.now) (s.fault_count at.spool.now)) (stream (o.held at.out.now) (o.fault_count at.out.now)) (pattern_sight (p.says at.patterns.now) (p.asked at.patterns.now) (p.refusals at.patterns.now)) in
    let every = rw c.in-None.is at c.in-Ok.ensures.every in
    unasked w at.words.now before at.disks c.unused-in-None.result.disks c.unused-in-None.result.status c.unused-in-None.ensures.status c.unused-in-None.ensures.disks
    (λ command. none_some command.0 (every command.0 command.1))

pub returns-in-Err-clause-run : goal.returns-in-Err-clause-run
returns-in-Err-clause-run g c =
    let d = g.D.Disk in
    let s = g.S.Source in
    let o = g.O.Sink in
    let p = g.P.Patterns in
    let w = disk_sight d.is_told d.seen d.may_leave d.moment d.left_since d.fault_count in
    let at = c.args in
    let before = outside (stream (s.left at.spool.now) (s.fault_count at.spool.now)) (stream (o.held at.out.now) (o.fault_count at.out.now)) (pattern_sight (p.says at.patterns.now) (p.asked at.patterns.now) (p.refusals at.patterns.now)) in
    unread w at.words.now before at.disks c.unread.result.disks c.unread.result.status c.unread.ensures.status c.unread.ensures.disks
