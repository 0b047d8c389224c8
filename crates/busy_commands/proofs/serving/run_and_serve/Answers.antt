use Rattle.spool_run.specs.calm_commands.Openings.{disk_sight}
use Rattle.spool_run.specs.calm_commands.Rows.{pattern_sight}
use Rattle.spool_run.specs.calm_commands.Told.{stream}
use Rattle.spool_run.proofs.RunEnds.{run_of_unopened}
use Rattle.std.proofs.Common.{refl}
use Rattle.busy_commands.specs.Serving as so
use Rattle.busy_commands.specs.Serving.{front_sight, front_and_patterns}
use Rattle.busy_commands.proofs.Serves.{served_run, never_done}
use Rattle.busy_commands.proofs.serving.run_and_serve.Goals as goal

pub returns-in-Ok : goal.returns-in-Ok
returns-in-Ok g c =
    let d = g.D.Disk in
    let f = g.F.Front in
    let p = g.P.Patterns in
    let w = disk_sight d.is_told d.seen d.may_leave d.moment d.left_since d.fault_count in
    let s = g.S.Source in
    let o = g.O.Sink in
    let spool = stream (s.left c.args.spool.now) (s.fault_count c.args.spool.now) in
    let spool_after = stream (s.left c.run_core-core.new.spool) (s.fault_count c.run_core-core.new.spool) in
    let out = stream (o.held c.args.out.now) (o.fault_count c.args.out.now) in
    let out_after = stream (o.held c.run_core-core.new.out) (o.fault_count c.run_core-core.new.out) in
    let before = front_and_patterns (front_sight (f.listens c.args.front.now) (f.left c.args.front.now) (f.handed_out c.args.front.now) (f.given_back c.args.front.now) (f.fault_count c.args.front.now)) (pattern_sight (p.says c.args.patterns.now) (p.asked c.args.patterns.now) (p.refusals c.args.patterns.now)) in
    let after = front_and_patterns (front_sight (f.listens c.serve_behind.new.front) (f.left c.serve_behind.new.front) (f.handed_out c.serve_behind.new.front) (f.given_back c.serve_behind.new.front) (f.fault_count c.serve_behind.new.front)) (pattern_sight (p.says c.serve_behind.new.patterns) (p.asked c.serve_behind.new.patterns) (p.refusals c.serve_behind.new.patterns)) in
    served_run w c.args.now c.args.serving spool spool_after out out_after before after c.args.disks c.serve_behind.result.disks c.run_core-core.result.core c.run_core-core.result.status c.serve_behind.result.status
    (c.run_core-core.ensures c.args.disks c.in-Ok.ensures.opened) c.serve_behind.ensures

pub returns-in-Err : goal.returns-in-Err
returns-in-Err g c =
    let d = g.D.Disk in
    let w = disk_sight d.is_told d.seen d.may_leave d.moment d.left_since d.fault_count in
    let s = g.S.Source in
    let o = g.O.Sink in
    let spool = stream (s.left c.args.spool.now) (s.fault_count c.args.spool.now) in
    let out = stream (o.held c.args.out.now) (o.fault_count c.args.out.now) in
    let refused = c.in-Err.ensures.refused in
    so.stops (never_done c.in-Err.ended.status refused.ends) (run_of_unopened w c.args.now spool out c.args.disks c.in-Err.ended.disks c.in-Err.ended.status refused) refl
