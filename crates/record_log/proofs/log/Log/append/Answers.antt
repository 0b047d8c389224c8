use Rattle.std.proofs.Common.{IsTrue, ◌++◌, ◌∷◌, [], ◌+◌, length}
use Rattle.record_log.proofs.Standing.{restands}
use Rattle.record_log.proofs.Crash.{past_gate}
use Rattle.record_log.specs.Log.{log_frames}
use Rattle.record_log.proofs.log.Log.append.Goals as goal

pub put_any-requires-clause-told : goal.put_any-requires-clause-told
put_any-requires-clause-told g c told =
    let d = g.D.Disk in
    let log = c.args.self.now in
    let file = d.seen log.disk in
    past_gate file log.generation (log_frames d.seen log) log.gate.place (c.requires.stands file (g.met.D.Disk.seen_may_stay log.disk told))

pub returns-in-Ok-clause-ok : goal.returns-in-Ok-clause-ok
returns-in-Ok-clause-ok g c is =
    let log = c.args.self.now in
    c.in-Ok.ensures.after log.generation (log_frames g.D.Disk.seen log) c.requires.stands

pub returns-in-Ok-clause-again : goal.returns-in-Ok-clause-again
returns-in-Ok-clause-again g c up =
    let d = g.D.Disk in
    let log = c.args.self.now in
    restands d.seen d.may_leave (IsTrue d.is_told) g.met.D.Disk.seen_may_stay g.met.D.Disk.told c.put_any.new.disk log.generation (log_frames d.seen log ++ c.args.frame.now ∷ []) (log.gate.place + 5 + length c.args.frame.now)
    (c.in-Ok.ensures.after log.generation (log_frames d.seen log) c.requires.stands)

pub returns-in-Failed-clause-refused : goal.returns-in-Failed-clause-refused
returns-in-Failed-clause-refused g c is =
    let log = c.args.self.now in
    c.in-Failed.ensures.after log.generation (log_frames g.D.Disk.seen log) c.requires.stands

pub returns-in-Failed-clause-again : goal.returns-in-Failed-clause-again
returns-in-Failed-clause-again g c up =
    let d = g.D.Disk in
    let log = c.args.self.now in
    restands d.seen d.may_leave (IsTrue d.is_told) g.met.D.Disk.seen_may_stay g.met.D.Disk.told c.put_any.new.disk log.generation (log_frames d.seen log) log.gate.place
    (c.in-Failed.ensures.after log.generation (log_frames d.seen log) c.requires.stands)
