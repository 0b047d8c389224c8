use Rattle.core_ends.specs.core_course.Sight.{sight_of}
use Rattle.live_stage.specs.StageCalls.{was_released}
use Rattle.live_stage.proofs.Holds.{one_hold}
use Rattle.live_stage.proofs.under_lock.release.Goals as goal

pub returns-clause-call : goal.returns-clause-call
returns-clause-call g c =
    let r = c.hold.ensures.one_hold in
    let m = r.5.met in
    let a = m.1.1.0 in (
      a.events,
      a.only,
      one_hold (sight_of g.D.Disk g.K.Keeper) g.K.Keeper.generation (was_released c.args.job a.events) c.args.pass.now c.hold.new.pass r.0 r.1 r.2 r.5.shown.now r.5.left.now r.5.shows r.5.leaves
          a.list m.1.0 m.1.1.1.0 (m.0, a.events_are, a.only) m.1.1.1.1 r.3 r.7 r.8,
    )
