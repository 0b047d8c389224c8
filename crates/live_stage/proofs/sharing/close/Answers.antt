use Rattle.core_ends.specs.core_course.Sight.{sight_of}
use Rattle.live_stage.proofs.Closing.{closes}
use Rattle.live_stage.proofs.sharing.close.Goals as goal

pub returns : goal.returns
returns g c =
    let e = c.into_core.ensures in
    closes (sight_of g.D.Disk g.K.Keeper) g.K.Keeper.generation c.args.lock.opening c.args.pass c.close.result c.into_core.result
    c.close.ensures.seen c.close.ensures.opening c.close.ensures.holds e.core e.follows e.causes
