use Rattle.live_stage.specs.core_ends.core_course.Sight.{sight_of}
use Rattle.live_stage.proofs.Lookups.{caught_up_lasts}
use Rattle.stage_bench.proofs.looks.catch_up.Goals as goal

pub returns-in-Some : goal.returns-in-Some
returns-in-Some g c =
    let caught = c.catch_up.ensures in
    caught_up_lasts (sight_of g.D.Disk g.K.Keeper) c.in-Some.snapshot c.catch_up.new.self c.args.lane.now.seen caught.seen caught.lifetimes caught.trace (rw c.in-Some.is at c.requires)
