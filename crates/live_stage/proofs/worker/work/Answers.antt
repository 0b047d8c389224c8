use Rattle.std.proofs.Common.{◌∙◌, None, refl}
use Rattle.core_ends.specs.core_course.Sight.{sight_of}
use Rattle.live_stage.specs.WorkEnds.{next_at}
use Rattle.live_stage.proofs.Holds.{works_not, works_join, turns_later, turns_work}
use Rattle.live_stage.proofs.worker.work.Goals as goal

pub turns-init : goal.turns-init
turns-init g c = (refl, refl, works_not (sight_of g.D.Disk g.K.Keeper) g.K.Keeper.generation None c.args.pass.now)

pub turns-preserved : goal.turns-preserved
turns-preserved g c = (
  c.one_turn.ensures.pass.0 ∙ c.turns.invariant.0,
  c.one_turn.ensures.pass.1 ∙ c.turns.invariant.1,
  works_join (sight_of g.D.Disk g.K.Keeper) g.K.Keeper.generation None None None c.args.pass.now c.turns.pass c.one_turn.new.pass c.turns.invariant.2 c.in_default.ensures.ends,
)

pub returns-in-Some-one_turn-clause-works : goal.returns-in-Some-one_turn-clause-works
returns-in-Some-one_turn-clause-works g c =
    let w = sight_of g.D.Disk g.K.Keeper in
    let n = g.K.Keeper.generation in
    works_join w n None None None c.args.pass.now c.turns.pass c.one_turn.new.pass c.turns.invariant.2
    (turns_work w n (next_at c.in-Some-one_turn.stop) None c.turns.pass c.one_turn.new.pass c.in-Some-one_turn.ensures.ends)

pub returns-in-Some-one_turn-clause-ends : goal.returns-in-Some-one_turn-clause-ends
returns-in-Some-one_turn-clause-ends g c =
    turns_later (sight_of g.D.Disk g.K.Keeper) g.K.Keeper.generation (next_at c.in-Some-one_turn.stop) None None c.args.pass.now c.turns.pass c.one_turn.new.pass c.turns.invariant.2 c.in-Some-one_turn.ensures.ends
