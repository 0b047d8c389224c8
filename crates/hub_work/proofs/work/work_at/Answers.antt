use Rattle.std.proofs.Common.{◌∙◌, None, refl}
use Rattle.turn_lock.proofs.Prefixes.{prefix_refl, prefix_trans}
use Rattle.hub_calls.specs.core_ends.core_course.Sight.{Sight, sight}
use Rattle.hub_work.specs.Ends.{none}
use Rattle.hub_work.proofs.Ends.{calls_join, last_later}
use Rattle.hub_work.proofs.work.work_at.Goals as goal

pub turns-init : goal.turns-init
turns-init g c = (refl, refl, prefix_refl c.args.pass.now.seen, prefix_refl c.args.pass.now.holds, none)

pub turns-preserved : goal.turns-preserved
turns-preserved g c =
    let w : Sight g.row.D.Denot g.row.K.Denot = sight g.D.Disk.is_told g.D.Disk.seen g.D.Disk.may_leave g.D.Disk.moment g.D.Disk.left_since g.D.Disk.fault_count g.K.Keeper.is_told g.K.Keeper.kept g.K.Keeper.images g.K.Keeper.moment g.K.Keeper.images_since g.K.Keeper.down g.K.Keeper.size g.K.Keeper.fault_count g.K.Keeper.opened g.K.Keeper.is_within in (
      c.turn.ensures.pass.0 ∙ c.turns.invariant.0,
      c.turn.ensures.pass.1 ∙ c.turns.invariant.1,
      prefix_trans c.args.pass.now.seen c.turns.pass.seen c.turn.new.pass.seen c.turns.invariant.2 c.turn.ensures.pass.2,
      prefix_trans c.args.pass.now.holds c.turns.pass.holds c.turn.new.pass.holds c.turns.invariant.3 c.turn.ensures.pass.3,
      calls_join w g.K.Keeper.generation g.P.Purpose.only_work None None c.args.pass.now c.turns.pass c.turns.invariant.4 None c.turn.new.pass c.in_default.ensures.ends,
    )

pub returns-in-Some-turn-clause-ends : goal.returns-in-Some-turn-clause-ends
returns-in-Some-turn-clause-ends g c =
    let w : Sight g.row.D.Denot g.row.K.Denot = sight g.D.Disk.is_told g.D.Disk.seen g.D.Disk.may_leave g.D.Disk.moment g.D.Disk.left_since g.D.Disk.fault_count g.K.Keeper.is_told g.K.Keeper.kept g.K.Keeper.images g.K.Keeper.moment g.K.Keeper.images_since g.K.Keeper.down g.K.Keeper.size g.K.Keeper.fault_count g.K.Keeper.opened g.K.Keeper.is_within in
    last_later w g.K.Keeper.generation g.P.Purpose.only_work None None c.args.pass.now c.turns.pass c.turns.invariant.4 c.in-Some-turn.end c.turn.new.pass c.in-Some-turn.ensures.ends
