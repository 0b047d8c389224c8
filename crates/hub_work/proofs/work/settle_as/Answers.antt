use Rattle.std.proofs.Common.{◌∙◌, Some}
use Rattle.turn_lock.proofs.Prefixes.{prefix_trans}
use Rattle.hub_calls.specs.core_ends.core_course.Sight.{Sight, sight}
use Rattle.hub_work.proofs.Ends.{last_later, settle_returns, last_settle}
use Rattle.hub_work.proofs.work.settle_as.Goals as goal

pub returns-in-Memory-clause-pass : goal.returns-in-Memory-clause-pass
returns-in-Memory-clause-pass g c =
    let settled = c.settle.ensures.pass in
    let given = c.give_back.ensures.pass in (
      given.0 ∙ settled.0,
      given.1 ∙ settled.1,
      prefix_trans c.args.pass.now.seen c.settle.new.pass.seen c.give_back.new.pass.seen settled.2 given.2,
      prefix_trans c.args.pass.now.holds c.settle.new.pass.holds c.give_back.new.pass.holds settled.3 given.3,
    )

pub returns-in-Memory-clause-ends : goal.returns-in-Memory-clause-ends
returns-in-Memory-clause-ends g c =
    let w : Sight g.row.D.Denot g.row.K.Denot = sight g.D.Disk.is_told g.D.Disk.seen g.D.Disk.may_leave g.D.Disk.moment g.D.Disk.left_since g.D.Disk.fault_count g.K.Keeper.is_told g.K.Keeper.kept g.K.Keeper.images g.K.Keeper.moment g.K.Keeper.images_since g.K.Keeper.down g.K.Keeper.size g.K.Keeper.fault_count g.K.Keeper.opened g.K.Keeper.is_within in
    last_later w g.K.Keeper.generation g.P.Purpose.only_work (Some c.args.job) (Some c.in-Memory.job) c.args.pass.now c.settle.new.pass
    (settle_returns w g.K.Keeper.generation g.P.Purpose.only_work c.args.pass.now c.settle.new.pass c.settle.result c.args.job c.in-Memory.job c.args.verdict c.in-Memory.field-1 c.in-Memory.is c.settle.ensures.one_call)
    c.give_back.result c.give_back.new.pass c.give_back.ensures.ends

pub returns-in_default-clause-ends : goal.returns-in_default-clause-ends
returns-in_default-clause-ends g c =
    let w : Sight g.row.D.Denot g.row.K.Denot = sight g.D.Disk.is_told g.D.Disk.seen g.D.Disk.may_leave g.D.Disk.moment g.D.Disk.left_since g.D.Disk.fault_count g.K.Keeper.is_told g.K.Keeper.kept g.K.Keeper.images g.K.Keeper.moment g.K.Keeper.images_since g.K.Keeper.down g.K.Keeper.size g.K.Keeper.fault_count g.K.Keeper.opened g.K.Keeper.is_within in
    last_settle w g.K.Keeper.generation g.P.Purpose.only_work c.args.pass.now c.settle.new.pass c.settle.result c.args.job c.args.verdict c.end_of_settle.result c.in_default.not-Memory c.end_of_settle.ensures c.settle.ensures.one_call
