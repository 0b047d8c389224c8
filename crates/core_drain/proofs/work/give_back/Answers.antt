use Rattle.std.proofs.Common.{◌∙◌}
use Rattle.core_ends.specs.core_state.StandsFor.{history_of}
use Rattle.core_ends.specs.core_course.Sight.{Sight, sight}
use Rattle.core_ends.proofs.Releases.{ReleaseSays, release_works, release_down}
use Rattle.core_drain.proofs.Unclaimed.{lets_by_release}
use Rattle.core_drain.proofs.work.give_back.Goals as goal

pub returns-clause-worked : goal.returns-clause-worked
returns-clause-worked g c =
    let w : Sight g.row.D.Denot g.row.K.Denot = sight g.D.Disk.is_told g.D.Disk.seen g.D.Disk.may_leave g.D.Disk.moment g.D.Disk.left_since g.D.Disk.fault_count g.K.Keeper.is_told g.K.Keeper.kept g.K.Keeper.images g.K.Keeper.moment g.K.Keeper.images_since g.K.Keeper.down g.K.Keeper.size g.K.Keeper.fault_count g.K.Keeper.opened g.K.Keeper.is_within in
    release_works w c.args.job.receipt c.args.core.now c.release.new.self (record {
      released = c.release.ensures.does.released;
      unchanged = c.release.ensures.does.unchanged;
      stands = c.release.ensures.does.stands;
      submitted = c.release.ensures.does.submitted;
      others = c.release.ensures.does.others;
      queue = c.release.ensures.does.queue;
      store = c.release.ensures.does.store;
    })

pub returns-clause-up : goal.returns-clause-up
returns-clause-up g c =
    let w : Sight g.row.D.Denot g.row.K.Denot = sight g.D.Disk.is_told g.D.Disk.seen g.D.Disk.may_leave g.D.Disk.moment g.D.Disk.left_since g.D.Disk.fault_count g.K.Keeper.is_told g.K.Keeper.kept g.K.Keeper.images g.K.Keeper.moment g.K.Keeper.images_since g.K.Keeper.down g.K.Keeper.size g.K.Keeper.fault_count g.K.Keeper.opened g.K.Keeper.is_within in
    let says : ReleaseSays w c.args.job.receipt c.args.core.now c.release.new.self = record {
      released = c.release.ensures.does.released;
      unchanged = c.release.ensures.does.unchanged;
      stands = c.release.ensures.does.stands;
      submitted = c.release.ensures.does.submitted;
      others = c.release.ensures.does.others;
      queue = c.release.ensures.does.queue;
      store = c.release.ensures.does.store;
    } in
    release_down w c.args.job.receipt c.args.core.now c.release.new.self says ∙ c.requires.up

pub returns-clause-lets_go : goal.returns-clause-lets_go
returns-clause-lets_go g c up start stood =
    lets_by_release c.args.job.receipt (history_of c.args.core.now start) (history_of c.release.new.self start) (c.release.ensures.does.gives start stood c.requires.up)

pub returns-clause-queue : goal.returns-clause-queue
returns-clause-queue g c = c.release.ensures.does.queue
