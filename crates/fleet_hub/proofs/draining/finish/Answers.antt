use Rattle.std.proofs.Common.{◌∙◌, sym}
use Rattle.core_drain.specs.core_course.Sight.{Sight, sight, sight_of}
use Rattle.fleet_hub.proofs.Drains.{finished_store, finished_queue, finished_alone, by_store_down, by_queue_down}
use Rattle.fleet_hub.proofs.draining.finish.Goals as goal

pub returns-in-Store-clause-finished : goal.returns-in-Store-clause-finished
returns-in-Store-clause-finished g c =
    let w : Sight g.row.D.Denot g.row.K.Denot = sight g.D.Disk.is_told g.D.Disk.seen g.D.Disk.may_leave g.D.Disk.moment g.D.Disk.left_since g.D.Disk.fault_count g.K.Keeper.is_told g.K.Keeper.kept g.K.Keeper.images g.K.Keeper.moment g.K.Keeper.images_since g.K.Keeper.down g.K.Keeper.size g.K.Keeper.fault_count g.K.Keeper.opened g.K.Keeper.is_within in
    finished_store w c.args.core.now (sym c.down_by.ensures ∙ c.in-Store.is)

pub returns-in-Queue-clause-finished : goal.returns-in-Queue-clause-finished
returns-in-Queue-clause-finished g c =
    let w : Sight g.row.D.Denot g.row.K.Denot = sight g.D.Disk.is_told g.D.Disk.seen g.D.Disk.may_leave g.D.Disk.moment g.D.Disk.left_since g.D.Disk.fault_count g.K.Keeper.is_told g.K.Keeper.kept g.K.Keeper.images g.K.Keeper.moment g.K.Keeper.images_since g.K.Keeper.down g.K.Keeper.size g.K.Keeper.fault_count g.K.Keeper.opened g.K.Keeper.is_within in
    finished_queue w c.args.core.now (sym c.down_by.ensures ∙ c.in-Queue.is)

pub returns-in-No-clause-finished : goal.returns-in-No-clause-finished
returns-in-No-clause-finished g c =
    let w : Sight g.row.D.Denot g.row.K.Denot = sight g.D.Disk.is_told g.D.Disk.seen g.D.Disk.may_leave g.D.Disk.moment g.D.Disk.left_since g.D.Disk.fault_count g.K.Keeper.is_told g.K.Keeper.kept g.K.Keeper.images g.K.Keeper.moment g.K.Keeper.images_since g.K.Keeper.down g.K.Keeper.size g.K.Keeper.fault_count g.K.Keeper.opened g.K.Keeper.is_within in
    finished_alone w c.drain_alone.result c.args.core.now c.drain_alone.new.core (sym c.down_by.ensures ∙ c.in-No.is) c.drain_alone.ensures.worked c.drain_alone.ensures.ends c.drain_alone.ensures.unclaimed c.drain_alone.ensures.down

pub returns-in-Store-clause-last : goal.returns-in-Store-clause-last
returns-in-Store-clause-last g c = λ up. absurd (by_store_down (sight_of g.D.Disk g.K.Keeper) c.args.core.now (sym c.down_by.ensures ∙ c.in-Store.is) up)

pub returns-in-Queue-clause-last : goal.returns-in-Queue-clause-last
returns-in-Queue-clause-last g c = λ up. absurd (by_queue_down (sight_of g.D.Disk g.K.Keeper) c.args.core.now (sym c.down_by.ensures ∙ c.in-Queue.is) up)

pub returns-in-No-clause-last : goal.returns-in-No-clause-last
returns-in-No-clause-last g c = λ _. c.drain_alone.ensures.last
