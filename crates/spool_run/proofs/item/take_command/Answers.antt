use Rattle.std.proofs.Common.{refl}
use Rattle.fleet_hub.specs.core_course.Sight.{Sight, sight}
use Rattle.spool_run.proofs.Calls.{came_in, queue_failed, submit_spent, submit_starved}
use Rattle.spool_run.proofs.item.take_command.Goals as goal

pub returns-in-Receipt : goal.returns-in-Receipt
returns-in-Receipt g c =
    let w : Sight g.row.D.Denot g.row.K.Denot = sight g.D.Disk.is_told g.D.Disk.seen g.D.Disk.may_leave g.D.Disk.moment g.D.Disk.left_since g.D.Disk.fault_count g.K.Keeper.is_told g.K.Keeper.kept g.K.Keeper.images g.K.Keeper.moment g.K.Keeper.images_since g.K.Keeper.down g.K.Keeper.size g.K.Keeper.fault_count g.K.Keeper.opened g.K.Keeper.is_within in
    came_in w c.args.command c.args.core.now c.submit.new.self c.requires.up c.in-Receipt.field-0 (record { adds = c.in-Receipt.ensures.does.adds; writes = c.in-Receipt.ensures.does.writes; stands = c.in-Receipt.ensures.does.stands; any_moment = c.in-Receipt.ensures.does.any_moment; submitted = c.in-Receipt.ensures.does.submitted; others = c.in-Receipt.ensures.does.others; store = c.in-Receipt.ensures.does.store; down = c.in-Receipt.ensures.does.down; unchanged = c.in-Receipt.ensures.does.unchanged; cause = c.in-Receipt.ensures.does.cause; twice = c.in-Receipt.ensures.does.twice }) (c.in-Receipt.ensures.does.up (λ e. cc))

pub returns-in-QueueFault : goal.returns-in-QueueFault
returns-in-QueueFault g c =
    let w : Sight g.row.D.Denot g.row.K.Denot = sight g.D.Disk.is_told g.D.Disk.seen g.D.Disk.may_leave g.D.Disk.moment g.D.Disk.left_since g.D.Disk.fault_count g.K.Keeper.is_told g.K.Keeper.kept g.K.Keeper.images g.K.Keeper.moment g.K.Keeper.images_since g.K.Keeper.down g.K.Keeper.size g.K.Keeper.fault_count g.K.Keeper.opened g.K.Keeper.is_within in
    queue_failed w c.args.command c.args.core.now c.submit.new.self c.requires.up (record { adds = c.in-QueueFault.ensures.does.adds; writes = c.in-QueueFault.ensures.does.writes; stands = c.in-QueueFault.ensures.does.stands; any_moment = c.in-QueueFault.ensures.does.any_moment; submitted = c.in-QueueFault.ensures.does.submitted; others = c.in-QueueFault.ensures.does.others; store = c.in-QueueFault.ensures.does.store; down = c.in-QueueFault.ensures.does.down; unchanged = c.in-QueueFault.ensures.does.unchanged; cause = c.in-QueueFault.ensures.does.cause; twice = c.in-QueueFault.ensures.does.twice }) (c.in-QueueFault.ensures.does.fault refl).pending c.in-QueueFault.ensures.does.full c.in-QueueFault.ensures.does.unspent

pub returns-in-Spent : goal.returns-in-Spent
returns-in-Spent g c =
    let w : Sight g.row.D.Denot g.row.K.Denot = sight g.D.Disk.is_told g.D.Disk.seen g.D.Disk.may_leave g.D.Disk.moment g.D.Disk.left_since g.D.Disk.fault_count g.K.Keeper.is_told g.K.Keeper.kept g.K.Keeper.images g.K.Keeper.moment g.K.Keeper.images_since g.K.Keeper.down g.K.Keeper.size g.K.Keeper.fault_count g.K.Keeper.opened g.K.Keeper.is_within in
    submit_spent w c.args.command c.args.core.now c.submit.new.self c.requires.up (record { adds = c.in-Spent.ensures.does.adds; writes = c.in-Spent.ensures.does.writes; stands = c.in-Spent.ensures.does.stands; any_moment = c.in-Spent.ensures.does.any_moment; submitted = c.in-Spent.ensures.does.submitted; others = c.in-Spent.ensures.does.others; store = c.in-Spent.ensures.does.store; down = c.in-Spent.ensures.does.down; unchanged = c.in-Spent.ensures.does.unchanged; cause = c.in-Spent.ensures.does.cause; twice = c.in-Spent.ensures.does.twice }) (c.in-Spent.ensures.does.up (λ e. cc)) (c.in-Spent.ensures.does.stays tt) (c.in-Spent.ensures.does.spent refl)

pub returns-in-Memory : goal.returns-in-Memory
returns-in-Memory g c =
    let w : Sight g.row.D.Denot g.row.K.Denot = sight g.D.Disk.is_told g.D.Disk.seen g.D.Disk.may_leave g.D.Disk.moment g.D.Disk.left_since g.D.Disk.fault_count g.K.Keeper.is_told g.K.Keeper.kept g.K.Keeper.images g.K.Keeper.moment g.K.Keeper.images_since g.K.Keeper.down g.K.Keeper.size g.K.Keeper.fault_count g.K.Keeper.opened g.K.Keeper.is_within in
    submit_starved w c.args.command c.args.core.now c.submit.new.self c.requires.up (record { adds = c.in-Memory.ensures.does.adds; writes = c.in-Memory.ensures.does.writes; stands = c.in-Memory.ensures.does.stands; any_moment = c.in-Memory.ensures.does.any_moment; submitted = c.in-Memory.ensures.does.submitted; others = c.in-Memory.ensures.does.others; store = c.in-Memory.ensures.does.store; down = c.in-Memory.ensures.does.down; unchanged = c.in-Memory.ensures.does.unchanged; cause = c.in-Memory.ensures.does.cause; twice = c.in-Memory.ensures.does.twice }) (c.in-Memory.ensures.does.up (λ e. cc)) (c.in-Memory.ensures.does.stays tt).memory.pending
