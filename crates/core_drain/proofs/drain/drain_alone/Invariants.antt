-- So far the core was worked on, no disk of the queue failed, it is up, and nothing is claimed.
use Rattle.std.proofs.Common.{◌≡◌, false}
use Rattle.core_ends.specs.core_state.Puts.{QueueCounts}
use Rattle.core_ends.specs.core_state.Seen.{down_of}
use Rattle.core_ends.specs.core_course.Sight.{Sight, sight}
use Rattle.core_ends.specs.core_course.Work.{Worked}
use Rattle.core_ends.specs.Ends.{NothingClaimed}
use Rattle.core_drain.proofs.drain.drain_alone.Given as goal

abbrev pub invariant-turns : goal.invariant-turns
invariant-turns g l =
    let w : Sight g.row.D.Denot g.row.K.Denot = sight g.D.Disk.is_told g.D.Disk.seen g.D.Disk.may_leave g.D.Disk.moment g.D.Disk.left_since g.D.Disk.fault_count g.K.Keeper.is_told g.K.Keeper.kept g.K.Keeper.images g.K.Keeper.moment g.K.Keeper.images_since g.K.Keeper.down g.K.Keeper.size g.K.Keeper.fault_count g.K.Keeper.opened g.K.Keeper.is_within in
    record {
      worked : Worked w l.fn.core l.core;
      up : down_of g.K.Keeper.down l.core ≡ false;
      calm : QueueCounts g.D.Disk.fault_count l.fn.core.queue l.core.queue ⊥;
      unclaimed : NothingClaimed w l.fn.core l.core;
    }
