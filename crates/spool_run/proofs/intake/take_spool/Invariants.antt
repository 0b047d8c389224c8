use Rattle.std.proofs.Common.{◌≡◌, ◌≤◌, ◌-◌}
use Rattle.fleet_hub.specs.core_course.Sight.{sight}
use Rattle.spool_text.specs.Next.{unread, place}
use Rattle.spool_run.specs.Steps.{SoFar}
use Rattle.spool_run.proofs.intake.take_spool.Given as goal
use Rattle.program_words.specs.spool_spec.Limits.{most_spool}

abbrev pub invariant-items : goal.invariant-items
invariant-items g l = record {
  so_far : SoFar (sight g.D.Disk.is_told g.D.Disk.seen g.D.Disk.may_leave g.D.Disk.moment g.D.Disk.left_since g.D.Disk.fault_count g.K.Keeper.is_told g.K.Keeper.kept g.K.Keeper.images g.K.Keeper.moment g.K.Keeper.images_since g.K.Keeper.down g.K.Keeper.size g.K.Keeper.fault_count g.K.Keeper.opened g.K.Keeper.is_within) l.now (g.S.Source.left l.fn.spool) (unread l.reader (g.S.Source.left l.spool)) (place l.reader) l.fn.core l.core;
  within : place l.reader ≤ most_spool;
  later : g.S.Source.fault_count l.spool ≡ g.S.Source.fault_count l.fn.spool;
}

abbrev pub decreases-items : goal.decreases-items
decreases-items g l = most_spool - place l.reader
