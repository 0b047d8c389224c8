use Rattle.std.proofs.Common.{◌≡◌, true}
use Rattle.core_course.specs.Sight.{Sight, sight}
use Rattle.core_course.proofs.Uses.{images_amid}
use Rattle.core_course.proofs.laws.last_images_stand.Goals as goal

pub returns : goal.returns
returns g c may old new course up start stood =
    let w : Sight g.row.D.Denot g.row.K.Denot = sight g.D.Disk.is_told g.D.Disk.seen g.D.Disk.may_leave g.D.Disk.moment g.D.Disk.left_since g.D.Disk.fault_count g.K.Keeper.is_told g.K.Keeper.kept g.K.Keeper.images g.K.Keeper.moment g.K.Keeper.images_since g.K.Keeper.down g.K.Keeper.size g.K.Keeper.fault_count g.K.Keeper.opened g.K.Keeper.is_within in
    images_amid w (λ core begun. may core begun ≡ true) g.met.D.Disk.counts_now old new course.stops course.linked up start stood
