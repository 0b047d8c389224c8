-- Files that were laid can be opened.
use Rattle.std.proofs.Common.{◌≡◌, ◌∙◌, ℕ, List, [], ◌∷◌, map, Option, Some, ap}
use Rattle.core_layout.specs.log_spec.ImageOf.{image_of}
use Rattle.core_layout.specs.log_spec.PairImage.{counts, pair_image}
use Rattle.core_layout.proofs.of_log_spec.Pairs.{pair_image_is}
use Rattle.core_layout.specs.record_spec.declared.queue.QueueRecord.{QueueRecord}
use Rattle.core_layout.specs.record_spec.declared.store.StoreRecord.{StoreRecord}
use Rattle.core_layout.specs.queue_records.Reading.{queue_at}
use Rattle.core_layout.proofs.of_queue_records.Records.{queue_again}
use Rattle.core_layout.specs.store_records.Reading.{store_at}
use Rattle.core_layout.proofs.of_store_records.Records.{store_again}
use Rattle.core_layout.specs.core_spec.Damage.{IsQueueFrame, IsStoreFrame, EachIs}
use Rattle.core_submits.specs.fleet_keeper.Opened.{IsRead}
use Rattle.core_submits.specs.fleet_keeper.Pairs.{records_at}
use Rattle.core_submits.specs.fleet_keeper.Records.{records_in}
use Rattle.core_submits.proofs.of_fleet_keeper.Readings.{all_read}
use Rattle.core_layout.specs.core_spec.Files.{Hold}
use Rattle.core_opening.proofs.Opens.{undamaged, stand_found}
use Rattle.command_core.specs.Laid.{LaidFilesStand, LaidFilesAreUndamaged}

-- ---- what is spelt so is read so

module _ {A : Type 0} (IsFrame : List ℕ → A → Type 0) (read : List ℕ → Option A) (reads : (frame : List ℕ) (x : A) → IsFrame frame x → read frame ≡ Some x) where
  each_read : (frames : List (List ℕ)) (xs : List A) → EachIs IsFrame frames xs → EachIs IsRead (map read frames) xs
  each_read [] [] each = tt
  each_read [] (x ∷ xs) each = absurd each
  each_read (f ∷ fs) [] each = absurd each
  each_read (f ∷ fs) (x ∷ xs) each = (reads f x each.0, each_read fs xs each.1)

  held : (a b : List ℕ) (xs : List A) → Hold IsFrame a b xs → records_at read a b ≡ Some xs
  held a b xs hold = ap (records_in read) (pair_image_is a b (counts hold.side hold.generation hold.frames hold.gate) hold.image) ∙ all_read read hold.frames xs (each_read hold.frames xs hold.reads)

queue_frame : (frame : List ℕ) (x : QueueRecord) → IsQueueFrame frame x → queue_at frame ≡ Some x
queue_frame frame x is = ap queue_at is.1 ∙ queue_again x is.0

store_frame : (frame : List ℕ) (x : StoreRecord) → IsStoreFrame frame x → store_at frame ≡ Some x
store_frame frame x is = ap store_at is.1 ∙ store_again x is.0

pub laid_files_stand : LaidFilesStand
laid_files_stand ttls history qa qb sa sb files = record {
  queue_records = files.queued;
  store_records = files.kept;
  queue_is = held IsQueueFrame queue_at queue_frame qa qb files.queued files.queue;
  store_is = held IsStoreFrame store_at store_frame sa sb files.kept files.store;
  stands = files.stands;
}

pub laid_files_are_undamaged : LaidFilesAreUndamaged
laid_files_are_undamaged ttls history qa qb sa sb files file at damage =
    let stand = laid_files_stand ttls history qa qb sa sb files in
    let queue = pair_image (image_of qa) (image_of qb) in
    let store = pair_image (image_of sa) (image_of sb) in
    undamaged queue store stand.queue_records stand.store_records (stand_found ttls queue store history stand) file at damage
