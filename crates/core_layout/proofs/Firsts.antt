-- The first records of the two logs stand for the empty history.
use Rattle.std.proofs.Common.{inl, ℕ, ◌+◌, List, [], ◌∷◌, map, length, Option, Some, None, refl, subst, lit≤, IfSome}
use Rattle.std.specs.List.{AllByRecursion}
use Rattle.core_spec.specs.log_spec.ImageOf.{frame_texts}
use Rattle.core_spec.specs.log_spec.PairImage.{PairImage, IsPairImage}
use Rattle.core_spec.specs.log_spec.declared.side.Side.TheVariants.{A}
use Rattle.core_spec.proofs.of_log_spec.Pairs.{is_pair_image}
use Rattle.log_pair.specs.Lay.{laid_pair}
use Rattle.log_pair.specs.Pair.{IsPair}
use Rattle.queue_records.specs.fleet_rows.Lifetime.{IsReportCount}
use Rattle.queue_records.specs.fleet_rows.declared.settings.Ttls.{Ttls}
use Rattle.queue_records.specs.record_spec.declared.store.StoreRecord.TheVariants as store
use Rattle.queue_records.specs.record_spec.Queue.{queue_text, IsQueueRecord}
use Rattle.queue_records.specs.record_spec.Store.{store_text, IsStoreRecord}
use Rattle.core_spec.specs.Checkpoints.{settings, settings_with}
use Rattle.core_spec.specs.Damage.{IsStoreLog}
use Rattle.core_spec.specs.Stands.{Stands}
use Rattle.core_spec.specs.Files.{HoldQueue, HoldStore, FilesStand}
use Rattle.core_layout.specs.Records.{first_queued, first_kept}
use Rattle.core_layout.specs.Layout.{IsQueueLaid, IsStoreLaid, IsAllLaid}

-- ---- they are records

queue_records : AllByRecursion IsQueueRecord first_queued
queue_records = (lit≤ tt, tt)

settings_are : (ttls : Ttls) (count : Option ℕ) → IfSome count IsReportCount → IsStoreRecord (settings_with ttls count)
settings_are ttls None c = (ttls.node, ttls.purge, ttls.report)
settings_are ttls (Some n) c = ((ttls.node, ttls.purge, ttls.report), c)

settings_are_lawful : (ttls : Ttls) → IsStoreRecord (settings ttls)
settings_are_lawful ttls = settings_are ttls ttls.report_count ttls.count

-- ---- they stand for the empty history

store_log : (ttls : Ttls) (count : Option ℕ) → IsStoreLog (settings_with ttls count ∷ store.Base None None None ∷ [])
store_log ttls None = (lit≤ tt, (refl, (refl, tt)))
store_log ttls (Some n) = (lit≤ tt, (refl, (refl, tt)))

stand : (ttls : Ttls) → Stands ttls first_queued (first_kept ttls) []
stand ttls = record {
  legal = tt;
  few = tt;
  at_once = tt;
  store = record { later = []; upto = []; whole = refl; start = first_kept ttls; starts = (None, tt, inl refl); says = refl };
  queue = inl (record { later = []; upto = []; whole = refl; few = tt; says = refl });
  queue_log = (lit≤ tt, (refl, tt));
  store_log = store_log ttls ttls.report_count;
  done = λ missing is. absurd (cc);
}

-- ---- and so do the files that hold them

images : (frames : List (List ℕ)) (a b : List ℕ) → IsPair (laid_pair frames) a b → IsPairImage a b (laid_pair frames)
images frames a b is = subst (λ (image : PairImage). IsPairImage a b image) is (is_pair_image a b)

queue_holds : (a b : List ℕ) → IsQueueLaid a b → HoldQueue a b first_queued
queue_holds a b is = record {
  side = A;
  generation = 1;
  frames = map queue_text first_queued;
  gate = 16 + length (frame_texts (map queue_text first_queued));
  image = images (map queue_text first_queued) a b is;
  reads = ((queue_records.0, refl), tt);
}

store_holds : (ttls : Ttls) (a b : List ℕ) → IsStoreLaid ttls a b → HoldStore a b (first_kept ttls)
store_holds ttls a b is = record {
  side = A;
  generation = 1;
  frames = map store_text (first_kept ttls);
  gate = 16 + length (frame_texts (map store_text (first_kept ttls)));
  image = images (map store_text (first_kept ttls)) a b is;
  reads = ((settings_are_lawful ttls, refl), (((tt, tt, tt), refl), tt));
}

pub files_stand : (ttls : Ttls) (queue_a queue_b store_a store_b : List ℕ) → IsAllLaid ttls queue_a queue_b store_a store_b → FilesStand ttls [] queue_a queue_b store_a store_b
files_stand ttls queue_a queue_b store_a store_b laid = record {
  queued = first_queued;
  kept = first_kept ttls;
  queue = queue_holds queue_a queue_b laid.0;
  store = store_holds ttls store_a store_b laid.1;
  stands = stand ttls;
}
