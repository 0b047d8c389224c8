-- The images of the four disks within a laying.
use Rattle.std.proofs.Common.{◌≡◌, inl, inr, ℕ, ◌≤◌, List, [], map, subst, Result, Ok, Err, OnOk}
use Rattle.log_pair.specs.fleet_ports.Moments.{LeavesOnly}
use Rattle.log_pair.specs.fleet_ports.declared.disk.Disks.{Disks}
use Rattle.log_pair.proofs.of_fleet_ports.Runs.{joins, weakens}
use Rattle.core_spec.specs.log_spec.Image.{Image, closed, IsOpen, IsImage}
use Rattle.core_spec.specs.log_spec.ImageOf.{image_of, laid_image}
use Rattle.core_spec.specs.log_spec.PairImage.{pair_image}
use Rattle.core_spec.proofs.of_log_spec.Images.{is_image, image_is}
use Rattle.log_pair.specs.record_log.Log.{AllStand}
use Rattle.log_pair.specs.record_log.Lay.{IsClosed, IsLaying}
use Rattle.log_pair.specs.Lay.{laid_pair}
use Rattle.log_pair.specs.Open.{PairCounts}
use Rattle.log_pair.specs.Pair.{IsPair}
use Rattle.queue_records.specs.fleet_rows.declared.settings.Ttls.{Ttls}
use Rattle.queue_records.specs.record_spec.Queue.{queue_text}
use Rattle.core_spec.specs.Files.{FilesStand}
use Rattle.core_layout.specs.Records.{first_queued}
use Rattle.core_layout.specs.Layout.{EachImage, InOrder, IsUnlaidOrEmpty, IsAllLaid, NoneIsOpen, AreUnlaid, AllUntouched, StoreIsLaid, IsClosedOrLaid}
use Rattle.core_layout.proofs.Firsts.{files_stand}

-- ---- counts of two runs

-- of which the first counted nothing
pub counted_on : (a m n b p q : ℕ) (Fault : Type 0) → (m ≡ a) × (p ≡ b) → PairCounts m n p q Fault → PairCounts a n b q Fault
counted_on a m n b p q Fault same counts = subst (λ (x : ℕ). PairCounts x n b q Fault) same.0 (subst (λ (y : ℕ). PairCounts m n y q Fault) same.1 counts)

-- ---- open and closed

shut_file : (c : List ℕ) → IsClosed c → IsOpen c → ⊥
shut_file c shut = subst (λ (i : Image). IsImage c i) shut (is_image c)

none_open : (images : List ℕ → Type 0) → NoneIsOpen images → AllStand images closed
none_open images none c now = image_is c closed (none c now)

-- ---- the file that is laid

abbrev Laid : Type 0 → List ℕ → Type 0
Laid Other c = IsClosedOrLaid (map queue_text first_queued) Other c

-- what is laid over closed files is closed or laid, where the other log is laid
pub laying_closed : (images : List ℕ → Type 0) (frames : List (List ℕ)) (Other : Type 0) → AllStand images closed → Other → (c : List ℕ) → IsLaying images 1 frames c → IsClosedOrLaid frames Other c
laying_closed images frames Other shut other c (inl (inl was)) = inl (shut c was)
laying_closed images frames Other shut other c (inl (inr now)) = inl now
laying_closed images frames Other shut other c (inr laid) = inr (laid, other)

-- with a closed second file the laid first one counts
laid_counts : (frames : List (List ℕ)) (a b : List ℕ) → image_of a ≡ laid_image 1 frames → IsClosed b → IsPair (laid_pair frames) a b
laid_counts frames a b laid shut = (λ i. pair_image (laid i) (shut i))

-- what is laid stands for the empty history
pub laid_stand : {D : Type 0} {T E : Type 0} (may_leave : D → List ℕ → Type 0) (ttls : Ttls) (disks : Disks D) (r : Result T E) → OnOk r (EachImage may_leave disks (IsAllLaid ttls)) → OnOk r (EachImage may_leave disks (FilesStand ttls []))
laid_stand may_leave ttls disks (Ok it) laid = λ queue_a queue_b store_a store_b at_qa at_qb at_sa at_sb. files_stand ttls queue_a queue_b store_a store_b (laid queue_a queue_b store_a store_b at_qa at_qb at_sa at_sb)
laid_stand may_leave ttls disks (Err e) laid = tt

module _ {D : Type 0} (seen : D → List ℕ) (may_leave : D → List ℕ → Type 0) (moment : D → ℕ) (left_since : D → ℕ → List ℕ → Type 0)
    (counts_now : (d : D) (t : ℕ) (c : List ℕ) → t ≤ moment d → may_leave d c → left_since d t c) (ttls : Ttls) where
  -- the files of the queue at the moments of a run, one by itself
  by_file : (old new : Disks D) → AreUnlaid may_leave old → LeavesOnly moment left_since old.queue_b new.queue_b IsClosed
      → LeavesOnly moment left_since old.queue_a new.queue_a (Laid (StoreIsLaid may_leave ttls new)) → InOrder may_leave moment left_since old new (IsUnlaidOrEmpty ttls)
  by_file old new unlaid b a = record {
    store_b = λ queue_a queue_b store_a store_b at_a at_b _ _. inl (unlaid.0 queue_a at_a, unlaid.1 queue_b at_b);
    store_a = λ queue_a queue_b store_a store_b at_a at_b _ _. inl (unlaid.0 queue_a at_a, unlaid.1 queue_b at_b);
    queue_b = λ queue_a queue_b store_a store_b at_a since _ _. inl (unlaid.0 queue_a at_a, shut_file queue_b (b.each queue_b since));
    queue_a = λ queue_a queue_b store_a store_b since at_b at_store_a at_store_b.
        let shut : IsClosed queue_b = b.each queue_b (counts_now new.queue_b (moment old.queue_b) queue_b b.later at_b) in
        first queue_a queue_b store_a store_b shut at_store_a at_store_b (a.each queue_a since);
  }
    where
      first : (queue_a queue_b store_a store_b : List ℕ) → IsClosed queue_b → may_leave new.store_a store_a → may_leave new.store_b store_b
          → Laid (StoreIsLaid may_leave ttls new) queue_a → IsUnlaidOrEmpty ttls queue_a queue_b store_a store_b
      first queue_a queue_b store_a store_b shut at_a at_b (inl is) = inl (shut_file queue_a is, shut_file queue_b shut)
      first queue_a queue_b store_a store_b shut at_a at_b (inr laid) =
          inr (files_stand ttls queue_a queue_b store_a store_b (laid_counts (map queue_text first_queued) queue_a queue_b laid.0 shut, laid.1 store_a store_b at_a at_b))

  -- the disks were read, and then the files were laid, or some of them
  pub read_and_laid : (old mid new : Disks D) → AllUntouched seen may_leave moment left_since old mid → AreUnlaid may_leave old
      → (AllStand (may_leave mid.queue_b) closed → LeavesOnly moment left_since mid.queue_b new.queue_b IsClosed)
      → (AllStand (may_leave mid.queue_a) closed → LeavesOnly moment left_since mid.queue_a new.queue_a (Laid (StoreIsLaid may_leave ttls new)))
      → InOrder may_leave moment left_since old new (IsUnlaidOrEmpty ttls)
  read_and_laid old mid new read unlaid b a =
      let shut_b = none_open (may_leave old.queue_b) unlaid.1 in
      let shut_a = none_open (may_leave old.queue_a) unlaid.0 in
      let P = Laid (StoreIsLaid may_leave ttls new) in
      by_file old new unlaid
      (joins moment left_since old.queue_b mid.queue_b new.queue_b IsClosed
      (weakens moment left_since old.queue_b mid.queue_b (may_leave old.queue_b) IsClosed shut_b read.queue_b.moments)
      (b (λ c now. shut_b c (read.queue_b.images c now))))
      (joins moment left_since old.queue_a mid.queue_a new.queue_a P
      (weakens moment left_since old.queue_a mid.queue_a (may_leave old.queue_a) P (λ c now. inl (shut_a c now)) read.queue_a.moments)
      (a (λ c now. shut_a c (read.queue_a.images c now))))
