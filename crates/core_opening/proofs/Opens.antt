-- What the answers of an opening say of the four files, together.
use Rattle.std.proofs.Common.{◌≡◌, ◌∙◌, inl, inr, ℕ, List, [], ◌∷◌, map, arith, refl, sym, ap, subst, Option, Some, None, Result, Ok, Err}
use Rattle.std.specs.Prelude.{◌⊎◌, ◌++◌, IfOk, IfErr}
use Rattle.ttl_sweeps.proofs.of_plain_laws.Options.{none_some, some_is}
use Rattle.core_state.specs.fleet_rows.declared.settings.Ttls.{Ttls}
use Rattle.core_state.specs.fleet_ports.declared.disk.Disks.{Disks}
use Rattle.core_state.specs.log_spec.ImageOf.{image_of}
use Rattle.core_state.specs.log_spec.PairImage.{PairImage, broken, counts, pair_image}
use Rattle.core_state.specs.log_spec.declared.side.Side.{Side}
use Rattle.core_state.specs.log_spec.declared.side.Side.TheVariants.{A, B}
use Rattle.core_state.specs.log_pair.Open.{PairCounts}
use Rattle.core_state.specs.log_pair.declared.pair.Pair.{Pair}
use Rattle.core_state.specs.log_pair.Pair.{disk_a, disk_b, side_of, generation_of_pair, IsGood}
use Rattle.core_state.specs.record_spec.declared.queue.QueueRecord.{QueueRecord}
use Rattle.core_state.specs.record_spec.declared.queue.QueueRecord.TheVariants.{Done}
use Rattle.core_state.specs.record_spec.declared.store.StoreRecord.{StoreRecord}
use Rattle.core_state.specs.queue_records.Reading.{queue_at}
use Rattle.core_state.specs.store_records.Reading.{store_at}
use Rattle.core_state.specs.core_spec.Damage.{AreQueued, IsQueueLog, EachIs}
use Rattle.core_state.specs.core_spec.History.{History}
use Rattle.core_state.specs.core_spec.Stands.{Stands}
use Rattle.core_state.specs.fleet_keeper.declared.log_keeper.LogKeeper.{LogKeeper}
use Rattle.core_state.specs.fleet_keeper.Keeper.{pair_of, faults_of, opened_of, IsWithin}
use Rattle.core_state.specs.fleet_keeper.Laws.{image_is}
use Rattle.core_state.specs.fleet_keeper.Opened.{IsRead}
use Rattle.core_state.specs.fleet_keeper.Pairs.{records_at}
use Rattle.core_state.specs.fleet_keeper.Records.{join, read_all, records_in}
use Rattle.core_state.specs.queue_log.Queued.{queue_pair, queue_side}
use Rattle.core_state.proofs.of_core_laws.DamagePlaces.{queued_shorter}
use Rattle.core_state.proofs.of_fleet_keeper.Damages.{no_damage}
use Rattle.core_state.proofs.of_fleet_keeper.Openings.{not_opened}
use Rattle.core_state.specs.StandsFor.{StandsAt}
use Rattle.core_opening.specs.declared.faults.FileName.{FileName}
use Rattle.core_opening.specs.declared.faults.FileName.TheVariants.{QueueA, QueueB, StoreA, StoreB}
use Rattle.core_opening.specs.declared.faults.OpenCoreFault.{OpenCoreFault}
use Rattle.core_opening.specs.declared.faults.OpenCoreFault.TheVariants.{QueueFault, StoreFault, Damaged, Memory, Spent}
use Rattle.core_opening.specs.Opened.{LogCore, found_queue, found_store, IsQueueDamageOf, IsCoreDamage, IsFound, HasSize, HasNoRoom, HadRoom, LacksDone, TellsMissing, MatchOpening, MatchGathered, MatchMended, IsQueueFault, IsStoreFault, IsSameCore, AreUntouched, DisksStand, OpensWithin, CountsIn, GoesOn, disks_in, disks_after, SameStore, IsAtStart, queue_as_read, HasWritten, IsReadOrMended, KeepsRecords, KeepsImages}

-- ---- logs that are found aren't damaged

split : {A : Type 0} (one : Option A) (rest : Option (List A)) (r : A) (rs : List A) → join one rest ≡ Some (r ∷ rs) → (one ≡ Some r) × (rest ≡ Some rs)
split None rest r rs e = absurd cc
split (Some x) None r rs e = absurd cc
split (Some x) (Some xs) r rs e = (cc, cc)

unsplit : {A : Type 0} (one : Option A) (rest : Option (List A)) → join one rest ≡ Some [] → ⊥
unsplit None rest e = absurd cc
unsplit (Some x) None e = absurd cc
unsplit (Some x) (Some xs) e = absurd cc

each_of : (frames : List (List ℕ)) (rs : List QueueRecord) → read_all queue_at frames ≡ Some rs → EachIs IsRead (map queue_at frames) rs
each_of [] [] e = tt
each_of [] (r ∷ rs) e = absurd cc
each_of (f ∷ fs) [] e = absurd (unsplit (queue_at f) (read_all queue_at fs) e)
each_of (f ∷ fs) (r ∷ rs) e = let both = split (queue_at f) (read_all queue_at fs) r rs e in (both.0, each_of fs rs both.1)

read_one : (o : Option QueueRecord) (x y : QueueRecord) → IsRead o x → IsRead o y → x ≡ y
read_one o x y a b = some_is x y (sym a ∙ b)

queue_whole : (image : PairImage) (file : Side) (at : ℕ) (records : List QueueRecord) → records_in queue_at image ≡ Some records → IsQueueLog records → IsQueueDamageOf image file at → ⊥
queue_whole (broken s p) file at records e log d = none_some records e
queue_whole (counts s g fs q) file at records e log d = no_damage IsRead read_one AreQueued queued_shorter 1 (map queue_at fs) d.1.0 records d.1.1 (each_of fs records e) log.1 log.0

pub undamaged : (queue store : PairImage) (queue_records : List QueueRecord) (store_records : List StoreRecord) → IsFound queue store queue_records store_records → (file : FileName) (at : ℕ) → IsCoreDamage queue store file at → ⊥
undamaged queue store qs ss found QueueA at (inl damage) = queue_whole queue A at qs found.queue_is found.queue_log damage
undamaged queue store qs ss found QueueB at (inl damage) = queue_whole queue B at qs found.queue_is found.queue_log damage
undamaged queue store qs ss found StoreA at (inl damage) = damage
undamaged queue store qs ss found StoreB at (inl damage) = damage
undamaged queue store qs ss found QueueA at (inr damage) = damage.1
undamaged queue store qs ss found QueueB at (inr damage) = damage.1
undamaged queue store qs ss found StoreA at (inr damage) = not_opened store A at ss damage.1 found.store_is found.store_log
undamaged queue store qs ss found StoreB at (inr damage) = not_opened store B at ss damage.1 found.store_is found.store_log

-- ---- files that stand for a history

pub stand_found : (ttls : Ttls) (queue store : PairImage) (history : History) (files : StandsAt ttls (records_in queue_at queue) (records_in store_at store) history) → IsFound queue store files.queue_records files.store_records
stand_found ttls queue store history files = record {
  queue_is = files.queue_is;
  store_is = files.store_is;
  queue_log = files.stands.queue_log;
  store_log = files.stands.store_log;
}

pub damage_of : {D : Type 0} (fault : OpenCoreFault) (disks : Disks D) (queue store : PairImage) (file : FileName) (at : ℕ) → MatchOpening (Err (fault, disks)) queue store → fault ≡ Damaged file at → IsCoreDamage queue store file at
damage_of {D} fault disks queue store file at match is = subst (λ (f : OpenCoreFault). MatchOpening {D = D} (Err (f, disks)) queue store) is match

-- ---- the two halves of an opening

pub gathered_opening : {D : Type 0} (fault : OpenCoreFault) (disks : Disks D) (queue store : PairImage) → MatchGathered (Err (fault, disks)) queue store → MatchOpening (Err (fault, disks)) queue store
gathered_opening QueueFault disks queue store match = match
gathered_opening StoreFault disks queue store match = match
gathered_opening (Damaged file at) disks queue store match = match
gathered_opening Memory disks queue store match = match
gathered_opening Spent disks queue store match = absurd match

one_size : (image : PairImage) (n m : ℕ) → HasSize image n → HasSize image m → n ≡ m
one_size (broken s p) n m a b = absurd a
one_size (counts s g fs q) n m a b = a ∙ sym b

module _ (queue store : PairImage) (qs : List QueueRecord) (ss : List StoreRecord) (missing : Option ℕ) (size : ℕ) (found : IsFound queue store qs ss) (has : HasSize queue size) (tells : TellsMissing missing qs ss) where
  is_missing : (m : Option ℕ) → TellsMissing m qs ss → (r : ℕ) → LacksDone qs ss r → m ≡ Some r
  is_missing None t r lacks = absurd (t r lacks)
  is_missing (Some q) t r lacks = ap (λ (n : ℕ). Some n) (some_is q r (sym t.0 ∙ lacks.0))

  had_room : ((r : ℕ) → missing ≡ Some r → HasNoRoom size → ⊥) → HadRoom queue qs ss
  had_room room r n lacks has_n full = room r (is_missing missing tells r lacks) (subst HasNoRoom (one_size queue n size has_n has) full)

  both_found : (xs : List QueueRecord) (ys : List StoreRecord) → xs ≡ qs → ys ≡ ss → ((r : ℕ) → missing ≡ Some r → HasNoRoom size → ⊥) → IsFound queue store xs ys × HadRoom queue xs ys
  both_found xs ys same_queue same_store room =
      subst (λ (rs : List QueueRecord). IsFound queue store rs ys × HadRoom queue rs ys) (sym same_queue)
      (subst (λ (rs : List StoreRecord). IsFound queue store qs rs × HadRoom queue qs rs) (sym same_store) (found, had_room room))

  pub mended_opening : {D : Type 0} (result : Result (LogCore D) (OpenCoreFault × Disks D)) → MatchMended result missing size → IfOk result (λ c. (found_queue c ≡ qs) × (found_store c ≡ ss) × GoesOn queue store c) → MatchOpening result queue store
  mended_opening (Ok core) room same = (let both = both_found (found_queue core) (found_store core) same.0 same.1 room in (both.0, both.1, same.2))
  mended_opening (Err (Damaged file at, disks)) room same = absurd room
  mended_opening (Err (QueueFault, disks)) room same = tt
  mended_opening (Err (StoreFault, disks)) room same = tt
  mended_opening (Err (Memory, disks)) room same = tt
  mended_opening (Err (Spent, disks)) room same = record {
    queue_records = qs;
    store_records = ss;
    found = found;
    receipt = room.0.0;
    lacks = subst (λ (m : Option ℕ). TellsMissing m qs ss) room.0.1 tells;
    size = size;
    size_is = has;
    full = room.1;
  }

-- ---- counts

-- a fault of the other log
queue_only : {D : Type 0} (fault : OpenCoreFault) (disks : Disks D) → (fault ≡ StoreFault → ⊥) → IsStoreFault {D = D} (Err (fault, disks)) → ⊥
queue_only QueueFault disks other is = is
queue_only StoreFault disks other is = other refl
queue_only (Damaged file at) disks other is = is
queue_only Memory disks other is = is
queue_only Spent disks other is = is

store_only : {D : Type 0} (fault : OpenCoreFault) (disks : Disks D) → (fault ≡ QueueFault → ⊥) → IsQueueFault {D = D} (Err (fault, disks)) → ⊥
store_only QueueFault disks other is = other refl
store_only StoreFault disks other is = is
store_only (Damaged file at) disks other is = is
store_only Memory disks other is = is
store_only Spent disks other is = is

calm_counts : (a a1 b b1 : ℕ) (Fault : Type 0) → (Fault → ⊥) → (a1 ≡ a) × (b1 ≡ b) → PairCounts a a1 b b1 Fault
calm_counts a a1 b b1 Fault none same = record {
  later_a = omega (arith, same.0);
  later_b = omega (arith, same.1);
  cause = λ fault. absurd (none fault);
  calm = λ no_fault. same;
}

pub store_uncalled : {D : Type 0} (fault : OpenCoreFault) (disks : Disks D) (a b : ℕ) → (fault ≡ StoreFault → ⊥) → PairCounts a a b b (IsStoreFault {D = D} (Err (fault, disks)))
store_uncalled {D} fault disks a b other = calm_counts a a b b (IsStoreFault {D = D} (Err (fault, disks))) (queue_only fault disks other) (refl, refl)

pub queue_calm : {D : Type 0} (fault : OpenCoreFault) (disks : Disks D) (a a1 b b1 : ℕ) → (fault ≡ QueueFault → ⊥) → (a1 ≡ a) × (b1 ≡ b) → PairCounts a a1 b b1 (IsQueueFault {D = D} (Err (fault, disks)))
queue_calm {D} fault disks a a1 b b1 other same = calm_counts a a1 b b1 (IsQueueFault {D = D} (Err (fault, disks))) (store_only fault disks other) same

goes_still : {D : Type 0} (queue store : PairImage) (old core : LogCore D) → IsSameCore old core → GoesOn queue store old → GoesOn queue store core
goes_still {D} queue store old core same goes = record {
  queue = subst (λ (s : Side). CountsIn queue s (generation_of_pair (queue_pair core.queue))) (sym same.side)
      (subst (λ (n : ℕ). CountsIn queue (queue_side old.queue) n) (sym same.generation) goes.queue);
  store = subst (λ (k : LogKeeper D). CountsIn store (side_of (pair_of k)) (generation_of_pair (pair_of k))) (sym same.store) goes.store;
}

pub if_same : {D : Type 0} (queue store : PairImage) (result : Result (LogCore D) (OpenCoreFault × Disks D)) (old : LogCore D) → GoesOn queue store old → IfOk result (IsSameCore old)
    → IfOk result (λ c. (found_queue c ≡ found_queue old) × (found_store c ≡ found_store old) × GoesOn queue store c)
if_same queue store (Ok core) old goes same = (same.queue_found, same.store_found, goes_still queue store old core same goes)
if_same queue store (Err e) old goes same = tt

pub if_map : {D : Type 0} (result : Result (LogCore D) (OpenCoreFault × Disks D)) {P Q : LogCore D → Type 0} → ((c : LogCore D) → P c → Q c) → IfOk result P → IfOk result Q
if_map (Ok core) to p = to core p
if_map (Err e) to p = tt

pub if_any : {D : Type 0} (result : Result (LogCore D) (OpenCoreFault × Disks D)) {P : Type 0} → P → IfOk result (λ c. P)
if_any (Ok core) p = p
if_any (Err e) p = tt

-- ---- what reading the logs and writing the Done say together

-- writing the Done tells no damage
pub mended_whole : {D : Type 0} (result : Result (LogCore D) (OpenCoreFault × Disks D)) (missing : Option ℕ) (size : ℕ) → MatchMended result missing size
    → IfErr result (λ e. (file : FileName) (at : ℕ) → e.0 ≡ Damaged file at → ⊥)
mended_whole (Ok core) missing size room = tt
mended_whole (Err (Damaged place offset, disks)) missing size room = absurd room
mended_whole (Err (QueueFault, disks)) missing size room = λ file at is. (let apart : QueueFault ≡ Damaged file at = is in cc)
mended_whole (Err (StoreFault, disks)) missing size room = absurd room
mended_whole (Err (Memory, disks)) missing size room = absurd room
mended_whole (Err (Spent, disks)) missing size room = λ file at is. (let apart : Spent ≡ Damaged file at = is in cc)

-- nor a fault of the store
mended_store_calm : {D : Type 0} (result : Result (LogCore D) (OpenCoreFault × Disks D)) (missing : Option ℕ) (size : ℕ) → MatchMended result missing size → IsStoreFault result → ⊥
mended_store_calm (Ok core) missing size room fault = fault
mended_store_calm (Err (Damaged file at, disks)) missing size room fault = room
mended_store_calm (Err (QueueFault, disks)) missing size room fault = fault
mended_store_calm (Err (StoreFault, disks)) missing size room fault = room
mended_store_calm (Err (Memory, disks)) missing size room fault = room
mended_store_calm (Err (Spent, disks)) missing size room fault = fault

pub mended_store : {D : Type 0} (count : D → ℕ) (result : Result (LogCore D) (OpenCoreFault × Disks D)) (missing : Option ℕ) (size : ℕ) (state : LogCore D) (a b : ℕ) → MatchMended result missing size
    → SameStore state (disks_after result) → PairCounts a (count (disk_a (pair_of state.store))) b (count (disk_b (pair_of state.store))) ⊥
    → PairCounts a (count (disks_after result).store_a) b (count (disks_after result).store_b) (IsStoreFault result)
mended_store count result missing size state a b room store risen =
    let same = risen.calm (λ f. f) in
    calm_counts a (count (disks_after result).store_a) b (count (disks_after result).store_b) (IsStoreFault result) (mended_store_calm result missing size room) (ap count store.store_a ∙ same.0, ap count store.store_b ∙ same.1)

pub mended_queue : (a a1 a2 b b1 b2 : ℕ) (Fault : Type 0) → PairCounts a a1 b b1 ⊥ → PairCounts a1 a2 b1 b2 Fault → PairCounts a a2 b b2 Fault
mended_queue a a1 a2 b b1 b2 Fault first next =
    let same = first.calm (λ f. f) in
    subst (λ (n : ℕ). PairCounts n a2 b b2 Fault) same.0 (subst (λ (n : ℕ). PairCounts a1 a2 n b2 Fault) same.1 next)

start_stays : {D : Type 0} (count : D → ℕ) (disks : Disks D) (old new : LogCore D) → IsAtStart count disks old → IsSameCore old new → IsAtStart count disks new
start_stays {D} count disks old new start same = record {
  opened_a = same.opened_a ∙ start.opened_a;
  opened_b = same.opened_b ∙ start.opened_b;
  faults = ap (λ (k : LogKeeper D). faults_of k) same.store ∙ start.faults;
  opened = ap (λ (k : LogKeeper D). opened_of k) same.store ∙ start.opened;
  within = subst (λ (k : LogKeeper D). IsWithin count k (0, count disks.store_a, count disks.store_b)) (sym same.store) start.within;
}

pub mended_start : {D : Type 0} (count : D → ℕ) (disks : Disks D) (state : LogCore D) (result : Result (LogCore D) (OpenCoreFault × Disks D)) → IsAtStart count disks state → IfOk result (IsSameCore state)
    → IfOk result (IsAtStart count disks)
mended_start count disks state result start same = if_map result (λ core is. start_stays count disks state core start is) same

pub mended_untouched : {D : Type 0} (seen : D → List ℕ) (may_leave : D → List ℕ → Type 0) (moment : D → ℕ) (left_since : D → ℕ → List ℕ → Type 0) (old read : Disks D) (result : Result (LogCore D) (OpenCoreFault × Disks D))
    → AreUntouched seen may_leave moment left_since old read → IfErr result (λ e. (e.0 ≡ QueueFault → ⊥) → e.1 ≡ read) → IfErr result (λ e. (e.0 ≡ QueueFault → ⊥) → AreUntouched seen may_leave moment left_since old e.1)
mended_untouched seen may_leave moment left_since old read (Ok core) same unwritten = tt
mended_untouched {D} seen may_leave moment left_since old read (Err e) same unwritten = λ other. subst (λ (x : Disks D). AreUntouched seen may_leave moment left_since old x) (sym (unwritten other)) same

-- ---- an opening that failed keeps the records

pub kept_untouched : {D : Type 0} (seen : D → List ℕ) (may_leave : D → List ℕ → Type 0) (moment : D → ℕ) (left_since : D → ℕ → List ℕ → Type 0) (old new : Disks D) → AreUntouched seen may_leave moment left_since old new
    → KeepsRecords seen old new
kept_untouched seen may_leave moment left_since old new u =
    record { store_a = u.store_a.same; store_b = u.store_b.same; queue = inl (λ i. records_at queue_at (u.queue_a.same i) (u.queue_b.same i)) }

pub written_more : (missing : Option ℕ) (r : ℕ) (records : List QueueRecord) (read : Option (List QueueRecord)) → missing ≡ Some r → (read ≡ Some records) ⊎ (read ≡ Some (records ++ Done r ∷ [])) → HasWritten missing records read
written_more missing r records read is (inl same) = inl same
written_more missing r records read is (inr more) = inr (r, is, more)

module _ {D : Type 0} (seen : D → List ℕ) (disks : Disks D) (state : LogCore D) (missing : Option ℕ)
    (found : IsFound (pair_image (image_of (seen disks.queue_a)) (image_of (seen disks.queue_b))) (pair_image (image_of (seen disks.store_a)) (image_of (seen disks.store_b))) (found_queue state) (found_store state))
    (tells : TellsMissing missing (found_queue state) (found_store state)) where
  pub kept_queue : (read : Option (List QueueRecord)) → HasWritten missing (found_queue state) read → IsReadOrMended seen disks read
  kept_queue read (inl is) = inl (is ∙ sym found.queue_is)
  kept_queue read (inr (r, is, more)) =
      inr (found_queue state, found_store state, r, found.queue_is, found.store_is, subst (λ (m : Option ℕ). TellsMissing m (found_queue state) (found_store state)) is tells, more)

  pub kept_mended : (result : Result (LogCore D) (OpenCoreFault × Disks D)) → seen (disk_a (pair_of state.store)) ≡ seen disks.store_a → seen (disk_b (pair_of state.store)) ≡ seen disks.store_b
      → SameStore state (disks_after result) → HasWritten missing (found_queue state) (queue_as_read seen (disks_after result)) → IfErr result (λ e. KeepsRecords seen disks e.1)
  kept_mended (Ok core) same_a same_b store written = tt
  kept_mended (Err e) same_a same_b store written =
      record { store_a = ap seen store.store_a ∙ same_a; store_b = ap seen store.store_b ∙ same_b; queue = kept_queue (queue_as_read seen e.1) written }

-- ---- the files in which the logs go on

module _ {D : Type 0} (seen : D → List ℕ) (may_leave : D → List ℕ → Type 0) (moment : D → ℕ) (left_since : D → ℕ → List ℕ → Type 0) (stays : (d : D) → may_leave d (seen d)) where
  counts_so : (pair : Pair D) → IsGood seen may_leave pair → (a b : D) → seen (disk_a pair) ≡ seen a → seen (disk_b pair) ≡ seen b
      → CountsIn (pair_image (image_of (seen a)) (image_of (seen b))) (side_of pair) (generation_of_pair pair)
  counts_so pair good a b same_a same_b =
      let is = image_is (λ (text : List ℕ). Some text) seen may_leave pair good (seen (disk_a pair)) (seen (disk_b pair)) (stays (disk_a pair)) (stays (disk_b pair)) in
      subst (λ (i : PairImage). CountsIn i (side_of pair) (generation_of_pair pair)) (sym is ∙ (λ i. pair_image (image_of (same_a i)) (image_of (same_b i)))) (refl, refl)

  pub goes_on : (core : LogCore D) (old : Disks D) → IsGood seen may_leave (queue_pair core.queue) → IsGood seen may_leave (pair_of core.store) → AreUntouched seen may_leave moment left_since old (disks_in core)
      → GoesOn (pair_image (image_of (seen old.queue_a)) (image_of (seen old.queue_b))) (pair_image (image_of (seen old.store_a)) (image_of (seen old.store_b))) core
  goes_on core old queue store same = record {
    queue = counts_so (queue_pair core.queue) queue old.queue_a old.queue_b same.queue_a.same same.queue_b.same;
    store = counts_so (pair_of core.store) store old.store_a old.store_b same.store_a.same same.store_b.same;
  }

-- ---- moments

pub images_untouched : {D : Type 0} (seen : D → List ℕ) (may_leave : D → List ℕ → Type 0) (moment : D → ℕ) (left_since : D → ℕ → List ℕ → Type 0) (only_now : (d : D) (c : List ℕ) → left_since d (moment d) c → may_leave d c)
    (old new : Disks D) → AreUntouched seen may_leave moment left_since old new → KeepsImages seen may_leave moment left_since old new
images_untouched seen may_leave moment left_since only_now old new same = record {
  read = new;
  reading = same;
  store_a = refl;
  store_b = refl;
  writing = λ qa qb la lb. inl (same.queue_a.images qa (only_now new.queue_a qa la), same.queue_b.images qb (only_now new.queue_b qb lb));
  later = (omega arith, omega arith);
}

module _ {D : Type 0} (seen : D → List ℕ) (may_leave : D → List ℕ → Type 0) (moment : D → ℕ) (left_since : D → ℕ → List ℕ → Type 0) (only_now : (d : D) (c : List ℕ) → left_since d (moment d) c → may_leave d c)
    (ttls : Ttls) (history : History) (old : Disks D) (all : DisksStand may_leave ttls old history) where
  pub store_first : (new : Disks D) → AreUntouched seen may_leave moment left_since old new → (qa qb sa sb : List ℕ) → may_leave old.queue_a qa → may_leave old.queue_b qb
      → left_since new.store_a (moment old.store_a) sa → left_since new.store_b (moment old.store_b) sb → StandsAt ttls (records_at queue_at qa qb) (records_at store_at sa sb) history
  store_first new same qa qb sa sb ia ib la lb = all qa qb sa sb ia ib (same.store_a.moments.each sa la) (same.store_b.moments.each sb lb)

  pub opens_untouched : (new : Disks D) → AreUntouched seen may_leave moment left_since old new → OpensWithin seen may_leave moment left_since ttls old new history
  opens_untouched new same = record {
    read = new;
    reading = same;
    store_a = refl;
    store_b = refl;
    store_first = store_first new same;
    writing = λ qa qb sa sb la lb ia ib. all qa qb sa sb (same.queue_a.images qa (only_now new.queue_a qa la)) (same.queue_b.images qb (only_now new.queue_b qb lb)) (same.store_a.images sa ia) (same.store_b.images sb ib);
    later = (omega arith, omega arith);
  }

  -- the records that were found stand for it
  pub found_stand : may_leave old.queue_a (seen old.queue_a) → may_leave old.queue_b (seen old.queue_b) → may_leave old.store_a (seen old.store_a) → may_leave old.store_b (seen old.store_b)
      → (qs : List QueueRecord) (ss : List StoreRecord) → records_at queue_at (seen old.queue_a) (seen old.queue_b) ≡ Some qs → records_at store_at (seen old.store_a) (seen old.store_b) ≡ Some ss → Stands ttls qs ss history
  found_stand qa qb sa sb qs ss queue_is store_is =
      let files = all (seen old.queue_a) (seen old.queue_b) (seen old.store_a) (seen old.store_b) qa qb sa sb in
      subst (λ (xs : List QueueRecord). Stands ttls xs ss history) (some_is files.queue_records qs (sym files.queue_is ∙ queue_is))
      (subst (λ (ys : List StoreRecord). Stands ttls files.queue_records ys history) (some_is files.store_records ss (sym files.store_is ∙ store_is)) files.stands)
