-- A compaction of a core that was just opened.
use Rattle.std.proofs.Common.{◌≡◌, ◌∙◌, ◌⊎◌, inl, inr, ⊎_elim, ℕ, ◌+◌, ◌≤◌, List, ◌∷◌, ◌++◌, map, arith, refl, sym, ap, subst, IsTrue, Bool, true, false, Option, Some, None}
use Rattle.query_answer.proofs.of_plain_laws.Booleans.{not_so}
use Rattle.query_answer.specs.fleet_ports.Counts.{Counts, Rose}
use Rattle.query_answer.specs.fleet_ports.declared.disk.Disks.{Disks}
use Rattle.query_answer.specs.fleet_rows.declared.settings.Ttls.{Ttls}
use Rattle.command_core.specs.log_pair.Open.{PairCounts}
use Rattle.command_core.specs.log_pair.Pair.{flipped, side_of, disk_a, disk_b, is_down_of, size_of_pair, generation_of_pair, IsGood}
use Rattle.command_core.specs.log_spec.ImageOf.{image_of}
use Rattle.command_core.specs.log_spec.PairImage.{PairImage, broken, counts, pair_image}
use Rattle.command_core.specs.log_spec.declared.side.Side.{Side}
use Rattle.command_core.specs.log_spec.declared.side.Side.TheVariants.{A, B}
use Rattle.command_core.specs.record_spec.declared.queue.QueueRecord.{QueueRecord}
use Rattle.command_core.specs.record_spec.declared.store.StoreRecord.{StoreRecord}
use Rattle.command_core.specs.record_spec.Queue.{queue_text}
use Rattle.command_core.specs.record_spec.Store.{store_text}
use Rattle.command_core.specs.queue_records.Reading.{queue_at}
use Rattle.command_core.specs.store_records.Reading.{store_at}
use Rattle.command_core.specs.core_spec.declared.event.Event.TheVariants.{Restart}
use Rattle.command_core.specs.core_spec.Checkpoints.{queue_checkpoint, store_checkpoint}
use Rattle.command_core.specs.core_spec.History.{History, trace_of}
use Rattle.command_core.specs.fleet_keeper.declared.log_keeper.LogKeeper.{LogKeeper}
use Rattle.command_core.specs.fleet_keeper.Keeper.{pair_of, faults_of, opened_of, IsWithin}
use Rattle.command_core.specs.fleet_keeper.Laws.{image_is, one_image}
use Rattle.command_core.specs.fleet_keeper.Limits.{ArePast}
use Rattle.command_core.specs.fleet_keeper.Pairs.{records_at, pair_records, PairImages, PairSince}
use Rattle.command_core.specs.queue_log.declared.queue.QueueLog.{QueueLog}
use Rattle.command_core.specs.queue_log.Queued.{queue_pair, queue_down}
use Rattle.command_core.specs.core_state.Changes.{CoreStays}
use Rattle.command_core.specs.core_state.Moments.{Within}
use Rattle.command_core.specs.core_state.Puts.{QueueCounts}
use Rattle.command_core.specs.core_state.Seen.{down_of, IsSound}
use Rattle.command_core.specs.core_state.StandsFor.{StandsAt, history_of}
use Rattle.command_core.specs.core_compact.Anew.{KeeperGoesOn}
use Rattle.command_core.specs.core_compact.Compacts.{queue_records, store_records, AreCheckpoints, StoreIsNew, QueueIsNew, CompactWrites}
use Rattle.command_core.specs.core_compact.declared.answers.Compacted.{Compacted}
use Rattle.command_core.specs.core_compact.declared.answers.Compacted.TheVariants as came
use Rattle.command_core.specs.core_opening.declared.faults.FileName.{FileName}
use Rattle.command_core.specs.core_opening.Opened.{LogCore, CountsIn, LogCoreStands, FilesStand, DisksStand, disks_in}
use Rattle.calm_commands.specs.declared.status.Status.{Status}
use Rattle.calm_commands.specs.declared.status.Status.TheVariants as status
use Rattle.calm_commands.specs.Openings.{DiskSight, queue_files, store_files, ForEachHistory, OpensSo, OpensTo, IsUnopened, IsOpeningEnd}
use Rattle.calm_commands.specs.Compacting.{compact_status, IsCompactEnd, CompactsOn, CompactsWithin, AreCompacted, Turned, QueueTurned, StoreTurned, HasNoTurn, StoreIsSpent, QueueIsSpent, LogIsFull, LogsHaveRoom, IsCompactRun}
use Rattle.calm_commands.proofs.Faults.{rose}

abbrev CoreWithin : {D : Type 0} → DiskSight D → LogCore D → LogCore D → (Option (List QueueRecord) → Option (List StoreRecord) → Type 0) → Type 0
CoreWithin {D} w old new P =
    Within w.may_leave w.moment w.left_since (λ (k : LogKeeper D). PairImages store_at w.may_leave (pair_of k)) (λ k. (w.moment (disk_a (pair_of k)), w.moment (disk_b (pair_of k)))) (λ k. PairSince store_at w.left_since (pair_of k)) old new P

abbrev is_down : {D : Type 0} → LogCore D → Bool
is_down {D} core = down_of (λ (k : LogKeeper D). is_down_of (pair_of k)) core

-- it rose as well from the count that it had before
rose_from : (a b c : ℕ) → b ≡ a → Rose b c → Rose a c
rose_from a b c same rises = subst (λ n. Rose n c) same rises

-- ---- answers

not_damaged : (a : Compacted) (file : FileName) (at : ℕ) → compact_status a ≡ status.Damaged file at → ⊥
not_damaged came.Ok file at is = absurd (cc)
not_damaged came.QueueFault file at is = absurd (cc)
not_damaged came.StoreFault file at is = absurd (cc)
not_damaged came.Spent file at is = absurd (cc)
not_damaged came.Down file at is = absurd (cc)
not_damaged came.Memory file at is = absurd (cc)

ends_so : (a : Compacted) → IsCompactEnd (compact_status a)
ends_so came.Ok = tt
ends_so came.QueueFault = tt
ends_so came.StoreFault = tt
ends_so came.Spent = tt
ends_so came.Down = tt
ends_so came.Memory = tt

is_spent : (a : Compacted) → compact_status a ≡ status.Spent → a ≡ came.Spent
is_spent came.Ok is = absurd (cc)
is_spent came.QueueFault is = absurd (cc)
is_spent came.StoreFault is = absurd (cc)
is_spent came.Spent is = refl
is_spent came.Down is = absurd (cc)
is_spent came.Memory is = absurd (cc)

is_done : (a : Compacted) → compact_status a ≡ status.Done → a ≡ came.Ok
is_done came.Ok is = refl
is_done came.QueueFault is = absurd (cc)
is_done came.StoreFault is = absurd (cc)
is_done came.Spent is = absurd (cc)
is_done came.Down is = absurd (cc)
is_done came.Memory is = absurd (cc)

is_queue_fault : (a : Compacted) → compact_status a ≡ status.QueueFault → a ≡ came.QueueFault
is_queue_fault came.Ok is = absurd (cc)
is_queue_fault came.QueueFault is = refl
is_queue_fault came.StoreFault is = absurd (cc)
is_queue_fault came.Spent is = absurd (cc)
is_queue_fault came.Down is = absurd (cc)
is_queue_fault came.Memory is = absurd (cc)

is_store_fault : (a : Compacted) → compact_status a ≡ status.StoreFault → a ≡ came.StoreFault
is_store_fault came.Ok is = absurd (cc)
is_store_fault came.QueueFault is = absurd (cc)
is_store_fault came.StoreFault is = refl
is_store_fault came.Spent is = absurd (cc)
is_store_fault came.Down is = absurd (cc)
is_store_fault came.Memory is = absurd (cc)

-- the answers that leave the queue's log as it was
leaves_queue : (a : Compacted) {Q : Type 0} → (compact_status a ≡ status.Done → ⊥) → (compact_status a ≡ status.QueueFault → ⊥) → (a ≡ came.StoreFault → Q) → (a ≡ came.Spent → Q) → (a ≡ came.Down → Q) → (a ≡ came.Memory → Q) → Q
leaves_queue came.Ok none no_fault fault spent down memory = absurd (none refl)
leaves_queue came.QueueFault none no_fault fault spent down memory = absurd (no_fault refl)
leaves_queue came.StoreFault none no_fault fault spent down memory = fault refl
leaves_queue came.Spent none no_fault fault spent down memory = spent refl
leaves_queue came.Down none no_fault fault spent down memory = down refl
leaves_queue came.Memory none no_fault fault spent down memory = memory refl

-- ---- files that turn

one_side : (a b : Side) → Some a ≡ Some b → a ≡ b
one_side A A is = refl
one_side A B is = absurd (cc)
one_side B A is = absurd (cc)
one_side B B is = refl

turned_so : (before now : PairImage) (side file : Side) (generation number : ℕ) (frames : List (List ℕ)) (gate : ℕ) → CountsIn before side generation → now ≡ counts file number frames gate
    → file ≡ flipped side → number ≡ generation + 1 → Turned before now
turned_so (broken s p) now side file generation number frames gate was is file_is number_is = absurd was
turned_so (counts s g fs q) now side file generation number frames gate was is file_is number_is =
    subst (Turned (counts s g fs q)) (sym is) (file_is ∙ ap flipped was.0, number_is ∙ ap (λ (n : ℕ). n + 1) was.1)

no_turn : (before : PairImage) (side : Side) (generation : ℕ) (texts : List (List ℕ)) → CountsIn before side generation → ArePast generation texts → HasNoTurn before texts
no_turn (broken s p) side generation texts was past = absurd was
no_turn (counts s g fs q) side generation texts was past = subst (λ (n : ℕ). ArePast n texts) was.1 past

is_past : (before : PairImage) (side : Side) (generation : ℕ) (texts : List (List ℕ)) → CountsIn before side generation → HasNoTurn before texts → ArePast generation texts
is_past (broken s p) side generation texts was past = absurd was
is_past (counts s g fs q) side generation texts was past = subst (λ (n : ℕ). ArePast n texts) (sym was.1) past

is_memory : (a : Compacted) → (a ≡ came.Down → ⊥) → compact_status a ≡ status.Memory → a ≡ came.Memory
is_memory came.Ok up is = absurd (cc)
is_memory came.QueueFault up is = absurd (cc)
is_memory came.StoreFault up is = absurd (cc)
is_memory came.Spent up is = absurd (cc)
is_memory came.Down up is = absurd (up refl)
is_memory came.Memory up is = refl

module _ {D : Type 0} (w : DiskSight D) (counts_now : (d : D) (t : ℕ) (c : List ℕ) → t ≤ w.moment d → w.may_leave d c → w.left_since d t c) (only_now : (d : D) (c : List ℕ) → w.left_since d (w.moment d) c → w.may_leave d c)
    (disks : Disks D) where
  -- ---- an opening that failed

  module _ (after : Disks D) (answer : Status) (is : IsUnopened w disks after answer) where
    nothing_ends : (s : Status) → IsOpeningEnd s → IsCompactEnd s
    nothing_ends status.QueueFault ends = tt
    nothing_ends status.StoreFault ends = tt
    nothing_ends (status.Damaged file at) ends = tt
    nothing_ends status.Memory ends = tt
    nothing_ends status.Spent ends = tt
    nothing_ends _ ends = absurd ends

    pub unopened_run : IsCompactRun w disks after answer
    unopened_run = record {
      ends = nothing_ends answer is.ends;
      files = is.files;
      full = λ told spent. inl (is.full told spent);
      roomy = λ told no_spent no_memory. inl is;
      any_moment = λ told ttls history all. record {
        opened = after;
        opening = is.any_moment told ttls history all;
        compacts = record {
          store_first = λ qa qb sa sb ia ib la lb. is.leaves told ttls history all qa qb sa sb ia ib (only_now after.store_a sa la) (only_now after.store_b sb lb);
          then_queue = λ qa qb sa sb la lb ia ib. is.leaves told ttls history all qa qb sa sb (only_now after.queue_a qa la) (only_now after.queue_b qb lb) ia ib;
          queue_waits = λ none no_fault. (refl, refl);
          store_waits = λ memory. (refl, refl);
        };
      };
      each_moment = inl is;
      leaves = is.leaves;
      left = inl is;
      compacted = λ done. absurd (subst IsOpeningEnd done is.ends);
      turned = λ told done. absurd (subst IsOpeningEnd done is.ends);
      half_turned = λ told fault. inl is;
      untouched = λ file at damaged. is.untouched (λ fault. (let apart : status.Damaged file at ≡ status.QueueFault = sym damaged ∙ fault in cc));
      queue_counts = is.queue_counts;
      store_cause = λ fault. is.store_counts.cause fault;
      store_calm = λ memory. record {
        later_a = is.store_counts.later_a;
        later_b = is.store_counts.later_b;
        cause = λ f. absurd f;
        calm = λ none. is.store_counts.calm (λ fault. (let apart : status.Memory ≡ status.StoreFault = sym memory ∙ fault in cc));
      };
    }

  -- ---- a core

  module _ (core new : LogCore D) (opens : OpensTo w disks core) (answer : Compacted) (up : answer ≡ came.Down → ⊥)
      (writes : CompactWrites w.tells w.tells w.seen (λ (k : LogKeeper D). pair_records store_at w.seen (pair_of k)) (λ k. is_down_of (pair_of k)) (λ k. size_of_pair (pair_of k)) (λ k. generation_of_pair (pair_of k)) (λ k. Some (side_of (pair_of k))) answer core new)
      (checkpoints : (start : History) → LogCoreStands w.tells w.seen w.may_leave core start → AreCheckpoints core (history_of core start))
      (moments : (start : History) → LogCoreStands w.tells w.seen w.may_leave core start → is_down core ≡ false
      → CoreWithin w core new (λ q s. StandsAt core.tables.ttls q s (history_of core start)))
      (sound : IsSound w.seen w.may_leave (λ (k : LogKeeper D). is_down_of (pair_of k)) (λ k. IsGood w.seen w.may_leave (pair_of k)) new)
      (queue_cause : QueueCounts w.faults core.queue new.queue (answer ≡ came.QueueFault)) (store_cause : Counts (faults_of core.store) (faults_of new.store) (answer ≡ came.StoreFault))
      (keeper : KeeperGoesOn (λ (k : LogKeeper D). opened_of k) (λ k. IsWithin w.faults k) core.store new.store)
      (stays : answer ≡ came.Memory → CoreStays core new)
      (store_unspent : is_down core ≡ false → ArePast (generation_of_pair (pair_of core.store)) (map store_text (store_records core)) → (answer ≡ came.Spent) ⊎ (answer ≡ came.Memory))
      (queue_unspent : is_down core ≡ false → ArePast (generation_of_pair (queue_pair core.queue)) (map queue_text (queue_records core))
      → (answer ≡ came.Spent) ⊎ (answer ≡ came.Memory) ⊎ (answer ≡ came.StoreFault))
      (store_goes : is_down core ≡ false → is_down_of (pair_of new.store) ≡ true → answer ≡ came.StoreFault) (queue_goes : is_down core ≡ false → queue_down new.queue ≡ true → answer ≡ came.QueueFault) where
    abbrev after : Disks D
    after = disks_in new

    abbrev Wrote : Compacted → Type 0
    Wrote a = CompactWrites w.tells w.tells w.seen (λ (k : LogKeeper D). pair_records store_at w.seen (pair_of k)) (λ k. is_down_of (pair_of k)) (λ k. size_of_pair (pair_of k)) (λ k. generation_of_pair (pair_of k)) (λ k. Some (side_of (pair_of k))) a core new

    wrote : (a : Compacted) → answer ≡ a → Wrote a
    wrote a is = subst Wrote is writes

    -- ---- each log can be called, unless it is the one that failed

    store_good : (answer ≡ came.StoreFault → ⊥) → IsGood w.seen w.may_leave (pair_of new.store)
    store_good calm = sound.store (not_so (is_down_of (pair_of new.store)) (λ down. calm (store_goes opens.up.up down)))

    queue_good : (answer ≡ came.QueueFault → ⊥) → IsGood w.seen w.may_leave (queue_pair new.queue)
    queue_good calm = sound.queue (not_so (queue_down new.queue) (λ down. calm (queue_goes opens.up.up down)))

    apart : (a b : Compacted) → answer ≡ a → (a ≡ b → ⊥) → answer ≡ b → ⊥
    apart a b is differ other = differ (sym is ∙ other)

    -- ---- the files

    store_turns : IsTrue w.tells → (answer ≡ came.StoreFault → ⊥)
        → StoreIsNew w.tells (λ (k : LogKeeper D). pair_records store_at w.seen (pair_of k)) (λ k. size_of_pair (pair_of k)) (λ k. generation_of_pair (pair_of k)) (λ k. Some (side_of (pair_of k))) core.store new.store (store_records core)
        → StoreTurned w disks after
    store_turns told calm anew a b ia ib =
        let before = pair_of core.store in
        let now = pair_of new.store in
        turned_so (store_files w disks) (pair_image (image_of a) (image_of b)) (side_of before) (side_of now) (generation_of_pair before) (generation_of_pair now) _ _ (opens.goes_on told).store
        (image_is store_at w.seen w.may_leave now (store_good calm) a b ia ib) (one_side (side_of now) (flipped (side_of before)) anew.side_is) anew.generation_is

    queue_turns : IsTrue w.tells → (answer ≡ came.QueueFault → ⊥) → QueueIsNew w.tells w.seen core.queue new.queue (queue_records core) → QueueTurned w disks after
    queue_turns told calm anew a b ia ib =
        let before = queue_pair core.queue in
        let now = queue_pair new.queue in
        turned_so (queue_files w disks) (pair_image (image_of a) (image_of b)) (side_of before) (side_of now) (generation_of_pair before) (generation_of_pair now) _ _ (opens.goes_on told).queue
        (image_is queue_at w.seen w.may_leave now (queue_good calm) a b ia ib) anew.side_is anew.generation_is

    both_turn : IsTrue w.tells → answer ≡ came.Ok → QueueTurned w disks after × StoreTurned w disks after
    both_turn told ok =
        let done = wrote came.Ok ok in
        (queue_turns told (apart came.Ok came.QueueFault ok (λ e. cc)) done.1, store_turns told (apart came.Ok came.StoreFault ok (λ e. cc)) done.0)

    half_turns : IsTrue w.tells → answer ≡ came.QueueFault → StoreTurned w disks after
    half_turns told fault = store_turns told (apart came.QueueFault came.StoreFault fault (λ e. cc)) (wrote came.QueueFault fault).0

    same_queue : new.queue ≡ core.queue → (after.queue_a ≡ (disks_in core).queue_a) × (after.queue_b ≡ (disks_in core).queue_b)
    same_queue same = (ap (λ (q : QueueLog D). disk_a (queue_pair q)) same, ap (λ (q : QueueLog D). disk_b (queue_pair q)) same)

    same_store : new.store ≡ core.store → (after.store_a ≡ (disks_in core).store_a) × (after.store_b ≡ (disks_in core).store_b)
    same_store same = (ap (λ (k : LogKeeper D). disk_a (pair_of k)) same, ap (λ (k : LogKeeper D). disk_b (pair_of k)) same)

    queue_stays : (compact_status answer ≡ status.Done → ⊥) → (compact_status answer ≡ status.QueueFault → ⊥) → new.queue ≡ core.queue
    queue_stays none no_fault =
        leaves_queue answer none no_fault (λ is. (wrote came.StoreFault is).1) (λ is. (wrote came.Spent is).1) (λ is. (wrote came.Down is).1) (λ is. (wrote came.Memory is).1)

    is_full : IsTrue w.tells → answer ≡ came.Spent → LogIsFull w disks after
    is_full told spent = (core, opens, ⊎_elim store_full queue_full (wrote came.Spent spent).0)
      where
        store_full : ArePast (generation_of_pair (pair_of core.store)) (map store_text (store_records core)) × (new.store ≡ core.store) → StoreIsSpent w disks after core ⊎ QueueIsSpent w disks after core
        store_full both = inl (let same = same_store both.1 in (no_turn (store_files w disks) (side_of (pair_of core.store)) (generation_of_pair (pair_of core.store)) (map store_text (store_records core)) (opens.goes_on told).store both.0, same.0, same.1))

        queue_full : ArePast (generation_of_pair (queue_pair core.queue)) (map queue_text (queue_records core))
            × StoreIsNew w.tells (λ (k : LogKeeper D). pair_records store_at w.seen (pair_of k)) (λ k. size_of_pair (pair_of k)) (λ k. generation_of_pair (pair_of k)) (λ k. Some (side_of (pair_of k))) core.store new.store (store_records core)
            → StoreIsSpent w disks after core ⊎ QueueIsSpent w disks after core
        queue_full both = inr (
          no_turn (queue_files w disks) (side_of (queue_pair core.queue)) (generation_of_pair (queue_pair core.queue)) (map queue_text (queue_records core)) (opens.goes_on told).queue both.0,
          store_turns told (apart came.Spent came.StoreFault spent (λ e. cc)) both.1,
        )

    has_room : IsTrue w.tells → (compact_status answer ≡ status.Spent → ⊥) → (compact_status answer ≡ status.Memory → ⊥) → LogsHaveRoom w disks (compact_status answer)
    has_room told no_spent no_memory = (
      core,
      opens,
      λ full.
          ⊎_elim (λ spent. no_spent (ap compact_status spent)) (λ memory. no_memory (ap compact_status memory))
          (store_unspent opens.up.up (is_past (store_files w disks) (side_of (pair_of core.store)) (generation_of_pair (pair_of core.store)) (map store_text (store_records core)) (opens.goes_on told).store full)),
      λ no_fault full.
          queue_refused no_fault
          (queue_unspent opens.up.up (is_past (queue_files w disks) (side_of (queue_pair core.queue)) (generation_of_pair (queue_pair core.queue)) (map queue_text (queue_records core)) (opens.goes_on told).queue full)),
    )
      where
        queue_refused : (compact_status answer ≡ status.StoreFault → ⊥) → (answer ≡ came.Spent) ⊎ (answer ≡ came.Memory) ⊎ (answer ≡ came.StoreFault) → ⊥
        queue_refused no_fault (inl spent) = no_spent (ap compact_status spent)
        queue_refused no_fault (inr (inl memory)) = no_memory (ap compact_status memory)
        queue_refused no_fault (inr (inr fault)) = no_fault (ap compact_status fault)

    module _ (ttls : Ttls) (history : History) (is : core.tables.ttls ≡ ttls) (on : LogCoreStands w.tells w.seen w.may_leave core history) where
      abbrev old : History
      old = history_of core history

      begun_at : old ≡ Restart ∷ history
      begun_at = ap (λ (h : History). h ++ history) opens.events

      to_stand : (qa qb sa sb : List ℕ) → StandsAt core.tables.ttls (records_at queue_at qa qb) (records_at store_at sa sb) old → FilesStand ttls qa qb sa sb (Restart ∷ history)
      to_stand qa qb sa sb stands =
          subst (λ (t : Ttls). StandsAt t (records_at queue_at qa qb) (records_at store_at sa sb) (Restart ∷ history)) is
          (subst (λ (h : History). StandsAt core.tables.ttls (records_at queue_at qa qb) (records_at store_at sa sb) h) begun_at stands)

      within : CoreWithin w core new (λ q s. StandsAt core.tables.ttls q s old)
      within = moments history on opens.up.up

      compacts_on : CompactsOn w (disks_in core) after (compact_status answer) ttls history
      compacts_on = record {
        store_first = λ qa qb sa sb ia ib la lb. to_stand qa qb sa sb (within.store_first (records_at queue_at qa qb) (records_at store_at sa sb) (qa, qb, ia, ib, refl) (sa, sb, la, lb, refl));
        then_queue = λ qa qb sa sb la lb ia ib. to_stand qa qb sa sb (within.then_queue (records_at queue_at qa qb) (records_at store_at sa sb) (qa, qb, la, lb, refl) (sa, sb, ia, ib, refl));
        queue_waits = λ none no_fault. same_queue (queue_stays none no_fault);
        store_waits = λ memory. same_store (stays (is_memory answer up memory)).store;
      }

      compacts_within : OpensSo w disks (disks_in core) ttls history → CompactsWithin w disks after (compact_status answer) ttls history
      compacts_within opening = record { opened = disks_in core; opening = opening; compacts = compacts_on }

      -- every image at the end is one within
      leaves_so : DisksStand w.may_leave ttls after (Restart ∷ history)
      leaves_so qa qb sa sb ia ib ja jb =
          to_stand qa qb sa sb (within.then_queue (records_at queue_at qa qb) (records_at store_at sa sb)
          (qa, qb, counts_now after.queue_a (w.moment (disk_a (queue_pair core.queue))) qa within.later_queue.0 ia, counts_now after.queue_b (w.moment (disk_b (queue_pair core.queue))) qb within.later_queue.1 ib, refl)
          (sa, sb, ja, jb, refl))

      -- both logs began anew
      compacted_so : IsTrue w.tells → answer ≡ came.Ok → AreCompacted w after ttls history
      compacted_so told ok qa qb sa sb ia ib ja jb =
          let done = wrote came.Ok ok in
          let are = checkpoints history on in
          let queue_is = one_image queue_at w.seen w.may_leave (queue_pair new.queue) (queue_good (apart came.Ok came.QueueFault ok (λ e. cc))) (records_at queue_at qa qb) (qa, qb, ia, ib, refl) in
          let store_is = one_image store_at w.seen w.may_leave (pair_of new.store) (store_good (apart came.Ok came.StoreFault ok (λ e. cc))) (records_at store_at sa sb) (sa, sb, ja, jb, refl) in (
            queue_is ∙ done.1.has told ∙ ap (λ (rs : List QueueRecord). Some rs) (are.queue ∙ ap queue_checkpoint begun_at),
            store_is ∙ done.0.has told ∙ ap (λ (rs : List StoreRecord). Some rs) (are.store ∙ (λ i. store_checkpoint (is i) None (trace_of (begun_at i)))),
          )

    -- ---- what is answered

    bounded : IsWithin w.faults new.store (0, w.faults disks.store_a, w.faults disks.store_b)
    bounded = keeper.bounds (0, w.faults disks.store_a, w.faults disks.store_b) opens.start.within

    leaves_read : ForEachHistory w disks (λ ttls history. DisksStand w.may_leave ttls after (Restart ∷ history))
    leaves_read told ttls history files = let on = opens.stands_for told ttls history files in leaves_so ttls history on.0 on.1

    pub compacted_run : IsCompactRun w disks after (compact_status answer)
    compacted_run = record {
      ends = ends_so answer;
      files = record {
        damaged = λ told file at is. absurd (not_damaged answer file at is);
        told = λ told file at damage. absurd (opens.undamaged told file at damage);
        never = λ told ttls history files file at is. not_damaged answer file at is;
        spent = λ told lacks. absurd (opens.roomy told lacks);
      };
      full = λ told is. inr (is_full told (is_spent answer is));
      roomy = λ told no_spent no_memory. inr (has_room told no_spent no_memory);
      any_moment = λ told ttls history all. (let on = opens.stands_for told ttls history (opens.read told ttls history all) in compacts_within ttls history on.0 on.1 (opens.any_moment told ttls history all));
      each_moment = inr (core, opens, λ told ttls history files. (let on = opens.stands_for told ttls history files in compacts_on ttls history on.0 on.1));
      leaves = λ told ttls history all. leaves_read told ttls history (opens.read told ttls history all);
      left = inr leaves_read;
      compacted = λ done told ttls history files. (let on = opens.stands_for told ttls history files in compacted_so ttls history on.0 on.1 told (is_done answer done));
      turned = λ told done. both_turn told (is_done answer done);
      half_turned = λ told fault. inr (half_turns told (is_queue_fault answer fault));
      untouched = λ file at is. absurd (not_damaged answer file at is);
      queue_counts =
          let was = opens.queue_counts.calm (λ e. e) in
          record {
            later_a = (let later = queue_cause.later_a in omega (arith, later, was.0));
            later_b = (let later = queue_cause.later_b in omega (arith, later, was.1));
            cause = λ is. ⊎_elim (λ one. inl (rose_from (w.faults disks.queue_a) (w.faults (disks_in core).queue_a) (w.faults after.queue_a) was.0 one)) (λ other. inr (rose_from (w.faults disks.queue_b) (w.faults (disks_in core).queue_b) (w.faults after.queue_b) was.1 other))
                (queue_cause.cause (is_queue_fault answer is));
            calm = λ none. (let now = queue_cause.calm (λ fault. none (ap compact_status fault)) in (now.0 ∙ was.0, now.1 ∙ was.1));
          };
      store_cause = λ is.
          let up_by = store_cause.cause (is_store_fault answer is) in
          let zero = opens.start.faults in
          rose (faults_of new.store) (w.faults disks.store_a) (w.faults disks.store_b) (w.faults after.store_a) (w.faults after.store_b) (omega (arith, up_by, zero)) bounded.0;
      store_calm = λ why.
          subst (λ (k : LogKeeper D). PairCounts (w.faults disks.store_a) (w.faults (disk_a (pair_of k))) (w.faults disks.store_b) (w.faults (disk_b (pair_of k))) ⊥)
          (sym (stays (is_memory answer up why)).store) opens.store_counts;
    }
