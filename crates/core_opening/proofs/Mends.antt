-- The Done that lacks is written: what the core is then, and what its disks may have.
use Rattle.std.proofs.Common.{◌≡◌, ◌⊎◌, ◌∙◌, inl, inr, ℕ, ◌+◌, ◌<◌, ◌≤◌, List, [], ◌∷◌, ◌++◌, arith, refl, sym, ap, subst, Bool, true, false, Option, Some, None, Err}
use Rattle.std.specs.List.{AllByRecursion, flat_map}
use Rattle.ttl_sweeps.proofs.of_plain_laws.Members.{Among-from_Contains}
use Rattle.ttl_sweeps.proofs.of_plain_laws.Options.{none_some, some_is}
use Rattle.core_state.specs.fleet_rows.declared.settings.Ttls.{Ttls}
use Rattle.core_state.specs.fleet_ports.declared.disk.Disks.{Disks}
use Rattle.core_state.specs.log_pair.Open.{PairCounts}
use Rattle.core_state.specs.log_spec.declared.side.Side.{Side}
use Rattle.core_state.specs.log_spec.declared.side.Side.TheVariants.{A, B}
use Rattle.core_state.specs.log_pair.declared.pair.Pair.{Pair}
use Rattle.core_state.specs.log_pair.Pair.{disk_a, disk_b, side_of, Within}
use Rattle.core_state.specs.record_spec.declared.queue.QueueRecord.{QueueRecord}
use Rattle.core_state.specs.record_spec.declared.queue.QueueRecord.TheVariants as queue
use Rattle.core_state.specs.record_spec.declared.store.StoreRecord.{StoreRecord}
use Rattle.core_state.specs.record_spec.declared.store.StoreRecord.TheVariants as store
use Rattle.core_state.specs.record_spec.Queue.{queue_text, IsQueueRecord}
use Rattle.core_state.specs.queue_records.Reading.{queue_at}
use Rattle.core_state.specs.store_records.Reading.{store_at}
use Rattle.core_state.specs.table_machine.Steps.{empty_table}
use Rattle.core_state.specs.table_machine.Table.{Table}
use Rattle.core_state.specs.core_spec.declared.entry.Entry.{Entry}
use Rattle.core_state.specs.core_spec.History.{History}
use Rattle.core_state.specs.core_spec.Pending.{NoneIsWornOut}
use Rattle.core_state.specs.core_spec.Stands.{Stands}
use Rattle.core_state.specs.core_machine.Steps.{at_receipt}
use Rattle.core_state.specs.compact_laws.Lawful.{IsLawfulTable}
use Rattle.core_state.specs.core_laws.Replay.{pending_after, dead_after, last_after}
use Rattle.core_state.specs.core_laws.TableReplay.{table_by, table_after}
use Rattle.core_state.proofs.of_core_laws.QueueLogs.{all_so, among_back}
use Rattle.core_state.proofs.of_core_laws.Replays.{pending_joined}
use Rattle.core_state.proofs.of_core_laws.WaitingRecords.{IsFew, few_of, records_wait}
use Rattle.core_state.specs.supersede_core.Waiting.{AreBelow, stands}
use Rattle.core_state.specs.fleet_keeper.declared.log_keeper.LogKeeper.{LogKeeper}
use Rattle.core_state.specs.fleet_keeper.declared.kept.Kept.{Kept}
use Rattle.core_state.specs.fleet_keeper.declared.kept.Kept.TheVariants as kept
use Rattle.core_state.specs.fleet_keeper.Kept.{IsFaulty}
use Rattle.core_state.specs.fleet_keeper.Limits.{IsPast}
use Rattle.core_state.specs.fleet_keeper.Keeper.{pair_of}
use Rattle.core_state.specs.fleet_keeper.Pairs.{records_at}
use Rattle.core_state.specs.queue_log.declared.queue.QueueLog.{QueueLog}
use Rattle.core_state.specs.queue_log.Queued.{queue_pair, QueueLeaves}
use Rattle.core_state.specs.Seen.{HasRecord}
use Rattle.core_state.specs.StandsFor.{StandsAt}
use Rattle.core_state.proofs.KnownImages.{IsOrMore}
use Rattle.core_state.proofs.of_supersede_core.KeptFacts.{all_left}
use Rattle.ttl_sweeps.proofs.SweptTables.{swept_lifetimes}
use Rattle.core_opening.specs.declared.faults.OpenCoreFault.{OpenCoreFault}
use Rattle.core_opening.specs.declared.faults.OpenCoreFault.TheVariants.{QueueFault}
use Rattle.core_opening.specs.Replayed.{AreQueuedOnly}
use Rattle.core_opening.specs.Opened.{LogCore, found_queue, found_store, HasQueue, HasStore, LacksDone, TellsMissing, IsReady, IsGreatest, HasNoRoom, MatchMended, IsQueueFault, fault_in}
use Rattle.core_opening.proofs.Cores.{IsMended}
use Rattle.core_opening.proofs.Fronts.{found_stands}
use Rattle.core_opening.proofs.Histories.{mended}
use Rattle.core_opening.proofs.Sounds.{each_told, none_is_claimed}

-- ---- lifetimes stay

by_ttls : (x : StoreRecord) (table : Table) → (table_by x table).ttls ≡ table.ttls
by_ttls (store.Settings n p r) table = refl
by_ttls (store.Base expire retain taken) table = refl
by_ttls (store.Marks m) table = refl
by_ttls (store.Applied r change) table = refl
by_ttls (store.Swept kinds m) table = swept_lifetimes kinds m table
by_ttls (store.Received r t change) table = refl
by_ttls (store.Limits n p r k) table = refl

pub after_ttls : (xs : List StoreRecord) (table : Table) → (table_after xs table).ttls ≡ table.ttls
after_ttls [] table = refl
after_ttls (x ∷ xs) table = after_ttls xs (table_by x table) ∙ by_ttls x table

-- ---- what waits

pub lacking_stands : (queued_now : List QueueRecord) (kept_now : List StoreRecord) (r : ℕ) → LacksDone queued_now kept_now r → stands r (pending_after queued_now []) ≡ true
lacking_stands queued_now kept_now r lacks = found_stands r (pending_after queued_now []) (among_back r (pending_after queued_now []) (Among-from_Contains _ r lacks.1))

module _ {D : Type 0} (told : Bool) (seen : D → List ℕ) (may_leave : D → List ℕ → Type 0) (core : LogCore D) (missing : Option ℕ) (ready : IsReady told seen may_leave core missing) where
  pub waits_there : (r : ℕ) → missing ≡ Some r → stands r core.pending ≡ true
  waits_there r is =
      ap (stands r) ready.holds.pending ∙ lacking_stands (found_queue core) (found_store core) r (subst (λ (m : Option ℕ). TellsMissing m (found_queue core) (found_store core)) is ready.tells)

  few : NoneIsWornOut (pending_after (found_queue core) [])
  few = all_so _ (λ (e : Entry). e.attempts < 16) (pending_after (found_queue core) []) (λ e k. k.0) (records_wait (found_queue core) ready.holds.queue_log.1 (all_so IsQueueRecord IsFew (found_queue core) few_of ready.holds.lawful)).entries

  pub lifetimes : core.tables.ttls ≡ ready.holds.ttls
  lifetimes = ap (λ (t : Table). t.ttls) ready.holds.tables ∙ after_ttls (found_store core) (empty_table ready.holds.ttls)

  tables : core.tables ≡ table_after (found_store core) (empty_table core.tables.ttls)
  tables = ready.holds.tables ∙ ap (λ (t : Ttls). table_after (found_store core) (empty_table t)) (sym lifetimes)

  -- nothing lacked
  pub whole : missing ≡ None → IsMended told seen may_leave core None
  whole none = record {
    queue = ready.queue;
    store = ready.store;
    tells = subst (λ (m : Option ℕ). TellsMissing m (found_queue core) (found_store core)) none ready.tells;
    pending = ready.holds.pending;
    dead = ready.holds.dead;
    last = ready.holds.last;
    tables = tables;
    lawful_tables = ready.holds.lawful_tables;
    events = ready.holds.events;
    undone = ready.holds.undone;
    below = subst (AreBelow (core.last + 1)) (sym ready.holds.pending) ready.holds.last.below;
    few = subst NoneIsWornOut (sym ready.holds.pending) few;
    free = subst AreQueuedOnly (sym ready.holds.pending) (none_is_claimed (found_queue core));
    submitted = subst (AllByRecursion (λ (e : Entry). HasRecord e.receipt e.command (found_queue core))) (sym ready.holds.pending) (each_told (found_queue core));
    lawful = ready.holds.lawful;
  }

  -- a Done was written: the core is the same, but for the queue's log and what waits
  module _ (new : LogCore D) (r : ℕ) (is : missing ≡ Some r) (log : HasQueue told seen may_leave new.queue (found_queue core ++ queue.Done r ∷ []))
      (same_store : new.store ≡ core.store) (same_found : found_queue new ≡ found_queue core) (same_kept : found_store new ≡ found_store core)
      (taken : new.pending ≡ flat_map (at_receipt r (λ e. [])) core.pending) (same_dead : new.discards.list ≡ core.discards.list) (same_last : new.last ≡ core.last) (same_tables : new.tables ≡ core.tables)
      (same_events : new.events.list ≡ core.events.list) (same_undone : new.undone ≡ core.undone) where
    left : new.pending ≡ flat_map (at_receipt r (λ e. [])) (pending_after (found_queue core) [])
    left = taken ∙ ap (flat_map (at_receipt r (λ e. []))) ready.holds.pending

    left_all : (P : Entry → Type 0) → AllByRecursion P (pending_after (found_queue core) []) → AllByRecursion P new.pending
    left_all P all = subst (AllByRecursion P) (sym left) (all_left P r (pending_after (found_queue core) []) all)

    pub done : IsMended told seen may_leave new (Some r)
    done = record {
      queue = subst (λ (xs : List QueueRecord). HasQueue told seen may_leave new.queue (xs ++ queue.Done r ∷ [])) (sym same_found) log;
      store = subst (λ (k : LogKeeper D). HasStore told seen may_leave k (found_store new)) (sym same_store) (subst (HasStore told seen may_leave core.store) (sym same_kept) ready.store);
      tells = subst (λ (xs : List QueueRecord). LacksDone xs (found_store new) r) (sym same_found) (subst (λ (ys : List StoreRecord). LacksDone (found_queue core) ys r) (sym same_kept) (subst (λ (m : Option ℕ). TellsMissing m (found_queue core) (found_store core)) is ready.tells));
      pending = left ∙ sym (pending_joined (found_queue core) (queue.Done r ∷ []) []) ∙ ap (λ (xs : List QueueRecord). pending_after (xs ++ queue.Done r ∷ []) []) (sym same_found);
      dead = same_dead ∙ ready.holds.dead ∙ ap (λ (xs : List QueueRecord). dead_after xs [] []) (sym same_found);
      last = subst (λ (n : ℕ). IsGreatest (last_after (found_queue new) 0) (pending_after (found_queue new) []) n) (sym same_last)
          (subst (λ (xs : List QueueRecord). IsGreatest (last_after xs 0) (pending_after xs []) core.last) (sym same_found) ready.holds.last);
      tables = subst (λ (t : Table). t ≡ table_after (found_store new) (empty_table t.ttls)) (sym same_tables) (tables ∙ ap (λ (ys : List StoreRecord). table_after ys (empty_table core.tables.ttls)) (sym same_kept));
      lawful_tables = subst (λ (t : Table). IsLawfulTable t) (sym same_tables) ready.holds.lawful_tables;
      events = same_events ∙ ready.holds.events;
      undone = same_undone ∙ ready.holds.undone;
      below = subst (λ (n : ℕ). AreBelow (n + 1) new.pending) (sym same_last) (left_all (λ (e : Entry). e.receipt < core.last + 1) ready.holds.last.below);
      few = left_all (λ (e : Entry). e.attempts < 16) few;
      free = left_all (λ (e : Entry). e.claimed ≡ false) (none_is_claimed (found_queue core));
      submitted = subst (λ (xs : List QueueRecord). AllByRecursion (λ (e : Entry). HasRecord e.receipt e.command xs) new.pending) (sym same_found)
          (left_all (λ (e : Entry). HasRecord e.receipt e.command (found_queue core)) (each_told (found_queue core)));
      lawful = subst (AllByRecursion IsQueueRecord) (sym same_found) ready.holds.lawful;
    }

  -- ---- the disks

  module _ (ttls : Ttls) (history : History) (both : Stands ttls (found_queue core) (found_store core) history) where
    at : (xs : List QueueRecord) (q : Option (List QueueRecord)) (s : Option (List StoreRecord)) → q ≡ Some xs → s ≡ Some (found_store core) → Stands ttls xs (found_store core) history → StandsAt ttls q s history
    at xs q s q_is s_is stand = record { queue_records = xs; store_records = found_store core; queue_is = q_is; store_is = s_is; stands = stand }

    store_known : (sa sb : List ℕ) → may_leave (disk_a (pair_of core.store)) sa → may_leave (disk_b (pair_of core.store)) sb → records_at store_at sa sb ≡ Some (found_store core)
    store_known sa sb a b = ready.store.images (records_at store_at sa sb) (sa, sb, a, b, refl)

    -- before the Done is written
    pub reads_still : (qa qb sa sb : List ℕ) → may_leave (disk_a (queue_pair core.queue)) qa → may_leave (disk_b (queue_pair core.queue)) qb → may_leave (disk_a (pair_of core.store)) sa → may_leave (disk_b (pair_of core.store)) sb
        → StandsAt ttls (records_at queue_at qa qb) (records_at store_at sa sb) history
    reads_still qa qb sa sb a b c d = at (found_queue core) (records_at queue_at qa qb) (records_at store_at sa sb) (ready.queue.images (records_at queue_at qa qb) (qa, qb, a, b, refl)) (store_known sa sb c d) both

    -- and while it is
    pub writes_on : (r : ℕ) → missing ≡ Some r → (q : Option (List QueueRecord)) → IsOrMore (found_queue core) (queue.Done r) q → (sa sb : List ℕ) → may_leave (disk_a (pair_of core.store)) sa → may_leave (disk_b (pair_of core.store)) sb
        → StandsAt ttls q (records_at store_at sa sb) history
    writes_on r is q (inl old) sa sb c d = at (found_queue core) q (records_at store_at sa sb) old (store_known sa sb c d) both
    writes_on r is q (inr more) sa sb c d =
        at (found_queue core ++ queue.Done r ∷ []) q (records_at store_at sa sb) more (store_known sa sb c d)
        (mended ttls (found_queue core) (found_store core) history both (Some r) (subst (λ (m : Option ℕ). TellsMissing m (found_queue core) (found_store core)) is ready.tells)).0

-- ---- answers

pub put_ok : (answer : Kept) → fault_in answer ≡ None → answer ≡ kept.Ok
put_ok kept.Ok is = refl
put_ok kept.Failed is = absurd cc
put_ok kept.Down is = absurd cc
put_ok kept.Memory is = absurd cc
put_ok kept.Spent is = absurd cc

pub not_down : (answer : Kept) → answer ≡ kept.Ok → answer ≡ kept.Down → ⊥
not_down answer ok down = let no : kept.Ok ≡ kept.Down = sym ok ∙ down in cc

-- a Done is a frame of fourteen bytes
pub past : (size r : ℕ) → HasNoRoom size → IsPast size (queue_text (queue.Done r))
past size r full = inr full

pub not_past : (size r : ℕ) → IsPast size (queue_text (queue.Done r)) → HasNoRoom size
not_past size r (inl long) = absurd (omega (arith, long))
not_past size r (inr full) = full

pub answered_room : {D : Type 0} (answer : Kept) (fault : OpenCoreFault) (disks : Disks D) (missing : Option ℕ) (size r : ℕ) → fault_in answer ≡ Some fault → missing ≡ Some r → (answer ≡ kept.Memory → ⊥) → (answer ≡ kept.Spent → HasNoRoom size)
    → MatchMended (Err (fault, disks)) missing size
answered_room kept.Ok fault disks missing size r is some fed full = none_some fault is
answered_room {D} kept.Failed fault disks missing size r is some fed full = subst (λ (f : OpenCoreFault). MatchMended {D = D} (Err (f, disks)) missing size) (some_is _ fault is) tt
answered_room {D} kept.Down fault disks missing size r is some fed full = subst (λ (f : OpenCoreFault). MatchMended {D = D} (Err (f, disks)) missing size) (some_is _ fault is) tt
answered_room kept.Memory fault disks missing size r is some fed full = absurd (fed refl)
answered_room {D} kept.Spent fault disks missing size r is some fed full = subst (λ (f : OpenCoreFault). MatchMended {D = D} (Err (f, disks)) missing size) (some_is _ fault is) ((r, some), full refl)

pub answered_cause : {D : Type 0} (answer : Kept) (fault : OpenCoreFault) (disks : Disks D) (a b c d : ℕ) → fault_in answer ≡ Some fault → PairCounts a b c d (IsFaulty answer) → PairCounts a b c d (IsQueueFault (Err (fault, disks)))
answered_cause kept.Ok fault disks a b c d is counts = none_some fault is
answered_cause {D} kept.Failed fault disks a b c d is counts = subst (λ (f : OpenCoreFault). PairCounts a b c d (IsQueueFault {D = D} (Err (f, disks)))) (some_is _ fault is) counts
answered_cause {D} kept.Down fault disks a b c d is counts = subst (λ (f : OpenCoreFault). PairCounts a b c d (IsQueueFault {D = D} (Err (f, disks)))) (some_is _ fault is) counts
answered_cause {D} kept.Memory fault disks a b c d is counts = subst (λ (f : OpenCoreFault). PairCounts a b c d (IsQueueFault {D = D} (Err (f, disks)))) (some_is _ fault is) counts
answered_cause {D} kept.Spent fault disks a b c d is counts = subst (λ (f : OpenCoreFault). PairCounts a b c d (IsQueueFault {D = D} (Err (f, disks)))) (some_is _ fault is) counts

pub answered_unwritten : (answer : Kept) (fault : OpenCoreFault) → fault_in answer ≡ Some fault → (fault ≡ QueueFault → ⊥) → (answer ≡ kept.Memory) ⊎ (answer ≡ kept.Spent)
answered_unwritten kept.Ok fault is other = none_some fault is
answered_unwritten kept.Failed fault is other = absurd (other (sym (some_is _ fault is)))
answered_unwritten kept.Down fault is other = absurd (other (sym (some_is _ fault is)))
answered_unwritten kept.Memory fault is other = inl refl
answered_unwritten kept.Spent fault is other = inr refl

-- ---- time

rises : {D : Type 0} (may_leave : D → List ℕ → Type 0) (moment : D → ℕ) (left_since : D → ℕ → List ℕ → Type 0) (P : List ℕ → List ℕ → Type 0) (side : Side) (old new : Pair D)
    → Within may_leave moment left_since side old new P → (moment (disk_a old) ≤ moment (disk_a new)) × (moment (disk_b old) ≤ moment (disk_b new))
rises may_leave moment left_since P A old new run = (run.moments.later, (let same = ap moment run.untouched in omega (arith, same)))
rises may_leave moment left_since P B old new run = ((let same = ap moment run.untouched in omega (arith, same)), run.moments.later)

pub time_goes_on : {D : Type 0} (may_leave : D → List ℕ → Type 0) (moment : D → ℕ) (left_since : D → ℕ → List ℕ → Type 0) (P : Option (List QueueRecord) → Type 0) (old new : QueueLog D)
    → QueueLeaves may_leave moment left_since old new P → (moment (disk_a (queue_pair old)) ≤ moment (disk_a (queue_pair new))) × (moment (disk_b (queue_pair old)) ≤ moment (disk_b (queue_pair new)))
time_goes_on may_leave moment left_since P old new leaves = rises may_leave moment left_since (λ a b. P (records_at queue_at a b)) (side_of (queue_pair old)) (queue_pair old) (queue_pair new) leaves.run
