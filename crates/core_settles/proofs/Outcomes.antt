-- How a settle ends, case by case.
use Rattle.std.proofs.Common.{◌≡◌, ◌≢◌, ◌∙◌, ◌⊎◌, inl, inr, ℕ, suc, ◌+◌, ◌^◌, ◌<◌, ◌≤◌, Bool, true, false, List, [], ◌∷◌, ◌++◌, length, Some, arith, refl, sym, ap, subst}
use Rattle.std.specs.List.{flat_map}
use Rattle.core_claims.specs.fleet_rows.declared.change.Change.{Change}
use Rattle.core_claims.specs.fleet_rows.declared.refusal.Cause.TheVariants as cause
use Rattle.core_claims.specs.fleet_rows.declared.refusal.Refusal.{Refusal}
use Rattle.core_claims.specs.fleet_ports.Counts.{Rose}
use Rattle.core_claims.specs.record_spec.declared.queue.QueueRecord.{QueueRecord}
use Rattle.core_claims.specs.record_spec.declared.queue.QueueRecord.TheVariants as queue
use Rattle.core_claims.specs.record_spec.declared.store.StoreRecord.{StoreRecord}
use Rattle.core_claims.specs.record_spec.declared.store.StoreRecord.TheVariants as store
use Rattle.core_claims.specs.record_spec.Queue.{queue_text}
use Rattle.core_claims.specs.fleet_keeper.declared.kept.Kept.{Kept}
use Rattle.core_claims.specs.fleet_keeper.declared.kept.Kept.TheVariants as kept
use Rattle.core_claims.specs.fleet_keeper.Kept.{IsFaulty}
use Rattle.core_claims.specs.fleet_keeper.Limits.{IsPast}
use Rattle.core_claims.specs.fleet_tables.Stands.{Stands}
use Rattle.core_claims.specs.history_spec.Trace.{applied_as}
use Rattle.core_claims.specs.table_machine.Steps.{apply}
use Rattle.core_claims.specs.table_machine.Table.{Table}
use Rattle.core_claims.specs.core_spec.declared.dead.Dead.{Dead}
use Rattle.core_claims.specs.core_spec.declared.event.Event.TheVariants.{Release, Apply, Fail, Discard}
use Rattle.core_claims.specs.core_spec.Discards.{put_dead}
use Rattle.core_claims.specs.core_spec.History.{History}
use Rattle.core_claims.specs.core_spec.Legal.{Rises}
use Rattle.core_claims.specs.core_machine.Claims.{attempts_of, is_claimed}
use Rattle.core_claims.specs.core_machine.Steps as steps
use Rattle.core_claims.specs.core_machine.Steps.{marked, at_receipt}
use Rattle.core_claims.specs.queue_log.declared.queue.QueueLog.{QueueLog}
use Rattle.core_claims.specs.queue_log.Queued.{queue_size}
use Rattle.core_claims.specs.declared.job.Job.{Job}
use Rattle.core_claims.specs.core_state.declared.state.CoreState.{CoreState}
use Rattle.core_claims.specs.core_state.Changes.{OthersStay, MemoryStays, CoreStays}
use Rattle.core_claims.specs.core_state.Puts.{HasPut, HasKept}
use Rattle.core_claims.proofs.of_core_state.Ports.{Ports, keeper_stays}
use Rattle.core_claims.proofs.of_core_state.Standing.{is_down}
use Rattle.core_settles.specs.declared.answers.Settled.{Settled}
use Rattle.core_settles.specs.declared.answers.Settled.TheVariants as settled
use Rattle.core_settles.specs.declared.answers.Verdict.{Verdict}
use Rattle.core_settles.specs.declared.answers.Verdict.TheVariants as verdict
use Rattle.core_settles.specs.Ends as ends
use Rattle.core_settles.specs.Ends.{HasFreed, WasFreed, dead_of, HasDiscarded, HasApplied, HasFailed, SettleDoes, was_down, not_claimed, worked}
use Rattle.core_settles.specs.Settles.{IsSpent}
use Rattle.core_settles.proofs.CountedLists.{below_or}
use Rattle.core_claims.specs.core_state.log_spec.Limits.{most_log}

module _ {D K : Type 0} (p : Ports D K) (job : Job) (old new : CoreState D K) where
  abbrev pub Put : Kept → QueueRecord → Type 0
  Put answer rec = HasPut p.tells p.seen p.may_leave p.moment p.left_since p.faults answer old.queue new.queue rec

  abbrev pub Keeps : Kept → StoreRecord → K → Type 0
  Keeps answer rec k = HasKept p.store_tells p.kept p.images p.store_moment p.images_since p.store_up p.store_down p.store_size (keeper_stays p) p.store_faults answer old.store k rec

  abbrev pub kept_record : Change → StoreRecord
  kept_record change = store.Received job.receipt (Some job.command.received) change

  abbrev pub Failure : QueueRecord
  Failure = queue.Fail job.receipt (p.store_faults old.store) (p.store_faults new.store)

  -- what the store's failure leaves
  pub record StoreFailed (change : Change) : Type 0 where
    pub keeps : Keeps kept.Failed (kept_record change) new.store
    pub rises : Rises (p.store_faults old.store) (p.store_faults new.store)

  pub data Outcome (came : Settled) (v : Verdict) : Type 0 where
    down : came ≡ settled.Down → is_down p old ≡ true → new ≡ old → Outcome came v
    unclaimed : came ≡ settled.NotClaimed → is_down p old ≡ false → is_claimed job.receipt old.pending ≡ false → new ≡ old → Outcome came v
    no_memory : came ≡ settled.Memory job v → is_down p old ≡ false → is_claimed job.receipt old.pending ≡ true → CoreStays old new → Outcome came v
    freed : came ≡ settled.Spent → is_down p old ≡ false → is_claimed job.receipt old.pending ≡ true → IsSpent p.store_size job v old → WasFreed job.receipt old new → Outcome came v
    refused : (refusal : Refusal) → v ≡ verdict.Refused refusal → came ≡ settled.Discarded → is_down p old ≡ false → is_claimed job.receipt old.pending ≡ true → Put kept.Ok (queue.Refused job.receipt refusal) → new.store ≡ old.store
        → HasDiscarded (dead_of job (cause.Refused refusal)) (Discard job.receipt (cause.Refused refusal) ∷ []) old new → Outcome came v
    refuse_unput : (refusal : Refusal) → v ≡ verdict.Refused refusal → came ≡ settled.QueueFault → is_down p old ≡ false → is_claimed job.receipt old.pending ≡ true → Put kept.Failed (queue.Refused job.receipt refusal) → new.store ≡ old.store
        → HasFreed job.receipt old new → Outcome came v
    refuse_open : (refusal : Refusal) → v ≡ verdict.Refused refusal → came ≡ settled.QueueFault → is_down p old ≡ false → is_claimed job.receipt old.pending ≡ true → Put kept.Down (queue.Refused job.receipt refusal) → new.store ≡ old.store
        → MemoryStays old new → Outcome came v
    applied : (change : Change) → v ≡ verdict.Change change → came ≡ settled.Applied → is_down p old ≡ false → is_claimed job.receipt old.pending ≡ true → Keeps kept.Ok (kept_record change) new.store → Put kept.Ok (queue.Done job.receipt)
        → HasApplied job change old.undone old new → Outcome came v
    undone : (change : Change) → v ≡ verdict.Change change → came ≡ settled.QueueFault → is_down p old ≡ false → is_claimed job.receipt old.pending ≡ true → Keeps kept.Ok (kept_record change) new.store
        → (answer : Kept) → IsFaulty answer → Put answer (queue.Done job.receipt) → HasApplied job change true old new → Outcome came v
    store_down : (change : Change) → v ≡ verdict.Change change → came ≡ settled.StoreDown → is_down p old ≡ false → is_claimed job.receipt old.pending ≡ true → Keeps kept.Down (kept_record change) new.store
        → new.queue ≡ old.queue → MemoryStays old new → Outcome came v
    failed : (change : Change) (n : ℕ) → v ≡ verdict.Change change → came ≡ settled.Failed n → is_down p old ≡ false → is_claimed job.receipt old.pending ≡ true → StoreFailed change → Put kept.Ok Failure
        → n ≡ suc (attempts_of job.receipt old.pending) → attempts_of job.receipt old.pending < 15 → HasFailed job.receipt (p.store_faults old.store) (p.store_faults new.store) old new → Outcome came v
    given_up : (change : Change) → v ≡ verdict.Change change → came ≡ settled.Discarded → is_down p old ≡ false → is_claimed job.receipt old.pending ≡ true → StoreFailed change → Put kept.Ok Failure
        → attempts_of job.receipt old.pending ≡ 15 → HasDiscarded (dead_of job cause.Failures) (Discard job.receipt cause.Failures ∷ Fail job.receipt (p.store_faults old.store) (p.store_faults new.store) ∷ []) old new → Outcome came v
    fail_unput : (change : Change) → v ≡ verdict.Change change → came ≡ settled.QueueFault → is_down p old ≡ false → is_claimed job.receipt old.pending ≡ true → StoreFailed change → Put kept.Failed Failure
        → HasFreed job.receipt old new → Outcome came v
    fail_open : (change : Change) → v ≡ verdict.Change change → came ≡ settled.QueueFault → is_down p old ≡ false → is_claimed job.receipt old.pending ≡ true → StoreFailed change → Put kept.Down Failure
        → MemoryStays old new → Outcome came v

-- ---- numbers

-- a count that rose rises
rises_so : (before now : ℕ) → before ≤ now → now < 2 ^ 64 → Rose before now → Rises before now
rises_so before now later fits rose = elim (below_or before now) [
  | inl less ↦ inl less
  | inr not ↦ inr (omega (arith, not, later, fits, rose), omega (arith, not, later, fits, rose))
]

-- a small record is put where there is room for the largest
abbrev pub HasRoom : ℕ → Type 0
HasRoom size = size + 5 + 25 ≤ most_log

not_past : (size : ℕ) (text : List ℕ) → length text ≤ 25 → HasRoom size → IsPast size text → ⊥
not_past size text short room (inl long) = omega (arith, short, long)
not_past size text short room (inr past) = omega (arith, short, room, past)

-- ---- of what is done

module _ {D K : Type 0} (p : Ports D K) (job : Job) where
  module _ (old mid new : CoreState D K) (same_queue : mid.queue ≡ old.queue) (memory : MemoryStays old mid) where
    others_so : OthersStay mid new → OthersStay old new
    others_so o = record {
      tables = o.tables ∙ memory.others.tables;
      dead = o.dead ∙ memory.others.dead;
      undone = o.undone ∙ memory.others.undone;
      found = o.found ∙ memory.others.found;
      opened_a = o.opened_a ∙ memory.others.opened_a;
      opened_b = o.opened_b ∙ memory.others.opened_b;
    }

    freed_so : HasFreed job.receipt mid new → HasFreed job.receipt old new
    freed_so h = record {
      others = others_so h.others;
      pending = h.pending ∙ ap (flat_map (at_receipt job.receipt (λ e. marked false e ∷ []))) memory.pending;
      events = h.events ∙ ap (λ (g : History). Release job.receipt ∷ g) memory.events;
      room = omega (arith, memory.room, h.room);
      last = h.last ∙ memory.last;
    }

    discarded_so : (dead : Dead) (more : History) → HasDiscarded dead more mid new → HasDiscarded dead more old new
    discarded_so dead more h = record {
      tables = h.tables ∙ memory.others.tables;
      dead_is = h.dead_is ∙ ap (put_dead dead) memory.others.dead;
      undone = h.undone ∙ memory.others.undone;
      found = h.found ∙ memory.others.found;
      opened_a = h.opened_a ∙ memory.others.opened_a;
      opened_b = h.opened_b ∙ memory.others.opened_b;
      pending = h.pending ∙ ap (flat_map (at_receipt dead.receipt (λ e. []))) memory.pending;
      events = h.events ∙ ap (λ (g : History). more ++ g) memory.events;
      room = omega (arith, ap length memory.pending, h.room);
      last = h.last ∙ memory.last;
    }

    failed_so : (before after : ℕ) → HasFailed job.receipt before after mid new → HasFailed job.receipt before after old new
    failed_so before after h = record {
      few = h.few;
      others = others_so h.others;
      pending = h.pending ∙ ap (flat_map (at_receipt job.receipt (λ e. steps.failed e ∷ []))) memory.pending;
      events = h.events ∙ ap (λ (g : History). Fail job.receipt before after ∷ g) memory.events;
      room = omega (arith, ap length memory.pending, h.room);
      last = h.last ∙ memory.last;
    }

    memory_so : MemoryStays mid new → MemoryStays old new
    memory_so m = record {
      others = others_so m.others;
      pending = m.pending ∙ memory.pending;
      events = m.events ∙ memory.events;
      room = omega (arith, memory.room, m.room);
      last = m.last ∙ memory.last;
    }

    applied_so : (change : Change) (was is_now : Bool) → is_now ≡ was → HasApplied job change was mid new → HasApplied job change is_now old new
    applied_so change was is_now same h = record {
      tables = h.tables ∙ ap (apply (applied_as job.receipt (Some job.command.received) change)) memory.others.tables;
      stands = λ trace was. h.stands trace (subst (λ (t : Table). Stands t trace) (sym memory.others.tables) was);
      dead = h.dead ∙ memory.others.dead;
      undone_is = h.undone_is ∙ sym same;
      found = h.found ∙ memory.others.found;
      opened_a = h.opened_a ∙ memory.others.opened_a;
      opened_b = h.opened_b ∙ memory.others.opened_b;
      pending = h.pending ∙ ap (flat_map (at_receipt job.receipt (λ e. []))) memory.pending;
      events = h.events ∙ ap (λ (g : History). Apply job.receipt (Some job.command.received) ∷ g) memory.events;
      room = omega (arith, ap length memory.pending, h.room);
      last = h.last ∙ memory.last;
    }

    abbrev MidPut : Kept → QueueRecord → Type 0
    MidPut answer rec = HasPut p.tells p.seen p.may_leave p.moment p.left_since p.faults answer mid.queue new.queue rec

    put_so : (answer : Kept) (rec : QueueRecord) → MidPut answer rec → Put p job old new answer rec
    put_so answer rec = subst (λ (l : QueueLog D). HasPut p.tells p.seen p.may_leave p.moment p.left_since p.faults answer l new.queue rec) same_queue

    keeps_so : (answer : Kept) (rec : StoreRecord) → new.store ≡ mid.store → Keeps p job old mid answer rec mid.store → Keeps p job old new answer rec new.store
    keeps_so answer rec same = subst (λ (k : K). HasKept p.store_tells p.kept p.images p.store_moment p.images_since p.store_up p.store_down p.store_size (keeper_stays p) p.store_faults answer old.store k rec) (sym same)

faulty : (answer : Kept) → (answer ≢ kept.Ok) → (answer ≢ kept.Memory) → (answer ≢ kept.Spent) → IsFaulty answer
faulty kept.Ok a b c = absurd (a refl)
faulty kept.Failed a b c = tt
faulty kept.Down a b c = tt
faulty kept.Memory a b c = absurd (b refl)
faulty kept.Spent a b c = absurd (c refl)

-- ---- the case

module _ {D K : Type 0} (p : Ports D K) (job : Job) (old new : CoreState D K) (came : Settled) (up : is_down p old ≡ false) (is : is_claimed job.receipt old.pending ≡ true) where
  module _ (change : Change) (room : HasRoom (queue_size old.queue)) (mid : CoreState D K) (queue_same : mid.queue ≡ old.queue) (memory : MemoryStays old mid) where
    abbrev Ends : Type 0
    Ends = Outcome p job old new came (verdict.Change change)

    abbrev Mid : Kept → QueueRecord → Type 0
    Mid answer rec = HasPut p.tells p.seen p.may_leave p.moment p.left_since p.faults answer mid.queue new.queue rec

    abbrev Stored : Kept → Type 0
    Stored answer = HasKept p.store_tells p.kept p.images p.store_moment p.images_since p.store_up p.store_down p.store_size (keeper_stays p) p.store_faults answer old.store mid.store (kept_record p job old new change)

    stored_so : (answer : Kept) → new.store ≡ mid.store → Stored answer → Keeps p job old new answer (kept_record p job old new change) new.store
    stored_so answer same = subst (λ (k : K). HasKept p.store_tells p.kept p.images p.store_moment p.images_since p.store_up p.store_down p.store_size (keeper_stays p) p.store_faults answer old.store k (kept_record p job old new change)) (sym same)

    not_spent : (rec : QueueRecord) → length (queue_text rec) ≤ 25 → Mid kept.Spent rec → ⊥
    not_spent rec short put = not_past (queue_size mid.queue) (queue_text rec) short (subst (λ (l : QueueLog D). HasRoom (queue_size l)) (sym queue_same) room) (put.spent.0 refl)

    finished : Stored kept.Ok → ends.FinishDoes p.tells p.seen p.may_leave p.moment p.left_since p.faults came job change mid new → Ends
    finished stored (ends.done e put store h) =
        applied change refl e up is (stored_so kept.Ok store stored) (put_so p job old mid new queue_same memory kept.Ok (queue.Done job.receipt) put)
        (applied_so p job old mid new queue_same memory change mid.undone old.undone (sym memory.others.undone) h)
    finished stored (ends.undone answer e no_ok not_memory put store h) =
        undone change refl e up is (stored_so kept.Ok store stored) answer
        (faulty answer no_ok not_memory (λ spent. not_spent (queue.Done job.receipt) (omega arith) (subst (λ (a : Kept). Mid a (queue.Done job.receipt)) spent put)))
        (put_so p job old mid new queue_same memory answer (queue.Done job.receipt) put) (applied_so p job old mid new queue_same memory change true true refl h)

    module _ (stored : Stored kept.Failed) (fits : p.store_faults mid.store < 2 ^ 64) where
      abbrev at_mid : ℕ
      at_mid = p.store_faults mid.store

      abbrev before : ℕ
      before = p.store_faults old.store

      abbrev FailRecord : ℕ → QueueRecord
      FailRecord n = queue.Fail job.receipt before n

      failed_store : new.store ≡ mid.store → StoreFailed p job old new change
      failed_store same = record {
        keeps = stored_so kept.Failed same stored;
        rises = subst (λ n. Rises before n) (sym (ap p.store_faults same)) (rises_so before at_mid stored.cause.later fits (stored.cause.cause tt));
      }

      fail_put : (answer : Kept) → new.store ≡ mid.store → Mid answer (FailRecord at_mid) → Put p job old new answer (Failure p job old new)
      fail_put answer same put =
          subst (λ n. Put p job old new answer (FailRecord n)) (sym (ap p.store_faults same)) (put_so p job old mid new queue_same memory answer (FailRecord at_mid) put)

      fail_by : (answer : Kept) → came ≡ settled.QueueFault → (answer ≢ kept.Ok) → (answer ≢ kept.Down) → (answer ≢ kept.Memory) → Mid answer (FailRecord at_mid) → new.store ≡ mid.store → HasFreed job.receipt mid new → Ends
      fail_by kept.Ok e a b c put same h = absurd (a refl)
      fail_by kept.Failed e a b c put same h = fail_unput change refl e up is (failed_store same) (fail_put kept.Failed same put) (freed_so p job old mid new queue_same memory h)
      fail_by kept.Down e a b c put same h = absurd (b refl)
      fail_by kept.Memory e a b c put same h = absurd (c refl)
      fail_by kept.Spent e a b c put same h = absurd (not_spent (FailRecord at_mid) (omega arith) put)

      fail_ends : ends.FailDoes p.tells p.seen p.may_leave p.moment p.left_since p.faults came job before at_mid mid new → Ends
      fail_ends (ends.again n e put same n_is few h) =
          let attempts = ap (attempts_of job.receipt) memory.pending in
          failed change n refl e up is (failed_store same) (fail_put kept.Ok same put) (n_is ∙ ap suc attempts) (omega (arith, few, attempts))
          (subst (λ m. HasFailed job.receipt before m old new) (sym (ap p.store_faults same)) (failed_so p job old mid new queue_same memory before at_mid h))
      fail_ends (ends.last e put same n_is h) =
          given_up change refl e up is (failed_store same) (fail_put kept.Ok same put) (sym (ap (attempts_of job.receipt) memory.pending) ∙ n_is)
          (subst (λ m. HasDiscarded (dead_of job cause.Failures) (Discard job.receipt cause.Failures ∷ Fail job.receipt before m ∷ []) old new) (sym (ap p.store_faults same))
          (discarded_so p job old mid new queue_same memory (dead_of job cause.Failures) (Discard job.receipt cause.Failures ∷ Fail job.receipt before at_mid ∷ []) h))
      fail_ends (ends.unput answer e a b c put same h) = fail_by answer e a b c put same h
      fail_ends (ends.left_open e put same m) = fail_open change refl e up is (failed_store same) (fail_put kept.Down same put) (memory_so p job old mid new queue_same memory m)

    unstored : (answer : Kept) → (answer ≡ kept.Memory) ⊎ (answer ≡ kept.Spent) → Stored answer → mid.store ≡ old.store
    unstored answer which stored = stored.untouched which

    store_ends : (answer : Kept) → Stored answer → ends.AfterDoes p.tells p.seen p.may_leave p.moment p.left_since p.faults p.store_faults came answer job change (p.store_faults old.store) mid new → Ends
    store_ends kept.Ok stored did = finished stored did
    store_ends kept.Failed stored did = fail_ends stored did.0 did.1
    store_ends kept.Down stored did =
        store_down change refl did.0 up is (stored_so kept.Down (ap (λ (x : CoreState D K). x.store) did.1) stored) (ap (λ (x : CoreState D K). x.queue) did.1 ∙ queue_same)
        (subst (λ (x : CoreState D K). MemoryStays old x) (sym did.1) memory)
    store_ends kept.Memory stored did =
        no_memory did.0 up is (subst (λ (x : CoreState D K). CoreStays old x) (sym did.1) (record { memory = memory; queue = queue_same; store = unstored kept.Memory (inl refl) stored }))
    store_ends kept.Spent stored did =
        freed did.0 up is (inl (stored.spent refl)) (record {
          queue = did.1.queue ∙ queue_same;
          store = did.1.store ∙ unstored kept.Spent (inr refl) stored;
          freed = freed_so p job old mid new queue_same memory did.1.freed;
        })

  refuse_ends : (refusal : Refusal) → ends.RefuseDoes p.tells p.seen p.may_leave p.moment p.left_since p.faults came job refusal old new → Outcome p job old new came (verdict.Refused refusal)
  refuse_ends refusal (ends.no_memory e stays) = no_memory e up is stays
  refuse_ends refusal (ends.refused e put store h) = refused refusal refl e up is put store h
  refuse_ends refusal (ends.spent e put store h) = freed e up is (put.spent.0 refl) (record { queue = put.untouched (inr refl); store = store; freed = h })
  refuse_ends refusal (ends.unput e put store h) = refuse_unput refusal refl e up is put store h
  refuse_ends refusal (ends.left_open e put store m) = refuse_open refusal refl e up is put store m

  keep_ends : (change : Change) → ends.KeepDoes p.tells p.store_tells p.seen p.may_leave p.moment p.left_since p.faults p.kept p.images p.store_moment p.images_since p.store_up p.store_down p.store_size (keeper_stays p) p.store_faults came job change old new
      → Outcome p job old new came (verdict.Change change)
  keep_ends change (ends.no_room e past h) = freed e up is (inr past) h
  keep_ends change (ends.no_memory e stays) = no_memory e up is stays
  keep_ends change (ends.stored room did) = store_ends change room did.mid did.queue did.memory did.answer did.kept did.after

  work_ends : (v : Verdict) → ends.WorkDoes p.tells p.store_tells p.seen p.may_leave p.moment p.left_since p.faults p.kept p.images p.store_moment p.images_since p.store_up p.store_down p.store_size (keeper_stays p) p.store_faults came job v old new
      → Outcome p job old new came v
  work_ends (verdict.Change change) did = keep_ends change did
  work_ends (verdict.Refused refusal) did = refuse_ends refusal did

pub outcome : {D K : Type 0} (p : Ports D K) (job : Job) (old new : CoreState D K) (came : Settled) (v : Verdict)
    → SettleDoes p.tells p.store_tells p.seen p.may_leave p.moment p.left_since p.faults p.kept p.images p.store_moment p.images_since p.store_up p.store_down p.store_size (keeper_stays p) p.store_faults came job v old new → Outcome p job old new came v
outcome p job old new came v (was_down e is same) = down e is same
outcome p job old new came v (not_claimed e up is same) = unclaimed e up is same
outcome p job old new came v (worked up is did) = work_ends p job old new came up is v did
