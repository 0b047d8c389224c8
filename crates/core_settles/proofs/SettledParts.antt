-- What each outcome of a settle leaves of the core.
use Rattle.std.proofs.Common.{◌≡◌, ◌≢◌, ◌∙◌, ◌↔◌, ℕ, ◌≤◌, ◌==◌, Bool, true, false, ◌||◌, if◌then◌else◌, List, [], ◌∷◌, ◌++◌, length, Some, arith, refl, sym, ap, subst}
use Rattle.std.specs.List.{flat_map}
use Rattle.core_claims.proofs.of_plain_laws.Booleans.{not_so, never}
use Rattle.core_claims.specs.fleet_rows.declared.command.Command.{Command}
use Rattle.core_claims.specs.record_spec.declared.queue.QueueRecord.{QueueRecord}
use Rattle.core_claims.specs.record_spec.declared.store.StoreRecord.{StoreRecord}
use Rattle.core_claims.specs.fleet_rows.declared.refusal.Cause.TheVariants as cause
use Rattle.core_claims.specs.fleet_rows.declared.refusal.Refusal.{Refusal}
use Rattle.core_claims.specs.fleet_keeper.declared.kept.Kept.{Kept}
use Rattle.core_claims.specs.fleet_keeper.declared.kept.Kept.TheVariants as kept
use Rattle.core_claims.specs.fleet_keeper.Kept.{IsFaulty}
use Rattle.core_claims.specs.core_spec.declared.entry.Entry.{Entry}
use Rattle.core_claims.specs.core_spec.declared.event.Event.{Event}
use Rattle.core_claims.specs.core_spec.declared.event.Event.TheVariants.{Release, Apply, Fail, Discard}
use Rattle.core_claims.specs.core_spec.History.{History}
use Rattle.core_claims.specs.core_machine.Claims.{is_claimed}
use Rattle.core_claims.specs.table_machine.Table.{Table}
use Rattle.core_claims.specs.core_machine.Steps.{at_receipt, marked}
use Rattle.core_claims.specs.core_machine.Steps as steps
use Rattle.core_claims.specs.core_spec.Pending.{NoneIsWornOut}
use Rattle.core_claims.specs.queue_log.declared.queue.QueueLog.{QueueLog}
use Rattle.core_claims.specs.queue_log.Queued.{QueueIsUp, queue_down}
use Rattle.core_claims.specs.declared.job.Job.{Job}
use Rattle.core_claims.specs.core_state.declared.found.Found.{Found}
use Rattle.core_claims.specs.core_state.declared.state.CoreState.{CoreState}
use Rattle.core_claims.specs.core_state.Changes.{OpeningStays, MemoryStays}
use Rattle.core_claims.specs.core_state.Puts.{QueueCounts, QueueRoseTwice}
use Rattle.core_claims.specs.core_state.Seen.{claimed_number, AreSound, IsSubmittedIn, IsSubmitted}
use Rattle.core_claims.proofs.of_core_state.Carried.{submitted_carried, submitted_on, sound_carried, down_carried}
use Rattle.core_claims.proofs.of_core_state.Ports.{Ports, keeper_stays}
use Rattle.core_claims.proofs.of_core_state.SoundLists.{all_submitted, sound_as, sound_taken, sound_marked, sound_failed, claimed_taken, claimed_failed, claimed_released, claimed_most}
use Rattle.core_claims.proofs.of_core_state.Submissions.{submitted_stays}
use Rattle.core_claims.proofs.of_core_state.Standing.{IsSoundCore, is_down, core_up, IsUp, parts_up}
use Rattle.core_settles.specs.declared.answers.Settled.{Settled}
use Rattle.core_settles.specs.declared.answers.Settled.TheVariants as settled
use Rattle.core_settles.specs.declared.answers.Verdict.{Verdict}
use Rattle.core_settles.specs.declared.answers.Verdict.TheVariants as verdict
use Rattle.core_settles.specs.Ends.{HasFreed, HasFailed}
use Rattle.core_settles.specs.Settles.{StoreRose, settled_events, SettleLeaves, LeavesPending}
use Rattle.core_settles.proofs.Outcomes.{Put, Keeps, Outcome, down, unclaimed, no_memory, freed, refused, refuse_unput, refuse_open, applied, undone, store_down, failed, given_up, fail_unput, fail_open}

-- the answers with which the store's count stays
abbrev Calm : Settled → Type 0
Calm settled.NotClaimed = Unit {0}
Calm settled.Spent = Unit {0}
Calm settled.Down = Unit {0}
Calm (settled.Memory j w) = Unit {0}
Calm _ = ⊥

-- ---- what is still pending

-- what is claimed is among the entries
pub claimed_some : (r : ℕ) (es : List Entry) → is_claimed r es ≡ true → es ≢ []
claimed_some r [] is none = absurd cc
claimed_some r (e ∷ es) is none = absurd cc

changed_step : (b : Bool) (x e : Entry) (es : List Entry) → (if b then x ∷ [] else e ∷ []) ++ es ≢ []
changed_step true x e es none = absurd cc
changed_step false x e es none = absurd cc

-- and a change of its entry keeps it there
changed_some : (r : ℕ) (change : Entry → Entry) (es : List Entry) → is_claimed r es ≡ true → flat_map (at_receipt r (λ e. change e ∷ [])) es ≢ []
changed_some r change [] is = absurd cc
changed_some r change (e ∷ es) is = changed_step (r == e.receipt) (change e) e (flat_map (at_receipt r (λ e. change e ∷ [])) es)

abbrev Refuses : Verdict → Type 0
Refuses (verdict.Refused refusal) = Unit {0}
Refuses (verdict.Change change) = ⊥

module _ {D K : Type 0} (p : Ports D K) (job : Job) (old new : CoreState D K) where
  -- ---- the logs

  put_up : (answer : Kept) (rec : QueueRecord) → Put p job old new answer rec → queue_down new.queue ≡ false → QueueIsUp p.seen p.may_leave new.queue
  put_up answer rec put up = put.again (λ e. never (queue_down new.queue) (put.down.1 e) up)

  pub queue_stays : (answer : Kept) (rec : QueueRecord) → (answer ≢ kept.Down) → Put p job old new answer rec → queue_down new.queue ≡ false
  queue_stays answer rec other put = not_so (queue_down new.queue) (λ t. other (put.down.0 t))

  kept_up : (answer : Kept) (rec : StoreRecord) → Keeps p job old new answer rec new.store → p.store_down new.store ≡ false → p.store_up new.store
  kept_up answer rec keeps up = keeps.again (λ e. never (p.store_down new.store) (keeps.down.1 e) up)

  pub store_stays : (answer : Kept) (rec : StoreRecord) → (answer ≢ kept.Down) → Keeps p job old new answer rec new.store → p.store_down new.store ≡ false
  store_stays answer rec other keeps = not_so (p.store_down new.store) (λ t. other (keeps.down.0 t))

  put_counts : (answer : Kept) (rec : QueueRecord) (came : Settled) → (IsFaulty answer → came ≡ settled.QueueFault) → (came ≡ settled.QueueFault → IsFaulty answer) → Put p job old new answer rec
      → QueueCounts p.faults old.queue new.queue (came ≡ settled.QueueFault)
  put_counts answer rec came to from put = record { later_a = put.cause.later_a; later_b = put.cause.later_b; cause = λ e. put.cause.cause (from e); calm = λ none. put.cause.calm (λ f. none (to f)) }

  calm_counts : (Fault : Type 0) → (Fault → ⊥) → new.queue ≡ old.queue → QueueCounts p.faults old.queue new.queue Fault
  calm_counts Fault none same = subst (λ (q : QueueLog D). QueueCounts p.faults old.queue q Fault) (sym same) (record { later_a = omega arith; later_b = omega arith; cause = λ fault. absurd (none fault); calm = λ f. (refl, refl) })

  -- ---- the list

  module _ (sound : IsSoundCore p old) where
    store_as : new.store ≡ old.store → p.store_down new.store ≡ false → p.store_up new.store
    store_as same up = subst p.store_up (sym same) (sound.store (ap p.store_down (sym same) ∙ up))

    queue_as : new.queue ≡ old.queue → queue_down new.queue ≡ false → QueueIsUp p.seen p.may_leave new.queue
    queue_as same up = subst (QueueIsUp p.seen p.may_leave) (sym same) (sound.queue (ap queue_down (sym same) ∙ up))

    abbrev Found_is : Type 0
    Found_is = new.found ≡ old.found

    abbrev QueueSound : Type 0
    QueueSound = queue_down new.queue ≡ false → QueueIsUp p.seen p.may_leave new.queue

    abbrev StoreSound : Type 0
    StoreSound = p.store_down new.store ≡ false → p.store_up new.store

    freed_sound : is_claimed job.receipt old.pending ≡ true → QueueSound → StoreSound → HasFreed job.receipt old new → IsSoundCore p new
    freed_sound is q s h = record {
      queue = q;
      store = s;
      pending = sound_as old.last new.last old.found.queue.value new.found.queue.value (Release job.receipt ∷ old.events.list) new.events.list _ new.pending
          h.last (ap (λ (f : Found). f.queue.value) h.others.found) h.events h.pending (sound_marked old.last old.found.queue.value old.events.list old.pending sound.pending (Release job.receipt) job.receipt false);
      room = (let same = ap claimed_number h.pending in let fewer = claimed_released job.receipt old.pending is in omega (arith, same, fewer, h.room, sound.room));
    }

    memory_sound : QueueSound → StoreSound → MemoryStays old new → IsSoundCore p new
    memory_sound q s m = record {
      queue = q;
      store = s;
      pending = sound_as old.last new.last old.found.queue.value new.found.queue.value old.events.list new.events.list old.pending new.pending m.last (ap (λ (f : Found). f.queue.value) m.others.found) m.events m.pending sound.pending;
      room = (let same = ap claimed_number m.pending in omega (arith, same, m.room, sound.room));
    }

    taken_sound : (e : Event) (earlier : History) → AreSound old.last old.found.queue.value earlier old.pending → new.last ≡ old.last → Found_is → new.events.list ≡ e ∷ earlier → new.pending ≡ flat_map (at_receipt job.receipt (λ e. [])) old.pending
        → length old.pending ≤ new.events.room → QueueSound → StoreSound → IsSoundCore p new
    taken_sound e earlier are last found events pending room q s = record {
      queue = q;
      store = s;
      pending = sound_as old.last new.last old.found.queue.value new.found.queue.value (e ∷ earlier) new.events.list _ new.pending
          last (ap (λ (f : Found). f.queue.value) found) events pending (sound_taken old.last old.found.queue.value earlier old.pending are e job.receipt);
      room = (let same = ap claimed_number pending in let fewer = claimed_taken job.receipt old.pending in let most = claimed_most old.pending in omega (arith, same, fewer, most, room));
    }

    with_event : (e : Event) → AreSound old.last old.found.queue.value (e ∷ old.events.list) old.pending
    with_event e = record {
      below = sound.pending.below;
      few = sound.pending.few;
      submitted = all_submitted e old.found.queue.value old.events.list old.pending sound.pending.submitted;
      fit = sound.pending.fit;
    }

    failed_sound : QueueSound → StoreSound → (before after : ℕ) → HasFailed job.receipt before after old new → IsSoundCore p new
    failed_sound q s before after h = record {
      queue = q;
      store = s;
      pending = sound_as old.last new.last old.found.queue.value new.found.queue.value (Fail job.receipt before after ∷ old.events.list) new.events.list _ new.pending
          h.last (ap (λ (f : Found). f.queue.value) h.others.found) h.events h.pending
          (sound_failed old.last old.found.queue.value old.events.list old.pending sound.pending (Fail job.receipt before after) job.receipt (subst NoneIsWornOut h.pending h.few));
      room = (let same = ap claimed_number h.pending in let fewer = claimed_failed job.receipt old.pending in let most = claimed_most old.pending in omega (arith, same, fewer, most, h.room));
    }

    pub settle_sound : (came : Settled) (v : Verdict) → Outcome p job old new came v → IsSoundCore p new
    settle_sound came v (down e is same) = subst (IsSoundCore p) (sym same) sound
    settle_sound came v (unclaimed e up is same) = subst (IsSoundCore p) (sym same) sound
    settle_sound came v (no_memory e up is m) = sound_carried p old new [] m sound
    settle_sound came v (freed e up is s h) = freed_sound is (queue_as h.queue) (store_as h.store) h.freed
    settle_sound came v (refused refusal ve e up is put store h) =
        taken_sound (Discard job.receipt (cause.Refused refusal)) old.events.list sound.pending h.last h.found h.events h.pending h.room (put_up kept.Ok _ put) (store_as store)
    settle_sound came v (refuse_unput refusal ve e up is put store h) = freed_sound is (put_up kept.Failed _ put) (store_as store) h
    settle_sound came v (refuse_open refusal ve e up is put store m) = memory_sound (put_up kept.Down _ put) (store_as store) m
    settle_sound came v (applied change ve e up is keeps put h) =
        taken_sound (Apply job.receipt (Some job.command.received)) old.events.list sound.pending h.last h.found h.events h.pending h.room (put_up kept.Ok _ put) (kept_up kept.Ok _ keeps)
    settle_sound came v (undone change ve e up is keeps answer faulty put h) =
        taken_sound (Apply job.receipt (Some job.command.received)) old.events.list sound.pending h.last h.found h.events h.pending h.room (put_up answer _ put) (kept_up kept.Ok _ keeps)
    settle_sound came v (store_down change ve e up is keeps queue m) = memory_sound (queue_as queue) (kept_up kept.Down _ keeps) m
    settle_sound came v (failed change n ve e up is f put n_is few h) = failed_sound (put_up kept.Ok _ put) (kept_up kept.Failed _ f.keeps) _ _ h
    settle_sound came v (given_up change ve e up is f put n_is h) =
        taken_sound (Discard job.receipt cause.Failures) (Fail job.receipt (p.store_faults old.store) (p.store_faults new.store) ∷ old.events.list) (with_event (Fail job.receipt (p.store_faults old.store) (p.store_faults new.store)))
        h.last h.found h.events h.pending h.room (put_up kept.Ok _ put) (kept_up kept.Failed _ f.keeps)
    settle_sound came v (fail_unput change ve e up is f put h) = freed_sound is (put_up kept.Failed _ put) (kept_up kept.Failed _ f.keeps) h
    settle_sound came v (fail_open change ve e up is f put m) = memory_sound (put_up kept.Down _ put) (kept_up kept.Failed _ f.keeps) m

  -- ---- what was submitted

  twice_on : (e f : Event) → new.found ≡ old.found → new.events.list ≡ e ∷ f ∷ old.events.list → (r : ℕ) (c : Command) → IsSubmitted r c old → IsSubmitted r c new
  twice_on e f found events r c s =
      subst (λ (x : Found). IsSubmittedIn r c x.queue.value new.events.list) (sym found) (subst (IsSubmittedIn r c old.found.queue.value) (sym events)
      (submitted_stays r c e old.found.queue.value (f ∷ old.events.list) (submitted_stays r c f old.found.queue.value old.events.list s)))

  pub settle_submitted : (came : Settled) (v : Verdict) → Outcome p job old new came v → (r : ℕ) (c : Command) → IsSubmitted r c old → IsSubmitted r c new
  settle_submitted came v (down e is same) r c = subst (λ (x : CoreState D K). IsSubmitted r c x) (sym same)
  settle_submitted came v (unclaimed e up is same) r c = subst (λ (x : CoreState D K). IsSubmitted r c x) (sym same)
  settle_submitted came v (no_memory e up is m) r c = submitted_carried old new m.memory.others.found m.memory.events r c
  settle_submitted came v (freed e up is s h) r c = submitted_on old new (Release job.receipt) h.freed.others.found h.freed.events r c
  settle_submitted came v (refused refusal ve e up is put store h) r c = submitted_on old new (Discard job.receipt (cause.Refused refusal)) h.found h.events r c
  settle_submitted came v (refuse_unput refusal ve e up is put store h) r c = submitted_on old new (Release job.receipt) h.others.found h.events r c
  settle_submitted came v (refuse_open refusal ve e up is put store m) r c = submitted_carried old new m.others.found m.events r c
  settle_submitted came v (applied change ve e up is keeps put h) r c = submitted_on old new (Apply job.receipt (Some job.command.received)) h.found h.events r c
  settle_submitted came v (undone change ve e up is keeps answer faulty put h) r c = submitted_on old new (Apply job.receipt (Some job.command.received)) h.found h.events r c
  settle_submitted came v (store_down change ve e up is keeps queue m) r c = submitted_carried old new m.others.found m.events r c
  settle_submitted came v (failed change n ve e up is f put n_is few h) r c = submitted_on old new (Fail job.receipt (p.store_faults old.store) (p.store_faults new.store)) h.others.found h.events r c
  settle_submitted came v (given_up change ve e up is f put n_is h) r c = twice_on (Discard job.receipt cause.Failures) (Fail job.receipt (p.store_faults old.store) (p.store_faults new.store)) h.found h.events r c
  settle_submitted came v (fail_unput change ve e up is f put h) r c = submitted_on old new (Release job.receipt) h.others.found h.events r c
  settle_submitted came v (fail_open change ve e up is f put m) r c = submitted_carried old new m.others.found m.events r c

  -- ---- whether it is down

  pub at_case : (P : Settled → Verdict → Type 0) {came x : Settled} {v w : Verdict} → came ≡ x → v ≡ w → P x w → P came v
  at_case P {came} {x} {v} {w} e f h = subst (λ (a : Settled). P a v) (sym e) (subst (λ (b : Verdict). P x b) (sym f) h)

  pub all_up : new.undone ≡ false → queue_down new.queue ≡ false → p.store_down new.store ≡ false → is_down p new ≡ false
  all_up a b c = parts_up new.undone (queue_down new.queue) (p.store_down new.store) (record { done = a; queue = b; store = c })

  pub queue_went : queue_down new.queue ≡ true → is_down p new ≡ true
  queue_went t = rw t (either new.undone)
    where
      either : (a : Bool) → (a || true) ≡ true
      either true = refl
      either false = refl

  module _ (up : is_down p old ≡ false) where
    was_up : IsUp old.undone (queue_down old.queue) (p.store_down old.store)
    was_up = core_up p old up

    pub done_still : new.undone ≡ old.undone → new.undone ≡ false
    done_still same = same ∙ was_up.done

    queue_still : new.queue ≡ old.queue → queue_down new.queue ≡ false
    queue_still same = ap queue_down same ∙ was_up.queue

    pub store_still : new.store ≡ old.store → p.store_down new.store ≡ false
    store_still same = ap p.store_down same ∙ was_up.store

  -- ---- clauses

  abbrev AddsOf : Settled → Verdict → Type 0
  AddsOf came v = new.events.list ≡ settled_events came job v (p.store_faults old.store) (p.store_faults new.store) new.undone (is_down p new) ++ old.events.list

  -- of a fault of the queue, by whether it is applied and whether it is down
  fault_adds : (v : Verdict) (a b : Bool) → new.undone ≡ a → is_down p new ≡ b → new.events.list ≡ settled_events settled.QueueFault job v (p.store_faults old.store) (p.store_faults new.store) a b ++ old.events.list → AddsOf settled.QueueFault v
  fault_adds v a b e f h = subst (λ x. new.events.list ≡ settled_events settled.QueueFault job v (p.store_faults old.store) (p.store_faults new.store) x (is_down p new) ++ old.events.list) (sym e)
      (subst (λ y. new.events.list ≡ settled_events settled.QueueFault job v (p.store_faults old.store) (p.store_faults new.store) a y ++ old.events.list) (sym f) h)

  pub settle_adds : (came : Settled) (v : Verdict) → Outcome p job old new came v → AddsOf came v
  settle_adds came v (down e is same) = at_case AddsOf e refl (ap (λ (x : CoreState D K). x.events.list) same)
  settle_adds came v (unclaimed e up is same) = at_case AddsOf e refl (ap (λ (x : CoreState D K). x.events.list) same)
  settle_adds came v (no_memory e up is m) = at_case AddsOf e refl m.memory.events
  settle_adds came v (freed e up is s h) = at_case AddsOf e refl h.freed.events
  settle_adds came v (refused refusal ve e up is put store h) = at_case AddsOf e ve h.events
  settle_adds came v (refuse_unput refusal ve e up is put store h) =
      at_case AddsOf e ve (fault_adds (verdict.Refused refusal) false false (done_still up h.others.undone) (all_up (done_still up h.others.undone) (queue_stays kept.Failed _ (λ i. cc) put) (store_still up store)) h.events)
  settle_adds came v (refuse_open refusal ve e up is put store m) =
      at_case AddsOf e ve (fault_adds (verdict.Refused refusal) false true (done_still up m.others.undone) (queue_went (put.down.1 refl)) m.events)
  settle_adds came v (applied change ve e up is keeps put h) = at_case AddsOf e ve h.events
  settle_adds came v (undone change ve e up is keeps answer faulty put h) = at_case AddsOf e ve (fault_adds (verdict.Change change) true (is_down p new) h.undone_is refl h.events)
  settle_adds came v (store_down change ve e up is keeps queue m) = at_case AddsOf e ve m.events
  settle_adds came v (failed change n ve e up is f put n_is few h) = at_case AddsOf e ve h.events
  settle_adds came v (given_up change ve e up is f put n_is h) = at_case AddsOf e ve h.events
  settle_adds came v (fail_unput change ve e up is f put h) =
      at_case AddsOf e ve (fault_adds (verdict.Change change) false false (done_still up h.others.undone) (all_up (done_still up h.others.undone) (queue_stays kept.Failed _ (λ i. cc) put) (store_stays kept.Failed _ (λ i. cc) f.keeps)) h.events)
  settle_adds came v (fail_open change ve e up is f put m) =
      at_case AddsOf e ve (fault_adds (verdict.Change change) false true (done_still up m.others.undone) (queue_went (put.down.1 refl)) m.events)

  same_opening : new ≡ old → OpeningStays old new
  same_opening same = record {
    found = ap (λ (x : CoreState D K). x.found) same;
    opened_a = ap (λ (x : CoreState D K). x.opened_a) same;
    opened_b = ap (λ (x : CoreState D K). x.opened_b) same;
    last = ap (λ (x : CoreState D K). x.last) same;
    lifetimes = ap (λ (x : CoreState D K). x.tables.ttls) same;
  }

  pub settle_opening : (came : Settled) (v : Verdict) → Outcome p job old new came v → OpeningStays old new
  settle_opening came v (down e is same) = same_opening same
  settle_opening came v (unclaimed e up is same) = same_opening same
  settle_opening came v (no_memory e up is m) = memory_opening m.memory
    where
      memory_opening : MemoryStays old new → OpeningStays old new
      memory_opening m = record { found = m.others.found; opened_a = m.others.opened_a; opened_b = m.others.opened_b; last = m.last; lifetimes = ap (λ (t : Table). t.ttls) m.others.tables }
  settle_opening came v (freed e up is s h) = record { found = h.freed.others.found; opened_a = h.freed.others.opened_a; opened_b = h.freed.others.opened_b; last = h.freed.last; lifetimes = ap (λ (t : Table). t.ttls) h.freed.others.tables }
  settle_opening came v (refused refusal ve e up is put store h) = record { found = h.found; opened_a = h.opened_a; opened_b = h.opened_b; last = h.last; lifetimes = ap (λ (t : Table). t.ttls) h.tables }
  settle_opening came v (refuse_unput refusal ve e up is put store h) = record { found = h.others.found; opened_a = h.others.opened_a; opened_b = h.others.opened_b; last = h.last; lifetimes = ap (λ (t : Table). t.ttls) h.others.tables }
  settle_opening came v (refuse_open refusal ve e up is put store m) = record { found = m.others.found; opened_a = m.others.opened_a; opened_b = m.others.opened_b; last = m.last; lifetimes = ap (λ (t : Table). t.ttls) m.others.tables }
  settle_opening came v (applied change ve e up is keeps put h) = record { found = h.found; opened_a = h.opened_a; opened_b = h.opened_b; last = h.last; lifetimes = ap (λ (t : Table). t.ttls) h.tables }
  settle_opening came v (undone change ve e up is keeps answer faulty put h) = record { found = h.found; opened_a = h.opened_a; opened_b = h.opened_b; last = h.last; lifetimes = ap (λ (t : Table). t.ttls) h.tables }
  settle_opening came v (store_down change ve e up is keeps queue m) = record { found = m.others.found; opened_a = m.others.opened_a; opened_b = m.others.opened_b; last = m.last; lifetimes = ap (λ (t : Table). t.ttls) m.others.tables }
  settle_opening came v (failed change n ve e up is f put n_is few h) = record { found = h.others.found; opened_a = h.others.opened_a; opened_b = h.others.opened_b; last = h.last; lifetimes = ap (λ (t : Table). t.ttls) h.others.tables }
  settle_opening came v (given_up change ve e up is f put n_is h) = record { found = h.found; opened_a = h.opened_a; opened_b = h.opened_b; last = h.last; lifetimes = ap (λ (t : Table). t.ttls) h.tables }
  settle_opening came v (fail_unput change ve e up is f put h) = record { found = h.others.found; opened_a = h.others.opened_a; opened_b = h.others.opened_b; last = h.last; lifetimes = ap (λ (t : Table). t.ttls) h.others.tables }
  settle_opening came v (fail_open change ve e up is f put m) = record { found = m.others.found; opened_a = m.others.opened_a; opened_b = m.others.opened_b; last = m.last; lifetimes = ap (λ (t : Table). t.ttls) m.others.tables }

  same_keeper : new.store ≡ old.store → keeper_stays p old.store new.store
  same_keeper same = record { same_generation = ap p.store_generation same; same_opening = ap p.store_opened same; bounds = λ since. subst (λ (k : K). p.store_within k since) (sym same) }

  pub settle_keeper : (came : Settled) (v : Verdict) → Outcome p job old new came v → keeper_stays p old.store new.store
  settle_keeper came v (down e is same) = same_keeper (ap (λ (x : CoreState D K). x.store) same)
  settle_keeper came v (unclaimed e up is same) = same_keeper (ap (λ (x : CoreState D K). x.store) same)
  settle_keeper came v (no_memory e up is m) = same_keeper m.store
  settle_keeper came v (freed e up is s h) = same_keeper h.store
  settle_keeper came v (refused refusal ve e up is put store h) = same_keeper store
  settle_keeper came v (refuse_unput refusal ve e up is put store h) = same_keeper store
  settle_keeper came v (refuse_open refusal ve e up is put store m) = same_keeper store
  settle_keeper came v (applied change ve e up is keeps put h) = keeps.keeper
  settle_keeper came v (undone change ve e up is keeps answer faulty put h) = keeps.keeper
  settle_keeper came v (store_down change ve e up is keeps queue m) = keeps.keeper
  settle_keeper came v (failed change n ve e up is f put n_is few h) = f.keeps.keeper
  settle_keeper came v (given_up change ve e up is f put n_is h) = f.keeps.keeper
  settle_keeper came v (fail_unput change ve e up is f put h) = f.keeps.keeper
  settle_keeper came v (fail_open change ve e up is f put m) = f.keeps.keeper

  same_later : new.store ≡ old.store → p.store_faults old.store ≤ p.store_faults new.store
  same_later same = (let counts = ap p.store_faults same in omega (arith, counts))

  pub settle_later : (came : Settled) (v : Verdict) → Outcome p job old new came v → p.store_faults old.store ≤ p.store_faults new.store
  settle_later came v (down e is same) = same_later (ap (λ (x : CoreState D K). x.store) same)
  settle_later came v (unclaimed e up is same) = same_later (ap (λ (x : CoreState D K). x.store) same)
  settle_later came v (no_memory e up is m) = same_later m.store
  settle_later came v (freed e up is s h) = same_later h.store
  settle_later came v (refused refusal ve e up is put store h) = same_later store
  settle_later came v (refuse_unput refusal ve e up is put store h) = same_later store
  settle_later came v (refuse_open refusal ve e up is put store m) = same_later store
  settle_later came v (applied change ve e up is keeps put h) = keeps.cause.later
  settle_later came v (undone change ve e up is keeps answer faulty put h) = keeps.cause.later
  settle_later came v (store_down change ve e up is keeps queue m) = keeps.cause.later
  settle_later came v (failed change n ve e up is f put n_is few h) = f.keeps.cause.later
  settle_later came v (given_up change ve e up is f put n_is h) = f.keeps.cause.later
  settle_later came v (fail_unput change ve e up is f put h) = f.keeps.cause.later
  settle_later came v (fail_open change ve e up is f put m) = f.keeps.cause.later

  abbrev Down_is : Settled → Verdict → Type 0
  Down_is came v = (came ≡ settled.Down) ↔ (is_down p old ≡ true)

  no_down : (came x : Settled) → came ≡ x → (x ≡ settled.Down → ⊥) → is_down p old ≡ false → (came ≡ settled.Down) ↔ (is_down p old ≡ true)
  no_down came x e other up = ((λ i. absurd (other (sym e ∙ i))), (λ t. never (is_down p old) t up))

  pub settle_down : (came : Settled) (v : Verdict) → Outcome p job old new came v → (came ≡ settled.Down) ↔ (is_down p old ≡ true)
  settle_down came v (down e is same) = ((λ i. is), (λ t. e))
  settle_down came v (unclaimed e up is same) = no_down came settled.NotClaimed e (λ i. cc) up
  settle_down came v (no_memory e up is m) = no_down came (settled.Memory job v) e (λ i. cc) up
  settle_down came v (freed e up is s h) = no_down came settled.Spent e (λ i. cc) up
  settle_down came v (refused refusal ve e up is put store h) = no_down came settled.Discarded e (λ i. cc) up
  settle_down came v (refuse_unput refusal ve e up is put store h) = no_down came settled.QueueFault e (λ i. cc) up
  settle_down came v (refuse_open refusal ve e up is put store m) = no_down came settled.QueueFault e (λ i. cc) up
  settle_down came v (applied change ve e up is keeps put h) = no_down came settled.Applied e (λ i. cc) up
  settle_down came v (undone change ve e up is keeps answer faulty put h) = no_down came settled.QueueFault e (λ i. cc) up
  settle_down came v (store_down change ve e up is keeps queue m) = no_down came settled.StoreDown e (λ i. cc) up
  settle_down came v (failed change n ve e up is f put n_is few h) = no_down came (settled.Failed n) e (λ i. cc) up
  settle_down came v (given_up change ve e up is f put n_is h) = no_down came settled.Discarded e (λ i. cc) up
  settle_down came v (fail_unput change ve e up is f put h) = no_down came settled.QueueFault e (λ i. cc) up
  settle_down came v (fail_open change ve e up is f put m) = no_down came settled.QueueFault e (λ i. cc) up

  -- what is up and claimed is settled
  abbrev Unclaimed_is : Settled → Type 0
  Unclaimed_is came = (came ≡ settled.NotClaimed) ↔ ((is_down p old ≡ false) × (is_claimed job.receipt old.pending ≡ false))

  worked_on : (came x : Settled) → came ≡ x → (x ≡ settled.NotClaimed → ⊥) → is_claimed job.receipt old.pending ≡ true → Unclaimed_is came
  worked_on came x e other is = ((λ i. absurd (other (sym e ∙ i))), (λ t. never (is_claimed job.receipt old.pending) is t.1))

  pub settle_unclaimed : (came : Settled) (v : Verdict) → Outcome p job old new came v → Unclaimed_is came
  settle_unclaimed came v (down e is same) = ((λ i. absurd (let apart : settled.Down ≡ settled.NotClaimed = sym e ∙ i in cc)), (λ t. never (is_down p old) is t.0))
  settle_unclaimed came v (unclaimed e up is same) = ((λ i. (up, is)), (λ t. e))
  settle_unclaimed came v (no_memory e up is m) = worked_on came (settled.Memory job v) e (λ i. cc) is
  settle_unclaimed came v (freed e up is s h) = worked_on came settled.Spent e (λ i. cc) is
  settle_unclaimed came v (refused refusal ve e up is put store h) = worked_on came settled.Discarded e (λ i. cc) is
  settle_unclaimed came v (refuse_unput refusal ve e up is put store h) = worked_on came settled.QueueFault e (λ i. cc) is
  settle_unclaimed came v (refuse_open refusal ve e up is put store m) = worked_on came settled.QueueFault e (λ i. cc) is
  settle_unclaimed came v (applied change ve e up is keeps put h) = worked_on came settled.Applied e (λ i. cc) is
  settle_unclaimed came v (undone change ve e up is keeps answer faulty put h) = worked_on came settled.QueueFault e (λ i. cc) is
  settle_unclaimed came v (store_down change ve e up is keeps queue m) = worked_on came settled.StoreDown e (λ i. cc) is
  settle_unclaimed came v (failed change n ve e up is f put n_is few h) = worked_on came (settled.Failed n) e (λ i. cc) is
  settle_unclaimed came v (given_up change ve e up is f put n_is h) = worked_on came settled.Discarded e (λ i. cc) is
  settle_unclaimed came v (fail_unput change ve e up is f put h) = worked_on came settled.QueueFault e (λ i. cc) is
  settle_unclaimed came v (fail_open change ve e up is f put m) = worked_on came settled.QueueFault e (λ i. cc) is

  -- what is left as it was
  abbrev Left : Settled → Verdict → Type 0
  Left came v = SettleLeaves p.store_size came job v old new

  pub settle_left : (came : Settled) (v : Verdict) → Outcome p job old new came v → Left came v
  settle_left came v (down e is same) = at_case Left e refl same
  settle_left came v (unclaimed e up is same) = at_case Left e refl same
  settle_left came v (no_memory e up is m) = at_case Left e refl (refl, refl, m)
  settle_left came v (freed e up is s h) = at_case Left e refl (s, h.queue, h.store)
  settle_left came v (refused refusal ve e up is put store h) = at_case Left e refl tt
  settle_left came v (refuse_unput refusal ve e up is put store h) = at_case Left e refl tt
  settle_left came v (refuse_open refusal ve e up is put store m) = at_case Left e refl tt
  settle_left came v (applied change ve e up is keeps put h) = at_case Left e refl tt
  settle_left came v (undone change ve e up is keeps answer faulty put h) = at_case Left e refl tt
  settle_left came v (store_down change ve e up is keeps queue m) = at_case Left e refl queue
  settle_left came v (failed change n ve e up is f put n_is few h) = at_case Left e refl tt
  settle_left came v (given_up change ve e up is f put n_is h) = at_case Left e refl tt
  settle_left came v (fail_unput change ve e up is f put h) = at_case Left e refl tt
  settle_left came v (fail_open change ve e up is f put m) = at_case Left e refl tt

  abbrev Waits : Settled → Type 0
  Waits came = LeavesPending came new.undone → new.pending ≢ []

  waits_at : {came x : Settled} → came ≡ x → Waits x → Waits came
  waits_at {came} {x} e h = subst Waits (sym e) h

  freed_waits : is_claimed job.receipt old.pending ≡ true → HasFreed job.receipt old new → new.pending ≢ []
  freed_waits is h none = changed_some job.receipt (marked false) old.pending is (sym h.pending ∙ none)

  same_waits : is_claimed job.receipt old.pending ≡ true → MemoryStays old new → new.pending ≢ []
  same_waits is m none = claimed_some job.receipt old.pending is (sym m.pending ∙ none)

  pub settle_waits : (came : Settled) (v : Verdict) → Outcome p job old new came v → Waits came
  settle_waits came v (down e is same) = waits_at e (λ leaves. absurd leaves)
  settle_waits came v (unclaimed e up is same) = waits_at e (λ leaves. absurd leaves)
  settle_waits came v (no_memory e up is m) = waits_at e (λ leaves. same_waits is m.memory)
  settle_waits came v (freed e up is s h) = waits_at e (λ leaves. freed_waits is h.freed)
  settle_waits came v (refused refusal ve e up is put store h) = waits_at e (λ leaves. absurd leaves)
  settle_waits came v (refuse_unput refusal ve e up is put store h) = waits_at e (λ leaves. freed_waits is h)
  settle_waits came v (refuse_open refusal ve e up is put store m) = waits_at e (λ leaves. same_waits is m)
  settle_waits came v (applied change ve e up is keeps put h) = waits_at e (λ leaves. absurd leaves)
  settle_waits came v (undone change ve e up is keeps answer faulty put h) =
      waits_at e (λ leaves. absurd (let apart : true ≡ false = sym h.undone_is ∙ leaves in cc))
  settle_waits came v (store_down change ve e up is keeps queue m) = waits_at e (λ leaves. same_waits is m)
  settle_waits came v (failed change n ve e up is f put n_is few h) =
      waits_at e (λ leaves none. changed_some job.receipt steps.failed old.pending is (sym h.pending ∙ none))
  settle_waits came v (given_up change ve e up is f put n_is h) = waits_at e (λ leaves. absurd leaves)
  settle_waits came v (fail_unput change ve e up is f put h) = waits_at e (λ leaves. freed_waits is h)
  settle_waits came v (fail_open change ve e up is f put m) = waits_at e (λ leaves. same_waits is m)

  -- counts of the queue's disks
  abbrev Counts_are : Settled → Verdict → Type 0
  Counts_are came v = QueueCounts p.faults old.queue new.queue (came ≡ settled.QueueFault)

  calm_at : (came x : Settled) → came ≡ x → (x ≡ settled.QueueFault → ⊥) → new.queue ≡ old.queue → QueueCounts p.faults old.queue new.queue (came ≡ settled.QueueFault)
  calm_at came x e other same = calm_counts (came ≡ settled.QueueFault) (λ i. other (sym e ∙ i)) same

  put_at : (came x : Settled) → came ≡ x → (x ≡ settled.QueueFault → ⊥) → (rec : QueueRecord) → Put p job old new kept.Ok rec → QueueCounts p.faults old.queue new.queue (came ≡ settled.QueueFault)
  put_at came x e other rec put = put_counts kept.Ok rec came (λ f. absurd f) (λ i. absurd (other (sym e ∙ i))) put

  pub settle_cause : (came : Settled) (v : Verdict) → Outcome p job old new came v → QueueCounts p.faults old.queue new.queue (came ≡ settled.QueueFault)
  settle_cause came v (down e is same) = calm_at came settled.Down e (λ i. cc) (ap (λ (x : CoreState D K). x.queue) same)
  settle_cause came v (unclaimed e up is same) = calm_at came settled.NotClaimed e (λ i. cc) (ap (λ (x : CoreState D K). x.queue) same)
  settle_cause came v (no_memory e up is m) = calm_at came (settled.Memory job v) e (λ i. cc) m.queue
  settle_cause came v (freed e up is s h) = calm_at came settled.Spent e (λ i. cc) h.queue
  settle_cause came v (refused refusal ve e up is put store h) = put_at came settled.Discarded e (λ i. cc) _ put
  settle_cause came v (refuse_unput refusal ve e up is put store h) = put_counts kept.Failed _ came (λ f. e) (λ i. tt) put
  settle_cause came v (refuse_open refusal ve e up is put store m) = put_counts kept.Down _ came (λ f. e) (λ i. tt) put
  settle_cause came v (applied change ve e up is keeps put h) = put_at came settled.Applied e (λ i. cc) _ put
  settle_cause came v (undone change ve e up is keeps answer faulty put h) = put_counts answer _ came (λ f. e) (λ i. faulty) put
  settle_cause came v (store_down change ve e up is keeps queue m) = calm_at came settled.StoreDown e (λ i. cc) queue
  settle_cause came v (failed change n ve e up is f put n_is few h) = put_at came (settled.Failed n) e (λ i. cc) _ put
  settle_cause came v (given_up change ve e up is f put n_is h) = put_at came settled.Discarded e (λ i. cc) _ put
  settle_cause came v (fail_unput change ve e up is f put h) = put_counts kept.Failed _ came (λ f. e) (λ i. tt) put
  settle_cause came v (fail_open change ve e up is f put m) = put_counts kept.Down _ came (λ f. e) (λ i. tt) put

  went_twice : (answer : Kept) (rec : QueueRecord) → Put p job old new answer rec → queue_down new.queue ≡ true → QueueRoseTwice p.faults old.queue new.queue
  went_twice answer rec put t = put.twice (put.down.0 t)

  pub settle_twice : (came : Settled) (v : Verdict) → Outcome p job old new came v → is_down p old ≡ false → queue_down new.queue ≡ true → QueueRoseTwice p.faults old.queue new.queue
  settle_twice came v (down e is same) up t = never (is_down p old) is up
  settle_twice came v (unclaimed e up is same) u t = never (queue_down new.queue) t (queue_still up (ap (λ (x : CoreState D K). x.queue) same))
  settle_twice came v (no_memory e up is m) u t = never (queue_down new.queue) t (queue_still up m.queue)
  settle_twice came v (freed e up is s h) u t = never (queue_down new.queue) t (queue_still up h.queue)
  settle_twice came v (refused refusal ve e up is put store h) u t = went_twice kept.Ok _ put t
  settle_twice came v (refuse_unput refusal ve e up is put store h) u t = went_twice kept.Failed _ put t
  settle_twice came v (refuse_open refusal ve e up is put store m) u t = went_twice kept.Down _ put t
  settle_twice came v (applied change ve e up is keeps put h) u t = went_twice kept.Ok _ put t
  settle_twice came v (undone change ve e up is keeps answer faulty put h) u t = went_twice answer _ put t
  settle_twice came v (store_down change ve e up is keeps queue m) u t = never (queue_down new.queue) t (queue_still up queue)
  settle_twice came v (failed change n ve e up is f put n_is few h) u t = went_twice kept.Ok _ put t
  settle_twice came v (given_up change ve e up is f put n_is h) u t = went_twice kept.Ok _ put t
  settle_twice came v (fail_unput change ve e up is f put h) u t = went_twice kept.Failed _ put t
  settle_twice came v (fail_open change ve e up is f put m) u t = went_twice kept.Down _ put t

  -- the store's count
  abbrev RoseOf : Settled → Verdict → Type 0
  RoseOf came v = StoreRose came v (p.store_faults old.store) (p.store_faults new.store)

  calm_rose : (came : Settled) (v : Verdict) → (Calm came) → new.store ≡ old.store → RoseOf came v
  calm_rose settled.Applied v c same = absurd c
  calm_rose settled.Discarded v c same = absurd c
  calm_rose (settled.Failed n) v c same = absurd c
  calm_rose settled.StoreDown v c same = absurd c
  calm_rose settled.QueueFault v c same = absurd c
  calm_rose settled.NotClaimed (verdict.Change change) c same = ap p.store_faults same
  calm_rose settled.NotClaimed (verdict.Refused refusal) c same = ap p.store_faults same
  calm_rose settled.Spent (verdict.Change change) c same = ap p.store_faults same
  calm_rose settled.Spent (verdict.Refused refusal) c same = ap p.store_faults same
  calm_rose settled.Down (verdict.Change change) c same = ap p.store_faults same
  calm_rose settled.Down (verdict.Refused refusal) c same = ap p.store_faults same
  calm_rose (settled.Memory j w) (verdict.Change change) c same = ap p.store_faults same
  calm_rose (settled.Memory j w) (verdict.Refused refusal) c same = ap p.store_faults same

  pub settle_rose : (came : Settled) (v : Verdict) → Outcome p job old new came v → RoseOf came v
  settle_rose came v (down e is same) = at_case RoseOf e refl (calm_rose settled.Down v tt (ap (λ (x : CoreState D K). x.store) same))
  settle_rose came v (unclaimed e up is same) = at_case RoseOf e refl (calm_rose settled.NotClaimed v tt (ap (λ (x : CoreState D K). x.store) same))
  settle_rose came v (no_memory e up is m) = at_case RoseOf e refl (calm_rose (settled.Memory job v) v tt m.store)
  settle_rose came v (freed e up is s h) = at_case RoseOf e refl (calm_rose settled.Spent v tt h.store)
  settle_rose came v (refused refusal ve e up is put store h) = at_case RoseOf e ve (ap p.store_faults store)
  settle_rose came v (refuse_unput refusal ve e up is put store h) = at_case RoseOf e ve (ap p.store_faults store)
  settle_rose came v (refuse_open refusal ve e up is put store m) = at_case RoseOf e ve (ap p.store_faults store)
  settle_rose came v (applied change ve e up is keeps put h) = at_case RoseOf e ve (keeps.cause.calm (λ none. none))
  settle_rose came v (undone change ve e up is keeps answer faulty put h) = at_case RoseOf e ve keeps.cause.later
  settle_rose came v (store_down change ve e up is keeps queue m) = at_case RoseOf e ve (keeps.twice refl)
  settle_rose came v (failed change n ve e up is f put n_is few h) = at_case RoseOf e ve (f.keeps.cause.cause tt)
  settle_rose came v (given_up change ve e up is f put n_is h) = at_case RoseOf e ve (f.keeps.cause.cause tt)
  settle_rose came v (fail_unput change ve e up is f put h) = at_case RoseOf e ve f.keeps.cause.later
  settle_rose came v (fail_open change ve e up is f put m) = at_case RoseOf e ve f.keeps.cause.later

  -- where the store is written, and where it is down then
  refusals_write : (came : Settled) (v : Verdict) → Outcome p job old new came v → Refuses v → new.store ≡ old.store
  refusals_write came v (down e is same) r = ap (λ (x : CoreState D K). x.store) same
  refusals_write came v (unclaimed e up is same) r = ap (λ (x : CoreState D K). x.store) same
  refusals_write came v (no_memory e up is m) r = m.store
  refusals_write came v (freed e up is s h) r = h.store
  refusals_write came v (refused refusal ve e up is put store h) r = store
  refusals_write came v (refuse_unput refusal ve e up is put store h) r = store
  refusals_write came v (refuse_open refusal ve e up is put store m) r = store
  refusals_write came v (applied change ve e up is keeps put h) r = absurd (subst Refuses ve r)
  refusals_write came v (undone change ve e up is keeps answer faulty put h) r = absurd (subst Refuses ve r)
  refusals_write came v (store_down change ve e up is keeps queue m) r = absurd (subst Refuses ve r)
  refusals_write came v (failed change n ve e up is f put n_is few h) r = absurd (subst Refuses ve r)
  refusals_write came v (given_up change ve e up is f put n_is h) r = absurd (subst Refuses ve r)
  refusals_write came v (fail_unput change ve e up is f put h) r = absurd (subst Refuses ve r)
  refusals_write came v (fail_open change ve e up is f put m) r = absurd (subst Refuses ve r)

  pub settle_refusals : (came : Settled) (v : Verdict) → Outcome p job old new came v → (refusal : Refusal) → v ≡ verdict.Refused refusal → new.store ≡ old.store
  settle_refusals came v o refusal e = refusals_write came v o (subst Refuses (sym e) tt)

  other_down : (came x : Settled) → came ≡ x → (x ≡ settled.StoreDown → ⊥) → p.store_down new.store ≡ false → (p.store_down new.store ≡ true) ↔ (came ≡ settled.StoreDown)
  other_down came x e other is_up = ((λ t. never (p.store_down new.store) t is_up), (λ i. absurd (other (sym e ∙ i))))

  pub settle_store_down : (came : Settled) (v : Verdict) → Outcome p job old new came v → is_down p old ≡ false → (p.store_down new.store ≡ true) ↔ (came ≡ settled.StoreDown)
  settle_store_down came v (down e is same) up = never (is_down p old) is up
  settle_store_down came v (unclaimed e up is same) u = other_down came settled.NotClaimed e (λ i. cc) (store_still up (ap (λ (x : CoreState D K). x.store) same))
  settle_store_down came v (no_memory e up is m) u = other_down came (settled.Memory job v) e (λ i. cc) (store_still up m.store)
  settle_store_down came v (freed e up is s h) u = other_down came settled.Spent e (λ i. cc) (store_still up h.store)
  settle_store_down came v (refused refusal ve e up is put store h) u = other_down came settled.Discarded e (λ i. cc) (store_still up store)
  settle_store_down came v (refuse_unput refusal ve e up is put store h) u = other_down came settled.QueueFault e (λ i. cc) (store_still up store)
  settle_store_down came v (refuse_open refusal ve e up is put store m) u = other_down came settled.QueueFault e (λ i. cc) (store_still up store)
  settle_store_down came v (applied change ve e up is keeps put h) u = other_down came settled.Applied e (λ i. cc) (store_stays kept.Ok _ (λ i. cc) keeps)
  settle_store_down came v (undone change ve e up is keeps answer faulty put h) u = other_down came settled.QueueFault e (λ i. cc) (store_stays kept.Ok _ (λ i. cc) keeps)
  settle_store_down came v (store_down change ve e up is keeps queue m) u = ((λ t. e), (λ i. keeps.down.1 refl))
  settle_store_down came v (failed change n ve e up is f put n_is few h) u = other_down came (settled.Failed n) e (λ i. cc) (store_stays kept.Failed _ (λ i. cc) f.keeps)
  settle_store_down came v (given_up change ve e up is f put n_is h) u = other_down came settled.Discarded e (λ i. cc) (store_stays kept.Failed _ (λ i. cc) f.keeps)
  settle_store_down came v (fail_unput change ve e up is f put h) u = other_down came settled.QueueFault e (λ i. cc) (store_stays kept.Failed _ (λ i. cc) f.keeps)
  settle_store_down came v (fail_open change ve e up is f put m) u = other_down came settled.QueueFault e (λ i. cc) (store_stays kept.Failed _ (λ i. cc) f.keeps)

  pub settle_up : (came : Settled) (v : Verdict) → Outcome p job old new came v → (came ≡ settled.QueueFault → ⊥) → (came ≡ settled.StoreDown → ⊥) → is_down p new ≡ is_down p old
  settle_up came v (down e is same) a b = ap (is_down p) same
  settle_up came v (unclaimed e up is same) a b = ap (is_down p) same
  settle_up came v (no_memory e up is m) a b = down_carried p old new [] m
  settle_up came v (freed e up is s h) a b = all_up (done_still up h.freed.others.undone) (queue_still up h.queue) (store_still up h.store) ∙ sym up
  settle_up came v (refused refusal ve e up is put store h) a b = all_up (done_still up h.undone) (queue_stays kept.Ok _ (λ i. cc) put) (store_still up store) ∙ sym up
  settle_up came v (refuse_unput refusal ve e up is put store h) a b = absurd (a e)
  settle_up came v (refuse_open refusal ve e up is put store m) a b = absurd (a e)
  settle_up came v (applied change ve e up is keeps put h) a b = all_up (done_still up h.undone_is) (queue_stays kept.Ok _ (λ i. cc) put) (store_stays kept.Ok _ (λ i. cc) keeps) ∙ sym up
  settle_up came v (undone change ve e up is keeps answer faulty put h) a b = absurd (a e)
  settle_up came v (store_down change ve e up is keeps queue m) a b = absurd (b e)
  settle_up came v (failed change n ve e up is f put n_is few h) a b = all_up (done_still up h.others.undone) (queue_stays kept.Ok _ (λ i. cc) put) (store_stays kept.Failed _ (λ i. cc) f.keeps) ∙ sym up
  settle_up came v (given_up change ve e up is f put n_is h) a b = all_up (done_still up h.undone) (queue_stays kept.Ok _ (λ i. cc) put) (store_stays kept.Failed _ (λ i. cc) f.keeps) ∙ sym up
  settle_up came v (fail_unput change ve e up is f put h) a b = absurd (a e)
  settle_up came v (fail_open change ve e up is f put m) a b = absurd (a e)
