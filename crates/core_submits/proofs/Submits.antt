-- What a submit does is what its clauses say.
use Rattle.std.proofs.Common.{◌≡◌, ◌≢◌, ◌∙◌, ◌⊎◌, ◌↔◌, inl, inr, ℕ, suc, ◌+◌, ◌-◌, ◌^◌, ◌<◌, ◌≤◌, Bool, true, false, List, [], ◌∷◌, ◌++◌, length, IsTrue, arith, add-one, refl, sym, ap, subst}
use Rattle.core_state.specs.fleet_rows.declared.command.Command.{Command}
use Rattle.core_state.specs.history_spec.Lawful.{HasStamp}
use Rattle.core_state.specs.record_spec.declared.queue.QueueRecord.{QueueRecord}
use Rattle.core_state.specs.record_spec.declared.queue.QueueRecord.TheVariants as queue
use Rattle.core_state.specs.fleet_keeper.declared.kept.Kept.{Kept}
use Rattle.core_state.specs.fleet_keeper.declared.kept.Kept.TheVariants as kept
use Rattle.core_state.specs.fleet_keeper.Kept.{IsFaulty}
use Rattle.core_state.specs.core_spec.declared.entry.Entry.{Entry}
use Rattle.core_state.specs.core_spec.declared.event.Event.{Event}
use Rattle.core_state.specs.core_spec.declared.event.Event.TheVariants.{Submit}
use Rattle.core_state.specs.core_spec.History.{History}
use Rattle.core_state.specs.core_spec.Legal.{IsLegal, IsNext}
use Rattle.core_state.specs.core_spec.Pending.{pending_of}
use Rattle.core_state.specs.core_machine.Steps.{new_entry}
use Rattle.core_state.specs.core_laws.StandingLaws.{IsPlain}
use Rattle.core_state.specs.queue_log.declared.queue.QueueLog.{QueueLog}
use Rattle.core_state.specs.queue_log.Queued.{queued, queue_down, queue_size}
use Rattle.core_state.specs.declared.found.Found.{Found}
use Rattle.core_state.specs.declared.state.CoreState.{CoreState}
use Rattle.core_state.specs.Changes.{OthersStay, MemoryStays, CoreStays}
use Rattle.core_state.specs.Moments.{Within, GoesOn, StandsAmid}
use Rattle.core_state.specs.Puts.{QueueCounts, QueueRoseTwice}
use Rattle.core_state.specs.Seen.{events_of, held_of, claimed_number, IsSubmitted}
use Rattle.core_state.specs.StandsFor.{one, history_of}
use Rattle.core_state.proofs.Carried.{same_others, same_stays, submitted_carried, submitted_on, holds_with, memory_holds, stands_carried, sound_carried, down_carried}
use Rattle.core_state.proofs.Fits.{put_fits}
use Rattle.core_state.proofs.HeldEvents.{submit_held}
use Rattle.core_state.proofs.PlainHistories.{plain_with}
use Rattle.core_state.proofs.Ports.{Ports}
use Rattle.core_state.specs.core_spec.Stands.{Stands}
use Rattle.core_state.proofs.PutStands.{put_stands, unput_stands, open_stands}
use Rattle.core_state.proofs.SoundLists.{sound_as, sound_more, claimed_most, claimed_more}
use Rattle.core_state.proofs.Standing.{BothTell, both_stand, both_with, no_store_part, CoreStands, IsSoundCore, is_down, core_up, tell, known_store, nothing_within, queue_within}
use Rattle.fleet_rows.specs.declared.submitted.Submitted.{Submitted}
use Rattle.fleet_rows.specs.declared.submitted.Submitted.TheVariants as submitted
use Rattle.core_submits.specs.Submits.{IsFull, IsSpent, IsSubmitOf, SubmitAdds, SubmitWrites, SubmitWaits, IsRefusal, refused_as, TookIn, WasRefused, Takes, IsOpen, SubmitDoes}
use Rattle.fleet_rows.specs.json_tree.Limits.{most_payload}
use Rattle.fleet_rows.specs.Limits.{most_pending}

-- ---- parts

module _ {D K : Type 0} (p : Ports D K) (c : Command) (old new : CoreState D K) where
  abbrev pub Does : Submitted → Type 0
  Does result = SubmitDoes p.tells p.seen p.may_leave p.moment p.left_since p.faults p.store_down result c old new

  abbrev pub Took : Type 0
  Took = TookIn p.tells p.seen p.may_leave p.moment p.left_since p.faults c old new

  abbrev pub Refused : Kept → Type 0
  Refused answer = WasRefused p.tells p.seen p.may_leave p.moment p.left_since p.faults answer c old new

  -- where the record wasn't put
  refused_stays : (answer : Kept) → Refused answer → (answer ≡ kept.Memory) ⊎ (answer ≡ kept.Spent) → CoreStays old new
  refused_stays answer w is = record { memory = w.memory; queue = w.put.untouched is; store = w.store }

  pub refused_takes : (answer : Kept) → (answer ≡ kept.Ok → ⊥) → Refused answer → Takes p.tells p.seen p.may_leave p.moment p.left_since p.faults (refused_as answer) c old new
  refused_takes kept.Ok no_ok w = absurd (no_ok refl)
  refused_takes kept.Failed no_ok w = (kept.Failed, tt, w)
  refused_takes kept.Down no_ok w = (kept.Down, tt, w)
  refused_takes kept.Memory no_ok w = refused_stays kept.Memory w (inl refl)
  refused_takes kept.Spent no_ok w = (w.put.spent.0 refl, refused_stays kept.Spent w (inr refl))

  pub takes_do : (result : Submitted) → IsOpen p.store_down c old → (old.last ≢ 2 ^ 64 - 1) → Takes p.tells p.seen p.may_leave p.moment p.left_since p.faults result c old new → Does result
  takes_do (submitted.Receipt r) is_open last t = (is_open, last, t.0, t.1)
  takes_do submitted.Full is_open last t = absurd t
  takes_do submitted.QueueFault is_open last t = (is_open, last, t)
  takes_do submitted.Spent is_open last t = (is_open, inr t.0, t.1)
  takes_do submitted.Down is_open last t = absurd t
  takes_do submitted.Memory is_open last t = (is_open, t)

  -- ---- plain clauses

  abbrev events_in : CoreState D K → History
  events_in core = core.events.list

  pub submit_adds : (result : Submitted) → Does result → SubmitAdds result c old.last (events_of old) (events_of new)
  submit_adds (submitted.Receipt r) d = (d.2, d.3.events ∙ (λ i. Submit (sym d.2 i) c ∷ old.events.list))
  submit_adds submitted.Full d = ap events_in d.2
  submit_adds submitted.QueueFault d = d.2.2.memory.events
  submit_adds submitted.Spent d = d.2.memory.events
  submit_adds submitted.Down d = ap events_in d.1
  submit_adds submitted.Memory d = d.1.memory.events

  abbrev waiting_in : CoreState D K → List Entry
  waiting_in core = core.pending

  pub submit_waits : (result : Submitted) → Does result → SubmitWaits result c old.pending new.pending
  submit_waits (submitted.Receipt r) d = d.3.pending ∙ (λ i. old.pending ++ new_entry (sym d.2 i) c ∷ [])
  submit_waits submitted.Full d = ap waiting_in d.2
  submit_waits submitted.QueueFault d = d.2.2.memory.pending
  submit_waits submitted.Spent d = d.2.memory.pending
  submit_waits submitted.Down d = ap waiting_in d.1
  submit_waits submitted.Memory d = d.1.memory.pending

  pub submit_others : (result : Submitted) → Does result → OthersStay old new
  submit_others (submitted.Receipt r) d = d.3.others
  submit_others submitted.Full d = same_others old new d.2
  submit_others submitted.QueueFault d = d.2.2.memory.others
  submit_others submitted.Spent d = d.2.memory.others
  submit_others submitted.Down d = same_others old new d.1
  submit_others submitted.Memory d = d.1.memory.others

  pub submit_store : (result : Submitted) → Does result → new.store ≡ old.store
  submit_store (submitted.Receipt r) d = d.3.store
  submit_store submitted.Full d = ap (λ (x : CoreState D K). x.store) d.2
  submit_store submitted.QueueFault d = d.2.2.store
  submit_store submitted.Spent d = d.2.store
  submit_store submitted.Down d = ap (λ (x : CoreState D K). x.store) d.1
  submit_store submitted.Memory d = d.1.store

  pub submit_unchanged : (result : Submitted) → Does result → result ≡ submitted.Down → new ≡ old
  submit_unchanged (submitted.Receipt r) d e = absurd cc
  submit_unchanged submitted.Full d e = absurd cc
  submit_unchanged submitted.QueueFault d e = absurd cc
  submit_unchanged submitted.Spent d e = absurd cc
  submit_unchanged submitted.Down d e = d.1
  submit_unchanged submitted.Memory d e = absurd cc

  pub submit_stays : (result : Submitted) → Does result → IsRefusal result → CoreStays old new
  submit_stays (submitted.Receipt r) d none = absurd none
  submit_stays submitted.Full d none = same_stays old new d.2
  submit_stays submitted.QueueFault d none = absurd none
  submit_stays submitted.Spent d none = d.2
  submit_stays submitted.Down d none = same_stays old new d.1
  submit_stays submitted.Memory d none = d.1

  pub submit_fault : (result : Submitted) → Does result → result ≡ submitted.QueueFault → MemoryStays old new
  submit_fault (submitted.Receipt r) d e = absurd cc
  submit_fault submitted.Full d e = absurd cc
  submit_fault submitted.QueueFault d e = d.2.2.memory
  submit_fault submitted.Spent d e = absurd cc
  submit_fault submitted.Down d e = absurd cc
  submit_fault submitted.Memory d e = absurd cc

  not_down : {P : Type 0} → is_down p old ≡ false → is_down p old ≡ true → P
  not_down up down = absurd (let apart : false ≡ true = sym up ∙ down in cc)

  pub submit_down : (result : Submitted) → Does result → (result ≡ submitted.Down) ↔ (is_down p old ≡ true)
  submit_down (submitted.Receipt r) d = (λ e. absurd cc, λ down. not_down d.0.up down)
  submit_down submitted.Full d = (λ e. absurd cc, λ down. not_down d.0 down)
  submit_down submitted.QueueFault d = (λ e. absurd cc, λ down. not_down d.0.up down)
  submit_down submitted.Spent d = (λ e. absurd cc, λ down. not_down d.0.up down)
  submit_down submitted.Down d = (λ e. d.0, λ down. refl)
  submit_down submitted.Memory d = (λ e. absurd cc, λ down. not_down d.0.up down)

  pub submit_full : (result : Submitted) → Does result → (result ≡ submitted.Full) ↔ ((is_down p old ≡ false) × IsFull (length c.payload) old.pending)
  submit_full (submitted.Receipt r) d = (λ e. absurd cc, λ full. absurd (d.0.room full.1))
  submit_full submitted.Full d = (λ e. (d.0, d.1), λ full. refl)
  submit_full submitted.QueueFault d = (λ e. absurd cc, λ full. absurd (d.0.room full.1))
  submit_full submitted.Spent d = (λ e. absurd cc, λ full. absurd (d.0.room full.1))
  submit_full submitted.Down d = (λ e. absurd cc, λ full. not_down full.0 d.0)
  submit_full submitted.Memory d = (λ e. absurd cc, λ full. absurd (d.0.room full.1))

  pub submit_spent : (result : Submitted) → Does result → result ≡ submitted.Spent → IsSpent c old
  submit_spent (submitted.Receipt r) d e = absurd cc
  submit_spent submitted.Full d e = absurd cc
  submit_spent submitted.QueueFault d e = absurd cc
  submit_spent submitted.Spent d e = d.1
  submit_spent submitted.Down d e = absurd cc
  submit_spent submitted.Memory d e = absurd cc

  put_isnt_spent : {P : Type 0} (answer : Kept) → IsFaulty answer → answer ≡ kept.Spent → P
  put_isnt_spent answer faulty e = absurd (subst IsFaulty e faulty)

  pub submit_unspent : (result : Submitted) → Does result → is_down p old ≡ false → (IsFull (length c.payload) old.pending → ⊥) → IsSpent c old → (result ≡ submitted.Spent) ⊎ (result ≡ submitted.Memory)
  submit_unspent (submitted.Receipt r) d up room (inl last) = absurd (d.1 last)
  submit_unspent (submitted.Receipt r) d up room (inr past) = absurd (let e = d.3.put.spent.1 past in cc)
  submit_unspent submitted.Full d up room spent = absurd (room d.1)
  submit_unspent submitted.QueueFault d up room (inl last) = absurd (d.1 last)
  submit_unspent submitted.QueueFault d up room (inr past) = put_isnt_spent d.2.0 d.2.1 (d.2.2.put.spent.1 past)
  submit_unspent submitted.Spent d up room spent = inl refl
  submit_unspent submitted.Down d up room spent = not_down up d.0
  submit_unspent submitted.Memory d up room spent = inr refl

  -- the counts of the queue's disks
  calm_counts : {Fault : Type 0} → (Fault → ⊥) → new.queue ≡ old.queue → QueueCounts p.faults old.queue new.queue Fault
  calm_counts {Fault} none same = subst (λ (q : QueueLog D). QueueCounts p.faults old.queue q Fault) (sym same) (record { later_a = omega arith; later_b = omega arith; cause = λ fault. absurd (none fault); calm = λ f. (refl, refl) })

  counts_as : {Fault Other : Type 0} → (Other → Fault) → (Fault → Other) → QueueCounts p.faults old.queue new.queue Fault → QueueCounts p.faults old.queue new.queue Other
  counts_as to back counts = record { later_a = counts.later_a; later_b = counts.later_b; cause = λ other. counts.cause (to other); calm = λ none. counts.calm (λ fault. none (back fault)) }

  pub submit_cause : (result : Submitted) → Does result → QueueCounts p.faults old.queue new.queue (result ≡ submitted.QueueFault)
  submit_cause (submitted.Receipt r) d = counts_as (λ e. absurd cc) (λ none. absurd none) d.3.put.cause
  submit_cause submitted.Full d = calm_counts (λ e. cc) (ap (λ (x : CoreState D K). x.queue) d.2)
  submit_cause submitted.QueueFault d = counts_as (λ e. d.2.1) (λ f. refl) d.2.2.put.cause
  submit_cause submitted.Spent d = calm_counts (λ e. cc) d.2.queue
  submit_cause submitted.Down d = calm_counts (λ e. cc) (ap (λ (x : CoreState D K). x.queue) d.1)
  submit_cause submitted.Memory d = calm_counts (λ e. cc) d.1.queue

  -- a queue that isn't down after a put
  pub put_is_up : (answer : Kept) → ((queue_down new.queue ≡ true) ↔ (answer ≡ kept.Down)) → (answer ≡ kept.Down → ⊥) → queue_down new.queue ≡ false
  put_is_up answer down up = by (queue_down new.queue) refl
    where
      by : (b : Bool) → queue_down new.queue ≡ b → b ≡ false
      by true e = absurd (up (down.0 e))
      by false e = refl

  up_still : is_down p old ≡ false → OthersStay old new → queue_down new.queue ≡ false → new.store ≡ old.store → is_down p new ≡ false
  up_still up others queue store = rw (others.undone, queue, store) (let parts = core_up p old up in rw (parts.done, parts.store) refl)

  pub submit_up : (result : Submitted) → Does result → (result ≡ submitted.QueueFault → ⊥) → is_down p new ≡ is_down p old
  submit_up (submitted.Receipt r) d none = up_still d.0.up d.3.others (put_is_up kept.Ok d.3.put.down (λ e. cc)) d.3.store ∙ sym d.0.up
  submit_up submitted.Full d none = ap (is_down p) d.2
  submit_up submitted.QueueFault d none = absurd (none refl)
  submit_up submitted.Spent d none = down_carried p old new [] d.2
  submit_up submitted.Down d none = ap (is_down p) d.1
  submit_up submitted.Memory d none = down_carried p old new [] d.1

  -- what the log has then
  module _ where
    abbrev Writes : Submitted → Type 0
    Writes result = SubmitWrites p.tells p.seen result c old new

    same_log : new ≡ old → (new.last ≡ old.last) × (queue_size new.queue ≡ queue_size old.queue) × (queue_down new.queue ≡ false → IsTrue p.tells → queued p.seen new.queue ≡ queued p.seen old.queue)
    same_log same = (ap (λ (x : CoreState D K). x.last) same, ap (λ (x : CoreState D K). queue_size x.queue) same, (λ up told. ap (λ (x : CoreState D K). queued p.seen x.queue) same))

    stayed_log : CoreStays old new → (new.last ≡ old.last) × (queue_size new.queue ≡ queue_size old.queue) × (queue_down new.queue ≡ false → IsTrue p.tells → queued p.seen new.queue ≡ queued p.seen old.queue)
    stayed_log m = (m.memory.last, ap queue_size m.queue, (λ up told. ap (queued p.seen) m.queue))

    faulty_log : (answer : Kept) → IsFaulty answer → WasRefused p.tells p.seen p.may_leave p.moment p.left_since p.faults answer c old new → Writes submitted.QueueFault
    faulty_log kept.Ok faulty w = absurd faulty
    faulty_log kept.Failed faulty w = (w.memory.last, w.put.same_size (λ e. cc), (λ up told. w.put.queued_old tt told))
    faulty_log kept.Down faulty w = (w.memory.last, w.put.same_size (λ e. cc), (λ up told. absurd (let down = w.put.down.1 refl in let apart : false ≡ true = sym up ∙ down in cc)))
    faulty_log kept.Memory faulty w = absurd faulty
    faulty_log kept.Spent faulty w = absurd faulty

    pub submit_writes : (result : Submitted) → Does result → Writes result
    submit_writes (submitted.Receipt r) d =
        subst (λ n. Writes (submitted.Receipt n)) (sym d.2) (d.3.last, d.3.put.grew refl, d.3.put.queued_one refl, put_fits p old.queue new.queue (queue.Submit (old.last + 1) c) d.3.put)
    submit_writes submitted.Full d = same_log d.2
    submit_writes submitted.QueueFault d = faulty_log d.2.0 d.2.1 d.2.2
    submit_writes submitted.Spent d = stayed_log d.2
    submit_writes submitted.Down d = same_log d.1
    submit_writes submitted.Memory d = stayed_log d.1

  down_twice : {P : Type 0} → new.queue ≡ old.queue → is_down p old ≡ false → queue_down new.queue ≡ true → P
  down_twice same up down = absurd (let still = (core_up p old up).queue in let was = ap queue_down (sym same) ∙ down in let apart : false ≡ true = sym still ∙ was in cc)

  pub submit_twice : (result : Submitted) → Does result → is_down p old ≡ false → queue_down new.queue ≡ true → QueueRoseTwice p.faults old.queue new.queue
  submit_twice (submitted.Receipt r) d up down = absurd (let e = d.3.put.down.0 down in cc)
  submit_twice submitted.Full d up down = down_twice (ap (λ (x : CoreState D K). x.queue) d.2) up down
  submit_twice submitted.QueueFault d up down = d.2.2.put.twice (d.2.2.put.down.0 down)
  submit_twice submitted.Spent d up down = down_twice d.2.queue up down
  submit_twice submitted.Down d up down = down_twice (ap (λ (x : CoreState D K). x.queue) d.1) up down
  submit_twice submitted.Memory d up down = down_twice d.1.queue up down

  pub submit_submitted : (result : Submitted) → Does result → (r : ℕ) (b : Command) → IsSubmitted r b old → IsSubmitted r b new
  submit_submitted (submitted.Receipt q) d r b = submitted_on old new (Submit (old.last + 1) c) d.3.others.found d.3.events r b
  submit_submitted submitted.Full d r b = submitted_carried old new (same_others old new d.2).found (ap events_in d.2) r b
  submit_submitted submitted.QueueFault d r b = submitted_carried old new d.2.2.memory.others.found d.2.2.memory.events r b
  submit_submitted submitted.Spent d r b = submitted_carried old new d.2.memory.others.found d.2.memory.events r b
  submit_submitted submitted.Down d r b = submitted_carried old new (same_others old new d.1).found (ap events_in d.1) r b
  submit_submitted submitted.Memory d r b = submitted_carried old new d.1.memory.others.found d.1.memory.events r b

  -- ---- the core is sound then

  module _ (sound : IsSoundCore p old) where
    sound_store : new.store ≡ old.store → p.store_down new.store ≡ false → p.store_up new.store
    sound_store store up = subst p.store_up (sym store) (sound.store (ap p.store_down (sym store) ∙ up))

    taken_sound : length c.payload ≤ most_payload → HasStamp c.received → Took → IsSoundCore p new
    taken_sound payload received t = record {
      queue = λ up. t.put.again (λ e. cc);
      store = sound_store t.store;
      pending = sound_as (old.last + 1) new.last old.found.queue.value new.found.queue.value (Submit (old.last + 1) c ∷ old.events.list) new.events.list (old.pending ++ new_entry (old.last + 1) c ∷ []) new.pending
          t.last (ap (λ (f : Found). f.queue.value) t.others.found) t.events t.pending (sound_more old.last old.found.queue.value old.events.list old.pending sound.pending c (received, omega (arith, payload)));
      room = (let same = ap claimed_number t.pending ∙ claimed_more old.pending (old.last + 1) c in let most = claimed_most old.pending in omega (arith, same, most, t.room));
    }

    refused_sound : (answer : Kept) → Refused answer → IsSoundCore p new
    refused_sound answer w = record {
      queue = λ up. w.put.again (λ down. absurd (let is = w.put.down.1 down in let apart : false ≡ true = sym up ∙ is in cc));
      store = sound_store w.store;
      pending = sound_as old.last new.last old.found.queue.value new.found.queue.value old.events.list new.events.list old.pending new.pending w.memory.last (ap (λ (f : Found). f.queue.value) w.memory.others.found) w.memory.events w.memory.pending sound.pending;
      room = (let same = ap claimed_number w.memory.pending in omega (arith, same, w.memory.room, sound.room));
    }

    pub submit_sound : length c.payload ≤ most_payload → HasStamp c.received → (result : Submitted) → Does result → IsSoundCore p new
    submit_sound payload received (submitted.Receipt r) d = taken_sound payload received d.3
    submit_sound payload received submitted.Full d = subst (IsSoundCore p) (sym d.2) sound
    submit_sound payload received submitted.QueueFault d = refused_sound d.2.0 d.2.2
    submit_sound payload received submitted.Spent d = sound_carried p old new [] d.2 sound
    submit_sound payload received submitted.Down d = subst (IsSoundCore p) (sym d.1) sound
    submit_sound payload received submitted.Memory d = sound_carried p old new [] d.1 sound

    -- ---- what it stands for

    module _ (payload : length c.payload ≤ most_payload) (received : HasStamp c.received) (start : History) (stands : CoreStands p old start) where
      abbrev was : History
      was = history_of old start

      abbrev event : Event
      event = Submit (old.last + 1) c

      abbrev rec : QueueRecord
      rec = queue.Submit (old.last + 1) c

      next : IsNext (old.last + 1) c was
      next = record { receipt = add-one old.last ∙ ap suc stands.holds.says.last; payload = payload; received = received }

      legal : IsLegal old.tables.ttls (event ∷ was)
      legal = (next, stands.holds.says.plain.legal)

      plain_now : IsPlain old.tables.ttls (event ∷ was)
      plain_now = plain_with old.tables.ttls was stands.holds.says.plain event legal tt

      room_left : IsOpen p.store_down c old → length (pending_of was) < most_pending
      room_left is_open =
          let same = ap (λ (es : List Entry). length es) stands.holds.says.pending in
          less (length (pending_of was)) (λ many. is_open.room (inl (omega (arith, same, many))))
        where
          less : (n : ℕ) → (most_pending ≤ n → ⊥) → n < most_pending
          less n no_more = omega (arith, no_more)

      both_by : (up : is_down p old ≡ false) → IsOpen p.store_down c old → BothTell old.tables.ttls ((stands.tells up).queue_records ++ rec ∷ []) (stands.tells up).store_records (event ∷ was)
      both_by up is_open =
          let t = stands.tells up in
          no_store_part old.tables.ttls (t.queue_records ++ rec ∷ []) t.store_records (event ∷ was)
          (both_with old.tables.ttls t.queue_records t.store_records was stands.holds.says.plain (tell p old start sound stands up) event next (room_left is_open) (rec ∷ []) [] refl refl)

      stand_by : (up : is_down p old ≡ false) → IsOpen p.store_down c old → Stands old.tables.ttls ((stands.tells up).queue_records ++ rec ∷ []) (stands.tells up).store_records (event ∷ was)
      stand_by up is_open = both_stand old.tables.ttls ((stands.tells up).queue_records ++ rec ∷ []) (stands.tells up).store_records (event ∷ was) plain_now (both_by up is_open)

      store_goes : is_down p old ≡ false → new.store ≡ old.store → p.store_up new.store
      store_goes up store = sound_store store (ap p.store_down store ∙ (core_up p old up).store)

      module _ (is_open : IsOpen p.store_down c old) where
        taken_stands : Took → CoreStands p new start
        taken_stands t =
            let logs = stands.tells is_open.up in
            let same_history : history_of new start ≡ event ∷ was = ap (λ (h : History). h ++ start) t.events in
            let later : p.store_faults old.store ≤ p.store_faults new.store = (let same = ap p.store_faults t.store in omega (arith, same)) in
            let says = submit_held (held_of old) (p.store_faults old.store) was stands.holds.says (old.last + 1) c (held_of new) (p.store_faults new.store) refl payload received later t.others.tables t.pending t.others.dead t.last in
            put_stands p old new start sound stands is_open.up (ap (λ x. x.ttls) t.others.tables) (λ told. ap p.kept t.store ∙ logs.store_is told) (store_goes is_open.up t.store)
            rec (event ∷ was) (both_by is_open.up is_open) t.put same_history (holds_with p old new start (event ∷ was) t.others stands.holds same_history says)

        -- the record wasn't put
        refused_history : (answer : Kept) → Refused answer → history_of new start ≡ was
        refused_history answer w = ap (λ (h : History). h ++ start) w.memory.events

        refused_stands : (answer : Kept) → IsFaulty answer → Refused answer → CoreStands p new start
        refused_stands kept.Ok faulty w = absurd faulty
        refused_stands kept.Failed faulty w =
            unput_stands p old new start sound stands is_open.up (ap (λ x. x.ttls) w.memory.others.tables) (λ told. ap p.kept w.store ∙ (stands.tells is_open.up).store_is told) (store_goes is_open.up w.store)
            kept.Failed rec was tt (tell p old start sound stands is_open.up) w.put (refused_history kept.Failed w) (memory_holds p old new start w.memory w.store stands.holds)
        refused_stands kept.Down faulty w =
            open_stands p old new start sound stands is_open.up rec (event ∷ []) (one event tt refl) (stand_by is_open.up is_open) w.put (known_store p old start sound stands is_open.up new.store w.store)
            (ap (λ x. x.ttls) w.memory.others.tables) (refused_history kept.Down w) (memory_holds p old new start w.memory w.store stands.holds)
        refused_stands kept.Memory faulty w = absurd faulty
        refused_stands kept.Spent faulty w = absurd faulty

      pub submit_stands : (result : Submitted) → Does result → CoreStands p new start
      submit_stands (submitted.Receipt r) d = taken_stands d.0 d.3
      submit_stands submitted.Full d = subst (λ (core : CoreState D K). CoreStands p core start) (sym d.2) stands
      submit_stands submitted.QueueFault d = refused_stands d.0 d.2.0 d.2.1 d.2.2
      submit_stands submitted.Spent d = stands_carried p old new start d.2 stands
      submit_stands submitted.Down d = subst (λ (core : CoreState D K). CoreStands p core start) (sym d.1) stands
      submit_stands submitted.Memory d = stands_carried p old new start d.1 stands

      -- ---- moments within

      abbrev Meanwhile : Type 0
      Meanwhile = Within p.may_leave p.moment p.left_since p.images p.store_moment p.images_since old new (StandsAmid old.tables.ttls (IsSubmitOf old.last c) was (history_of new start))

      no_event : new.events.list ≡ old.events.list → GoesOn was (history_of new start)
      no_event same = ([], ap (λ (h : History). h ++ start) same)

      pub submit_moments : (result : Submitted) → Does result → is_down p old ≡ false → Meanwhile
      submit_moments (submitted.Receipt r) d up =
          queue_within p old start sound stands up (IsSubmitOf old.last c) (history_of new start) (event ∷ [], ap (λ (h : History). h ++ start) d.3.events) new rec (event ∷ []) refl (stand_by up d.0) d.3.put.any_moment d.3.store
      submit_moments submitted.Full d up = nothing_within p old start sound stands up (IsSubmitOf old.last c) (history_of new start) (no_event (ap events_in d.2)) new (ap (λ (x : CoreState D K). x.queue) d.2) (ap (λ (x : CoreState D K). x.store) d.2)
      submit_moments submitted.QueueFault d up =
          queue_within p old start sound stands up (IsSubmitOf old.last c) (history_of new start) (no_event d.2.2.memory.events) new rec (event ∷ []) refl (stand_by up d.0) d.2.2.put.any_moment d.2.2.store
      submit_moments submitted.Spent d up = nothing_within p old start sound stands up (IsSubmitOf old.last c) (history_of new start) (no_event d.2.memory.events) new d.2.queue d.2.store
      submit_moments submitted.Down d up = not_down up d.0
      submit_moments submitted.Memory d up = nothing_within p old start sound stands up (IsSubmitOf old.last c) (history_of new start) (no_event d.1.memory.events) new d.1.queue d.1.store
