-- What a sweep does is what its clauses say.
use Rattle.std.proofs.Common.{IsTrue, ◌≡◌, ◌∙◌, ◌⊎◌, ◌↔◌, inl, inr, ℕ, ℤ, ◌≤◌, Bool, true, false, ◌||◌, List, [], ◌∷◌, ◌++◌, Option, arith, refl, sym, ap, subst}
use Rattle.ttl_sweeps.proofs.of_plain_laws.Booleans.{not_so, never}
use Rattle.core_state.specs.fleet_ports.Counts.{Counts, RoseBy}
use Rattle.core_state.specs.fleet_rows.declared.command.Command.{Command}
use Rattle.core_state.specs.fleet_rows.declared.settings.Kinds.{Kinds}
use Rattle.core_state.specs.fleet_rows.declared.settings.Ttls.{Ttls}
use Rattle.ttl_sweeps.specs.history_spec.Lawful.{HasStamp}
use Rattle.core_state.specs.table_machine.Steps as steps
use Rattle.core_state.specs.table_machine.Table.{Table}
use Rattle.core_state.specs.record_spec.declared.queue.QueueRecord.{QueueRecord}
use Rattle.core_state.specs.record_spec.declared.store.StoreRecord.{StoreRecord}
use Rattle.core_state.specs.record_spec.declared.store.StoreRecord.TheVariants as store
use Rattle.core_state.specs.record_spec.Store.{store_text}
use Rattle.core_state.specs.fleet_keeper.declared.kept.Kept.{Kept}
use Rattle.core_state.specs.fleet_keeper.declared.kept.Kept.TheVariants as kept
use Rattle.core_state.specs.fleet_keeper.Kept.{IsFaulty}
use Rattle.core_state.specs.fleet_keeper.Limits.{IsPast}
use Rattle.core_state.specs.fleet_keeper.Records.{with_one}
use Rattle.core_state.specs.core_spec.declared.event.Event.{Event}
use Rattle.core_state.specs.core_spec.declared.event.Event.TheVariants.{Sweep}
use Rattle.core_state.specs.core_spec.History.{History}
use Rattle.core_state.specs.core_spec.Legal.{IsLegal}
use Rattle.core_state.specs.core_spec.Stands.{Stands}
use Rattle.core_state.specs.core_laws.StandingLaws.{IsPlain}
use Rattle.core_state.specs.queue_log.Queued.{queued, QueueIsUp, queue_down}
use Rattle.core_state.specs.compact_laws.Lawful.{IsLawfulTable}
use Rattle.core_state.proofs.of_compact_laws.LawfulTables.{sweeps_keep_tables_lawful}
use Rattle.core_state.specs.declared.found.Found.{Found}
use Rattle.core_state.specs.declared.state.CoreState.{CoreState}
use Rattle.core_state.specs.Changes.{MemoryStays, CoreStays, OpeningStays}
use Rattle.core_state.specs.Moments.{Within, GoesOn, StandsAmid}
use Rattle.core_state.specs.Seen.{events_of, held_of, claimed_number, IsSubmitted}
use Rattle.core_state.specs.Spelling.{HasSpelling}
use Rattle.core_state.specs.StandsFor.{HoldsFor, StandsAt, one, history_of}
use Rattle.core_state.proofs.Carried.{same_stays, submitted_carried, submitted_on, holds_with, holds_of, stands_carried, sound_carried, down_carried}
use Rattle.core_state.proofs.Fits.{kept_fits}
use Rattle.core_state.proofs.HeldEvents.{still_held, sweep_held}
use Rattle.core_state.proofs.PlainHistories.{plain_with}
use Rattle.core_state.proofs.Ports.{Ports, keeper_stays}
use Rattle.core_state.proofs.SoundLists.{all_submitted, sound_as, claimed_most}
use Rattle.core_state.proofs.Spellings.{spelling_of, spelling_stays}
use Rattle.core_state.proofs.Standing.{BothTell, both_stand, both_with, no_queue_part, CoreStands, IsSoundCore, is_down, core_up, parts_up, up_stands, down_stands, logs_of, tell, xs, ys, logs, nothing_within, store_within, store_images}
use Rattle.core_sweeps.specs.declared.answers.Swept.{Swept}
use Rattle.core_sweeps.specs.declared.answers.Swept.TheVariants as came
use Rattle.core_sweeps.specs.Sweeps.{SweepAdds, SweepWrites, IsSweep, IsCalm, IsStoreFault, HasSwept, WasAsked, SweepDoes}

-- a sweep leaves the lifetimes
step_ttls : (b : Bool) (f : Table → Table) (t : Table) → (f t).ttls ≡ t.ttls → (steps.step_if b f t).ttls ≡ t.ttls
step_ttls true f t h = h
step_ttls false f t h = refl

swept_ttls : (kinds : Kinds) (m : ℤ) (t : Table) → (steps.sweep kinds m t).ttls ≡ t.ttls
swept_ttls kinds m t =
    let expired = steps.step_if kinds.expire (steps.expire m) t in
    let purged = steps.step_if kinds.purge (steps.purge m) expired in
    step_ttls kinds.reports (steps.retain m) purged refl ∙ step_ttls kinds.purge (steps.purge m) expired refl ∙ step_ttls kinds.expire (steps.expire m) t refl

module _ {D K : Type 0} (p : Ports D K) (kinds : Kinds) (m : ℤ) (old new : CoreState D K) where
  abbrev pub Does : Swept → Type 0
  Does a = SweepDoes p.store_tells p.kept p.images p.store_moment p.images_since p.store_up p.store_down p.store_size (keeper_stays p) p.store_faults a kinds m old new

  abbrev Asked : Kept → Type 0
  Asked answer = WasAsked p.store_tells p.kept p.images p.store_moment p.images_since p.store_up p.store_down p.store_size (keeper_stays p) p.store_faults answer kinds m old new

  abbrev rec : StoreRecord
  rec = store.Swept kinds m

  abbrev event : Event
  event = Sweep kinds m

  pub memory_stays : (answer : Kept) → (answer ≡ kept.Memory) ⊎ (answer ≡ kept.Spent) → Asked answer → new.queue ≡ old.queue → MemoryStays old new → CoreStays old new
  memory_stays answer which asked queue held = record { memory = held; queue = queue; store = asked.keeps.untouched which }

  -- ---- what is left

  pub sweep_adds : (a : Swept) → Does a → SweepAdds a kinds m (events_of old) (events_of new)
  sweep_adds came.Ok d = d.1.events
  sweep_adds came.StoreFault d = d.2.events
  sweep_adds came.StoreDown d = d.2.events
  sweep_adds came.Spent d = d.2.events
  sweep_adds came.Down d = ap (λ (x : CoreState D K). x.events.list) d.1
  sweep_adds came.Memory d = d.1.memory.events

  held_opening : MemoryStays old new → OpeningStays old new
  held_opening h = record { found = h.others.found; opened_a = h.others.opened_a; opened_b = h.others.opened_b; last = h.last; lifetimes = ap (λ (t : Table). t.ttls) h.others.tables }

  same_memory : new ≡ old → MemoryStays old new
  same_memory same = (same_stays old new same).memory

  pub sweep_opening : (a : Swept) → Does a → OpeningStays old new
  sweep_opening came.Ok d = record { found = d.1.found; opened_a = d.1.opened_a; opened_b = d.1.opened_b; last = d.1.last; lifetimes = ap (λ (t : Table). t.ttls) d.1.tables ∙ swept_ttls kinds m old.tables }
  sweep_opening came.StoreFault d = held_opening d.2
  sweep_opening came.StoreDown d = held_opening d.2
  sweep_opening came.Spent d = held_opening d.2
  sweep_opening came.Down d = held_opening (same_memory d.1)
  sweep_opening came.Memory d = held_opening d.1.memory

  abbrev Writes_so : Type 0
  Writes_so = (p.store_size new.store ≡ p.store_size old.store) × (p.store_down new.store ≡ false → IsTrue p.store_tells → p.kept new.store ≡ p.kept old.store)

  same_written : new.store ≡ old.store → Writes_so
  same_written same = (ap p.store_size same, λ up told. ap p.kept same)

  pub sweep_writes : (a : Swept) → Does a → SweepWrites p.store_tells p.kept p.store_down p.store_size a kinds m old.store new.store
  sweep_writes came.Ok d = (d.0.keeps.grew refl, d.0.keeps.kept_one refl, kept_fits p old.store new.store (store.Swept kinds m) d.0.keeps)
  sweep_writes came.StoreFault d = (d.0.keeps.same_size (λ e. cc), λ up. d.0.keeps.kept_old tt)
  sweep_writes came.StoreDown d = (d.0.keeps.same_size (λ e. cc), λ up. never (p.store_down new.store) (d.0.keeps.down.1 refl) up)
  sweep_writes came.Spent d = (d.0.keeps.same_size (λ e. cc), λ up. d.0.keeps.kept_old tt)
  sweep_writes came.Down d = same_written (ap (λ (x : CoreState D K). x.store) d.1)
  sweep_writes came.Memory d = same_written d.1.store

  same_keeper : new.store ≡ old.store → keeper_stays p old.store new.store
  same_keeper same = record { same_generation = ap p.store_generation same; same_opening = ap p.store_opened same; bounds = λ since. subst (λ (k : K). p.store_within k since) (sym same) }

  pub sweep_keeper : (a : Swept) → Does a → keeper_stays p old.store new.store
  sweep_keeper came.Ok d = d.0.keeps.keeper
  sweep_keeper came.StoreFault d = d.0.keeps.keeper
  sweep_keeper came.StoreDown d = d.0.keeps.keeper
  sweep_keeper came.Spent d = d.0.keeps.keeper
  sweep_keeper came.Down d = same_keeper (ap (λ (x : CoreState D K). x.store) d.1)
  sweep_keeper came.Memory d = same_keeper d.1.store

  pub sweep_queue : (a : Swept) → Does a → new.queue ≡ old.queue
  sweep_queue came.Ok d = d.1.queue
  sweep_queue came.StoreFault d = d.1
  sweep_queue came.StoreDown d = d.1
  sweep_queue came.Spent d = d.1
  sweep_queue came.Down d = ap (λ (x : CoreState D K). x.queue) d.1
  sweep_queue came.Memory d = d.1.queue

  pub sweep_pending : (a : Swept) → Does a → new.pending ≡ old.pending
  sweep_pending came.Ok d = d.1.pending
  sweep_pending came.StoreFault d = d.2.pending
  sweep_pending came.StoreDown d = d.2.pending
  sweep_pending came.Spent d = d.2.pending
  sweep_pending came.Down d = ap (λ (x : CoreState D K). x.pending) d.1
  sweep_pending came.Memory d = d.1.memory.pending

  pub sweep_submitted : (a : Swept) → Does a → (r : ℕ) (c : Command) → IsSubmitted r c old → IsSubmitted r c new
  sweep_submitted came.Ok d r c = submitted_on old new event d.1.found d.1.events r c
  sweep_submitted came.StoreFault d r c = submitted_carried old new d.2.others.found d.2.events r c
  sweep_submitted came.StoreDown d r c = submitted_carried old new d.2.others.found d.2.events r c
  sweep_submitted came.Spent d r c = submitted_carried old new d.2.others.found d.2.events r c
  sweep_submitted came.Down d r c = subst (λ (x : CoreState D K). IsSubmitted r c x) (sym d.1)
  sweep_submitted came.Memory d r c = submitted_carried old new d.1.memory.others.found d.1.memory.events r c

  pub sweep_spelling : HasStamp m → HasSpelling old → (a : Swept) → Does a → HasSpelling new
  sweep_spelling stamp spelling came.Ok d =
      spelling_of old new (subst (λ (t : Table). IsLawfulTable t) (sym d.1.tables) (sweeps_keep_tables_lawful kinds m old.tables stamp spelling.tables)) d.1.dead spelling
  sweep_spelling stamp spelling came.StoreFault d = spelling_stays old new d.2.others spelling
  sweep_spelling stamp spelling came.StoreDown d = spelling_stays old new d.2.others spelling
  sweep_spelling stamp spelling came.Spent d = spelling_stays old new d.2.others spelling
  sweep_spelling stamp spelling came.Down d = subst (λ (x : CoreState D K). HasSpelling x) (sym d.1) spelling
  sweep_spelling stamp spelling came.Memory d = spelling_stays old new d.1.memory.others spelling

  pub sweep_down : (a : Swept) → Does a → (a ≡ came.Down) ↔ (is_down p old ≡ true)
  sweep_down came.Ok d = ((λ e. absurd cc), (λ t. never (is_down p old) t d.0.up))
  sweep_down came.StoreFault d = ((λ e. absurd cc), (λ t. never (is_down p old) t d.0.up))
  sweep_down came.StoreDown d = ((λ e. absurd cc), (λ t. never (is_down p old) t d.0.up))
  sweep_down came.Spent d = ((λ e. absurd cc), (λ t. never (is_down p old) t d.0.up))
  sweep_down came.Down d = ((λ e. d.0), (λ t. refl))
  sweep_down came.Memory d = ((λ e. absurd cc), (λ t. never (is_down p old) t d.0))

  pub sweep_unchanged : (a : Swept) → Does a → a ≡ came.Down → new ≡ old
  sweep_unchanged came.Ok d e = absurd cc
  sweep_unchanged came.StoreFault d e = absurd cc
  sweep_unchanged came.StoreDown d e = absurd cc
  sweep_unchanged came.Spent d e = absurd cc
  sweep_unchanged came.Down d e = d.1
  sweep_unchanged came.Memory d e = absurd cc

  pub sweep_stays : (a : Swept) → Does a → IsCalm a → CoreStays old new
  sweep_stays came.Ok d c = absurd c
  sweep_stays came.StoreFault d c = absurd c
  sweep_stays came.StoreDown d c = absurd c
  sweep_stays came.Spent d c = memory_stays kept.Spent (inr refl) d.0 d.1 d.2
  sweep_stays came.Down d c = same_stays old new d.1
  sweep_stays came.Memory d c = d.1

  pub sweep_fault : (a : Swept) → Does a → IsStoreFault a → MemoryStays old new
  sweep_fault came.Ok d c = absurd c
  sweep_fault came.StoreFault d c = d.2
  sweep_fault came.StoreDown d c = d.2
  sweep_fault came.Spent d c = absurd c
  sweep_fault came.Down d c = absurd c
  sweep_fault came.Memory d c = absurd c

  pub sweep_spent : (a : Swept) → Does a → a ≡ came.Spent → IsPast (p.store_size old.store) (store_text rec)
  sweep_spent came.Ok d e = absurd cc
  sweep_spent came.StoreFault d e = absurd cc
  sweep_spent came.StoreDown d e = absurd cc
  sweep_spent came.Spent d e = d.0.keeps.spent refl
  sweep_spent came.Down d e = absurd cc
  sweep_spent came.Memory d e = absurd cc

  not_spent : {P : Type 0} (answer : Kept) → (answer ≡ kept.Spent → ⊥) → (answer ≡ kept.Memory → ⊥) → (answer ≡ kept.Spent) ⊎ (answer ≡ kept.Memory) → P
  not_spent answer a b (inl e) = absurd (a e)
  not_spent answer a b (inr e) = absurd (b e)

  pub sweep_unspent : (a : Swept) → Does a → is_down p old ≡ false → IsPast (p.store_size old.store) (store_text rec) → (a ≡ came.Spent) ⊎ (a ≡ came.Memory)
  sweep_unspent came.Ok d up past = not_spent kept.Ok (λ e. cc) (λ e. cc) (d.0.keeps.unspent past)
  sweep_unspent came.StoreFault d up past = not_spent kept.Failed (λ e. cc) (λ e. cc) (d.0.keeps.unspent past)
  sweep_unspent came.StoreDown d up past = not_spent kept.Down (λ e. cc) (λ e. cc) (d.0.keeps.unspent past)
  sweep_unspent came.Spent d up past = inl refl
  sweep_unspent came.Down d up past = never (is_down p old) d.0 up
  sweep_unspent came.Memory d up past = inr refl

  calm_count : {Fault : Type 0} → (Fault → ⊥) → new.store ≡ old.store → Counts (p.store_faults old.store) (p.store_faults new.store) Fault
  calm_count {Fault} none same = let counts = ap p.store_faults same in record { later = omega (arith, counts); cause = λ f. absurd (none f); calm = λ f. counts }

  kept_count : {Fault : Type 0} (answer : Kept) → (IsFaulty answer → Fault) → (Fault → IsFaulty answer) → Asked answer → Counts (p.store_faults old.store) (p.store_faults new.store) Fault
  kept_count answer to from asked = record { later = asked.keeps.cause.later; cause = λ f. asked.keeps.cause.cause (from f); calm = λ none. asked.keeps.cause.calm (λ f. none (to f)) }

  pub sweep_cause : (a : Swept) → Does a → Counts (p.store_faults old.store) (p.store_faults new.store) (IsStoreFault a)
  sweep_cause came.Ok d = kept_count kept.Ok (λ f. absurd f) (λ f. absurd f) d.0
  sweep_cause came.StoreFault d = kept_count kept.Failed (λ f. tt) (λ f. tt) d.0
  sweep_cause came.StoreDown d = kept_count kept.Down (λ f. tt) (λ f. tt) d.0
  sweep_cause came.Spent d = kept_count kept.Spent (λ f. absurd f) (λ f. absurd f) d.0
  sweep_cause came.Down d = calm_count (λ f. f) (ap (λ (x : CoreState D K). x.store) d.1)
  sweep_cause came.Memory d = calm_count (λ f. f) d.1.store

  pub sweep_twice : (a : Swept) → Does a → a ≡ came.StoreDown → RoseBy 2 (p.store_faults old.store) (p.store_faults new.store)
  sweep_twice came.Ok d e = absurd cc
  sweep_twice came.StoreFault d e = absurd cc
  sweep_twice came.StoreDown d e = d.0.keeps.twice refl
  sweep_twice came.Spent d e = absurd cc
  sweep_twice came.Down d e = absurd cc
  sweep_twice came.Memory d e = absurd cc

  store_still : (answer : Kept) → (answer ≡ kept.Down → ⊥) → Asked answer → p.store_down new.store ≡ false
  store_still answer other asked = not_so (p.store_down new.store) (λ t. other (asked.keeps.down.0 t))

  same_still : is_down p old ≡ false → new.store ≡ old.store → p.store_down new.store ≡ false
  same_still up same = ap p.store_down same ∙ (core_up p old up).store

  pub sweep_store_down : (a : Swept) → Does a → is_down p old ≡ false → (p.store_down new.store ≡ true) ↔ (a ≡ came.StoreDown)
  sweep_store_down came.Ok d up = ((λ t. never (p.store_down new.store) t (store_still kept.Ok (λ e. cc) d.0)), (λ e. absurd cc))
  sweep_store_down came.StoreFault d up = ((λ t. never (p.store_down new.store) t (store_still kept.Failed (λ e. cc) d.0)), (λ e. absurd cc))
  sweep_store_down came.StoreDown d up = ((λ t. refl), (λ e. d.0.keeps.down.1 refl))
  sweep_store_down came.Spent d up = ((λ t. never (p.store_down new.store) t (store_still kept.Spent (λ e. cc) d.0)), (λ e. absurd cc))
  sweep_store_down came.Down d up = never (is_down p old) d.0 up
  sweep_store_down came.Memory d up = ((λ t. never (p.store_down new.store) t (same_still up d.1.store)), (λ e. absurd cc))

  stays_up : is_down p old ≡ false → new.undone ≡ old.undone → new.queue ≡ old.queue → p.store_down new.store ≡ false → is_down p new ≡ is_down p old
  stays_up up undone queue store =
      let was = core_up p old up in
      parts_up new.undone (queue_down new.queue) (p.store_down new.store) (record { done = undone ∙ was.done; queue = ap queue_down queue ∙ was.queue; store = store }) ∙ sym up

  pub sweep_up : (a : Swept) → Does a → (a ≡ came.StoreDown → ⊥) → is_down p new ≡ is_down p old
  sweep_up came.Ok d none = stays_up d.0.up d.1.undone d.1.queue (store_still kept.Ok (λ e. cc) d.0)
  sweep_up came.StoreFault d none = stays_up d.0.up d.2.others.undone d.1 (store_still kept.Failed (λ e. cc) d.0)
  sweep_up came.StoreDown d none = absurd (none refl)
  sweep_up came.Spent d none = stays_up d.0.up d.2.others.undone d.1 (store_still kept.Spent (λ e. cc) d.0)
  sweep_up came.Down d none = ap (is_down p) d.1
  sweep_up came.Memory d none = down_carried p old new [] d.1

  -- ---- it is sound then

  module _ (sound : IsSoundCore p old) where
    queue_so : new.queue ≡ old.queue → queue_down new.queue ≡ false → QueueIsUp p.seen p.may_leave new.queue
    queue_so same up = subst (QueueIsUp p.seen p.may_leave) (sym same) (sound.queue (ap queue_down (sym same) ∙ up))

    store_so : (answer : Kept) → Asked answer → p.store_down new.store ≡ false → p.store_up new.store
    store_so answer asked up = asked.keeps.again (λ e. never (p.store_down new.store) (asked.keeps.down.1 e) up)

    swept_sound : Asked kept.Ok → HasSwept kinds m old new → IsSoundCore p new
    swept_sound asked h = record {
      queue = queue_so h.queue;
      store = store_so kept.Ok asked;
      pending = sound_as old.last new.last old.found.queue.value new.found.queue.value (event ∷ old.events.list) new.events.list old.pending new.pending h.last (ap (λ (f : Found). f.queue.value) h.found) h.events h.pending
          (record { below = sound.pending.below; few = sound.pending.few; submitted = all_submitted event old.found.queue.value old.events.list old.pending sound.pending.submitted; fit = sound.pending.fit });
      room = (let same = ap claimed_number h.pending in let most = claimed_most old.pending in omega (arith, same, most, h.room));
    }

    held_sound : (answer : Kept) → Asked answer → new.queue ≡ old.queue → MemoryStays old new → IsSoundCore p new
    held_sound answer asked queue h = record {
      queue = queue_so queue;
      store = store_so answer asked;
      pending = sound_as old.last new.last old.found.queue.value new.found.queue.value old.events.list new.events.list old.pending new.pending h.last (ap (λ (f : Found). f.queue.value) h.others.found) h.events h.pending sound.pending;
      room = (let same = ap claimed_number h.pending in omega (arith, same, h.room, sound.room));
    }

    pub sweep_sound : (a : Swept) → Does a → IsSoundCore p new
    sweep_sound came.Ok d = swept_sound d.0 d.1
    sweep_sound came.StoreFault d = held_sound kept.Failed d.0 d.1 d.2
    sweep_sound came.StoreDown d = held_sound kept.Down d.0 d.1 d.2
    sweep_sound came.Spent d = held_sound kept.Spent d.0 d.1 d.2
    sweep_sound came.Down d = subst (IsSoundCore p) (sym d.1) sound
    sweep_sound came.Memory d = sound_carried p old new [] d.1 sound

    -- ---- what it stands for

    module _ (stamp : HasStamp m) (start : History) (stands : CoreStands p old start) where
      abbrev was : History
      was = history_of old start

      abbrev ttls : Ttls
      ttls = old.tables.ttls

      abbrev plain : IsPlain ttls was
      plain = stands.holds.says.plain

      legal : IsLegal ttls (event ∷ was)
      legal = (stamp, plain.legal)

      module _ (up : is_down p old ≡ false) where
        abbrev q_old : List QueueRecord
        q_old = xs p old start sound stands up

        abbrev s_old : List StoreRecord
        s_old = ys p old start sound stands up

        both : BothTell ttls q_old (s_old ++ rec ∷ []) (event ∷ was)
        both = no_queue_part ttls q_old (s_old ++ rec ∷ []) (event ∷ was) (both_with ttls q_old s_old was plain (tell p old start sound stands up) event stamp tt [] (rec ∷ []) refl refl)

        stand : Stands ttls q_old (s_old ++ rec ∷ []) (event ∷ was)
        stand = both_stand ttls q_old (s_old ++ rec ∷ []) (event ∷ was) (plain_with ttls was plain event legal tt) both

        swept_stands : Asked kept.Ok → HasSwept kinds m old new → CoreStands p new start
        swept_stands asked h =
            let at_end : history_of new start ≡ event ∷ was = ap (λ (g : History). g ++ start) h.events in
            let lifetimes = ap (λ (t : Table). t.ttls) h.tables ∙ swept_ttls kinds m old.tables in
            let found = subst (λ (ts : Ttls). Stands ts new.found.queue.value new.found.store.value start) (sym lifetimes) (subst (λ (x : Found). Stands ttls x.queue.value x.store.value start) (sym h.found) stands.holds.found) in
            up_stands p new start (queue_so h.queue (ap queue_down h.queue ∙ (core_up p old up).queue)) (asked.keeps.again (λ e. cc))
            (holds_of p old new start (event ∷ was) found at_end
            (sweep_held (held_of old) (p.store_faults old.store) was stands.holds.says kinds m (held_of new) (p.store_faults new.store) stamp asked.keeps.cause.later lifetimes h.stands h.pending h.dead h.last))
            (logs_of p new q_old (s_old ++ rec ∷ []) (history_of new start) ttls lifetimes (subst (BothTell ttls q_old (s_old ++ rec ∷ [])) (sym at_end) both)
            (λ told. ap (queued p.seen) h.queue ∙ (logs p old start sound stands up).queue_is told)
            (λ told. asked.keeps.kept_one refl told ∙ ap (λ (o : Option (List StoreRecord)). with_one o rec) ((logs p old start sound stands up).store_is told)))

        held_later : MemoryStays old new → p.store_faults old.store ≤ p.store_faults new.store → HoldsFor (held_of new) (p.store_faults new.store) start
        held_later h later =
            holds_with p old new start was h.others stands.holds (ap (λ (g : History). g ++ start) h.events)
            (still_held (held_of old) (held_of new) (p.store_faults old.store) (p.store_faults new.store) was later h.others.tables h.pending h.others.dead h.last stands.holds.says)

        failed_stands : Asked kept.Failed → new.queue ≡ old.queue → MemoryStays old new → CoreStands p new start
        failed_stands asked queue h =
            let at_end : history_of new start ≡ was = ap (λ (g : History). g ++ start) h.events in
            up_stands p new start (queue_so queue (ap queue_down queue ∙ (core_up p old up).queue)) (asked.keeps.again (λ e. cc)) (held_later h asked.keeps.cause.later)
            (logs_of p new q_old s_old (history_of new start) ttls (ap (λ (t : Table). t.ttls) h.others.tables) (subst (BothTell ttls q_old s_old) (sym at_end) (tell p old start sound stands up))
            (λ told. ap (queued p.seen) queue ∙ (logs p old start sound stands up).queue_is told) (λ told. asked.keeps.kept_old tt told ∙ (logs p old start sound stands up).store_is told))

        went_down : p.store_down new.store ≡ true → is_down p new ≡ true
        went_down t = rw t (either new.undone (queue_down new.queue))
          where
            either : (a b : Bool) → (a || (b || true)) ≡ true
            either true b = refl
            either false true = refl
            either false false = refl

        down_stands_so : Asked kept.Down → new.queue ≡ old.queue → MemoryStays old new → CoreStands p new start
        down_stands_so asked queue h =
            let at_end : history_of new start ≡ was = ap (λ (g : History). g ++ start) h.events in
            down_stands p new start (went_down (asked.keeps.down.1 refl)) (held_later h asked.keeps.cause.later) (event ∷ []) (one event tt refl)
            (λ q s q_image s_image.
            subst (λ (ts : Ttls). StandsAt ts q s (history_of new start) ⊎ StandsAt ts q s (event ∷ history_of new start)) (sym (ap (λ (t : Table). t.ttls) h.others.tables))
            (subst (λ (g : History). StandsAt ttls q s g ⊎ StandsAt ttls q s (event ∷ g)) (sym at_end) (store_images p old start sound stands up new rec (event ∷ []) stand asked.keeps.each queue q s q_image s_image)))

        abbrev Meanwhile : Type 0
        Meanwhile = Within p.may_leave p.moment p.left_since p.images p.store_moment p.images_since old new (StandsAmid ttls (IsSweep kinds m was) was (history_of new start))

        goes : (more : History) → new.events.list ≡ more ++ old.events.list → (more ++ old.events.list) ++ start ≡ more ++ was → GoesOn was (history_of new start)
        goes more e assoc = (more, ap (λ (g : History). g ++ start) e ∙ assoc)

        asked_within : (answer : Kept) → Asked answer → GoesOn was (history_of new start) → new.queue ≡ old.queue → Meanwhile
        asked_within answer asked on queue = store_within p old start sound stands up (IsSweep kinds m was) (history_of new start) on new rec (event ∷ []) (refl, refl) stand asked.keeps.any_moment asked.keeps.later asked.keeps.each queue

      pub sweep_stands : (a : Swept) → Does a → CoreStands p new start
      sweep_stands came.Ok d = swept_stands d.0.up d.0 d.1
      sweep_stands came.StoreFault d = failed_stands d.0.up d.0 d.1 d.2
      sweep_stands came.StoreDown d = down_stands_so d.0.up d.0 d.1 d.2
      sweep_stands came.Spent d = stands_carried p old new start (memory_stays kept.Spent (inr refl) d.0 d.1 d.2) stands
      sweep_stands came.Down d = subst (λ (x : CoreState D K). CoreStands p x start) (sym d.1) stands
      sweep_stands came.Memory d = stands_carried p old new start d.1 stands

      pub sweep_moments : (a : Swept) → Does a → is_down p old ≡ false → Within p.may_leave p.moment p.left_since p.images p.store_moment p.images_since old new (StandsAmid ttls (IsSweep kinds m was) was (history_of new start))
      sweep_moments came.Ok d up = asked_within up kept.Ok d.0 (goes up (event ∷ []) d.1.events refl) d.1.queue
      sweep_moments came.StoreFault d up = asked_within up kept.Failed d.0 (goes up [] d.2.events refl) d.1
      sweep_moments came.StoreDown d up = asked_within up kept.Down d.0 (goes up [] d.2.events refl) d.1
      sweep_moments came.Spent d up = asked_within up kept.Spent d.0 (goes up [] d.2.events refl) d.1
      sweep_moments came.Down d up = never (is_down p old) d.0 up
      sweep_moments came.Memory d up =
          nothing_within p old start sound stands up (IsSweep kinds m was) (history_of new start) (goes up [] d.1.memory.events refl) new d.1.queue d.1.store
