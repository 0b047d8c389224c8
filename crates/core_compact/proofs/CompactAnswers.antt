-- What a compaction does is what its clauses say.
use Rattle.std.proofs.Common.{IsTrue, ◌≡◌, ◌≢◌, ◌∙◌, ◌⊎◌, ◌↔◌, inl, inr, ⊎_elim, ℕ, ◌≤◌, Bool, true, false, ◌||◌, List, [], ◌++◌, map, Option, Some, None, arith, refl, sym, ap, subst}
use Rattle.supersede_core.proofs.of_plain_laws.Booleans.{not_so, never}
use Rattle.core_state.specs.fleet_ports.Counts.{Counts, RoseBy}
use Rattle.core_state.specs.fleet_rows.declared.command.Command.{Command}
use Rattle.core_state.specs.fleet_rows.declared.settings.Ttls.{Ttls}
use Rattle.core_state.specs.log_spec.declared.side.Side.{Side}
use Rattle.core_state.specs.log_pair.Pair.{disk_a, generation_of_pair}
use Rattle.core_state.specs.table_machine.Table.{Table}
use Rattle.core_state.specs.record_spec.declared.queue.QueueRecord.{QueueRecord}
use Rattle.core_state.specs.record_spec.declared.store.StoreRecord.{StoreRecord}
use Rattle.core_state.specs.record_spec.Queue.{queue_text}
use Rattle.core_state.specs.record_spec.Store.{store_text}
use Rattle.core_state.specs.fleet_keeper.declared.kept.Kept.{Kept}
use Rattle.core_state.specs.fleet_keeper.declared.kept.Kept.TheVariants as kept
use Rattle.core_state.specs.fleet_keeper.Kept.{IsFaulty}
use Rattle.core_state.specs.fleet_keeper.Limits.{ArePast}
use Rattle.core_state.specs.fleet_keeper.Records.{IsOneOf}
use Rattle.core_state.specs.core_spec.Checkpoints.{queue_checkpoint, store_checkpoint}
use Rattle.core_state.specs.core_spec.History.{History, trace_of}
use Rattle.core_state.specs.compact_laws.Records.{records_of}
use Rattle.core_state.specs.compact_laws.checkpoint_spec.Lists.{list_of}
use Rattle.core_state.specs.core_laws.StandingLaws.{IsPlain}
use Rattle.core_state.proofs.of_compact_laws.ListRecords.{lists_are_written_as_the_checkpoint}
use Rattle.core_state.proofs.of_fleet_tables.of_checkpoint_spec.ListLaws.{tables_list_the_checkpoint}
use Rattle.core_state.specs.queue_log.declared.queue.QueueLog.{QueueLog}
use Rattle.core_state.specs.queue_log.Queued.{queue_pair, queued, QueueImages, QueueIsUp, QueueSince, queue_down, queue_moment}
use Rattle.core_state.specs.declared.found.Found.{Found}
use Rattle.core_state.specs.declared.state.CoreState.{CoreState}
use Rattle.core_state.specs.Changes.{MemoryStays, CoreStays}
use Rattle.core_state.specs.Moments.{Within}
use Rattle.core_state.specs.Puts.{QueueCounts, QueueRoseTwice}
use Rattle.core_state.specs.Seen.{held_of, claimed_number, IsSubmitted}
use Rattle.core_state.specs.Spelling.{HasSpelling}
use Rattle.core_state.specs.StandsFor.{HoldsFor, StandsAt, none, history_of}
use Rattle.core_state.proofs.Carried.{same_stays, submitted_carried, holds_with, stands_carried, sound_carried, down_carried}
use Rattle.core_state.proofs.HeldEvents.{still_held}
use Rattle.core_state.proofs.Later.{same_queue_later, same_store_later}
use Rattle.core_state.proofs.Ports.{Ports}
use Rattle.core_state.proofs.SoundLists.{sound_as}
use Rattle.core_state.proofs.Spellings.{spelling_stays}
use Rattle.core_state.proofs.Standing.{BothTell, both_stand, both_anew, at, CoreStands, IsSoundCore, is_down, core_up, parts_up, up_stands, down_stands, logs_of, tell, xs, ys, logs, q_known, q_still, s_known, s_still, queue_up, store_up}
use Rattle.core_compact.specs.declared.answers.Compacted.{Compacted}
use Rattle.core_compact.specs.declared.answers.Compacted.TheVariants as came
use Rattle.core_compact.specs.Anew.{QueueAnew, StoreAnew, KeeperGoesOn}
use Rattle.core_compact.specs.Compacts.{queue_records_of, queue_records, store_records, AreCheckpoints, StoreIsNew, CompactWrites}
use Rattle.core_compact.specs.Does.{of_store, of_queue, CompactDoes, was_down, no_memory, at_store, at_queue}

-- ---- answers

store_isnt_down : (said : Kept) → of_store said ≡ came.Down → ⊥
store_isnt_down kept.Ok e = cc
store_isnt_down kept.Failed e = cc
store_isnt_down kept.Down e = cc
store_isnt_down kept.Memory e = cc
store_isnt_down kept.Spent e = cc

queue_isnt_down : (said : Kept) → of_queue said ≡ came.Down → ⊥
queue_isnt_down kept.Ok e = cc
queue_isnt_down kept.Failed e = cc
queue_isnt_down kept.Down e = cc
queue_isnt_down kept.Memory e = cc
queue_isnt_down kept.Spent e = cc

store_memory : (said : Kept) → of_store said ≡ came.Memory → said ≡ kept.Memory
store_memory kept.Ok e = absurd cc
store_memory kept.Failed e = absurd cc
store_memory kept.Down e = absurd cc
store_memory kept.Memory e = refl
store_memory kept.Spent e = absurd cc

queue_memory : (said : Kept) → of_queue said ≡ came.Memory → said ≡ kept.Memory
queue_memory kept.Ok e = absurd cc
queue_memory kept.Failed e = absurd cc
queue_memory kept.Down e = absurd cc
queue_memory kept.Memory e = refl
queue_memory kept.Spent e = absurd cc

store_spent : (said : Kept) → of_store said ≡ came.Spent → said ≡ kept.Spent
store_spent kept.Ok e = absurd cc
store_spent kept.Failed e = absurd cc
store_spent kept.Down e = absurd cc
store_spent kept.Memory e = absurd cc
store_spent kept.Spent e = refl

queue_spent : (said : Kept) → of_queue said ≡ came.Spent → said ≡ kept.Spent
queue_spent kept.Ok e = absurd cc
queue_spent kept.Failed e = absurd cc
queue_spent kept.Down e = absurd cc
queue_spent kept.Memory e = absurd cc
queue_spent kept.Spent e = refl

store_fault : (said : Kept) → IsFaulty said → of_store said ≡ came.StoreFault
store_fault kept.Ok f = absurd f
store_fault kept.Failed f = refl
store_fault kept.Down f = refl
store_fault kept.Memory f = absurd f
store_fault kept.Spent f = absurd f

store_faulty : (said : Kept) → of_store said ≡ came.StoreFault → IsFaulty said
store_faulty kept.Ok e = absurd cc
store_faulty kept.Failed e = tt
store_faulty kept.Down e = tt
store_faulty kept.Memory e = absurd cc
store_faulty kept.Spent e = absurd cc

store_no_queue_fault : (said : Kept) → of_store said ≡ came.QueueFault → ⊥
store_no_queue_fault kept.Ok e = cc
store_no_queue_fault kept.Failed e = cc
store_no_queue_fault kept.Down e = cc
store_no_queue_fault kept.Memory e = cc
store_no_queue_fault kept.Spent e = cc

queue_fault : (said : Kept) → IsFaulty said → of_queue said ≡ came.QueueFault
queue_fault kept.Ok f = absurd f
queue_fault kept.Failed f = refl
queue_fault kept.Down f = refl
queue_fault kept.Memory f = absurd f
queue_fault kept.Spent f = absurd f

queue_faulty : (said : Kept) → of_queue said ≡ came.QueueFault → IsFaulty said
queue_faulty kept.Ok e = absurd cc
queue_faulty kept.Failed e = tt
queue_faulty kept.Down e = tt
queue_faulty kept.Memory e = absurd cc
queue_faulty kept.Spent e = absurd cc

queue_no_store_fault : (said : Kept) → of_queue said ≡ came.StoreFault → ⊥
queue_no_store_fault kept.Ok e = cc
queue_no_store_fault kept.Failed e = cc
queue_no_store_fault kept.Down e = cc
queue_no_store_fault kept.Memory e = cc
queue_no_store_fault kept.Spent e = cc

-- an answer of no fault isn't Down
calm_isnt_down : (said : Kept) → (IsFaulty said → ⊥) → said ≡ kept.Down → ⊥
calm_isnt_down said calm down = calm (subst (λ (k : Kept). IsFaulty k) (sym down) tt)

module _ {D K : Type 0} (p : Ports D K) (side : K → Option Side) (old new : CoreState D K) where
  abbrev goes_on : K → K → Type 0
  goes_on = KeeperGoesOn p.store_opened p.store_within

  abbrev pub Does : Compacted → Type 0
  Does a = CompactDoes p.tells p.seen p.may_leave p.moment p.left_since p.faults p.store_tells p.kept p.images p.store_moment p.images_since p.store_up p.store_down p.store_size p.store_generation side goes_on p.store_faults a old new

  abbrev Store : Kept → Type 0
  Store said = StoreAnew p.store_tells p.kept p.images p.store_moment p.images_since p.store_up p.store_down p.store_size p.store_generation side goes_on p.store_faults said old.store new.store (store_records old)

  abbrev Queue : Kept → Type 0
  Queue said = QueueAnew p.tells p.seen p.may_leave p.moment p.left_since p.faults said old.queue new.queue (queue_records old)

  abbrev qn : List QueueRecord
  qn = queue_records old

  abbrev sn : List StoreRecord
  sn = store_records old

  -- ---- what is left

  pub compact_memory : (a : Compacted) → Does a → MemoryStays old new
  compact_memory a (was_down e down same) = (same_stays old new same).memory
  compact_memory a (no_memory e up s) = s.memory
  compact_memory a (at_store said other e up store queue m) = m
  compact_memory a (at_queue said e up store queue m) = m

  pub compact_spelling : HasSpelling old → (a : Compacted) → Does a → HasSpelling new
  compact_spelling spelling a d = spelling_stays old new (compact_memory a d).others spelling

  pub compact_submitted : (a : Compacted) → Does a → (r : ℕ) (c : Command) → IsSubmitted r c old → IsSubmitted r c new
  compact_submitted a d r c = let m = compact_memory a d in submitted_carried old new m.others.found m.events r c

  same_keeper : new.store ≡ old.store → goes_on old.store new.store
  same_keeper same = record { same_opening = ap p.store_opened same; bounds = λ since. subst (λ (k : K). p.store_within k since) (sym same) }

  pub compact_keeper : (a : Compacted) → Does a → goes_on old.store new.store
  compact_keeper a (was_down e down same) = same_keeper (ap (λ (x : CoreState D K). x.store) same)
  compact_keeper a (no_memory e up s) = same_keeper s.store
  compact_keeper a (at_store said other e up store queue m) = store.keeper
  compact_keeper a (at_queue said e up store queue m) = store.keeper

  -- ---- what is written

  abbrev Writes : Compacted → Type 0
  Writes a = CompactWrites p.tells p.store_tells p.seen p.kept p.store_down p.store_size p.store_generation side a old new

  new_store : Store kept.Ok → StoreIsNew p.store_tells p.kept p.store_size p.store_generation side old.store new.store sn
  new_store store = record { has = store.kept_all refl; size_is = store.size_is refl; generation_is = store.generation_is refl; side_is = store.side_is refl }

  store_writes : (said : Kept) → (said ≢ kept.Ok) → Store said → new.queue ≡ old.queue → Writes (of_store said)
  store_writes kept.Ok other store queue = absurd (other refl)
  store_writes kept.Failed other store queue = (record { has = λ up. store.kept_old tt; size_is = store.same_size (λ e. cc); generation_is = store.same_generation (λ e. cc); side_is = store.same_side (λ e. cc) }, queue)
  store_writes kept.Down other store queue =
      (record { has = λ up. never (p.store_down new.store) (store.down.1 refl) up; size_is = store.same_size (λ e. cc); generation_is = store.same_generation (λ e. cc); side_is = store.same_side (λ e. cc) }, queue)
  store_writes kept.Memory other store queue = (store.untouched (inl refl), queue)
  store_writes kept.Spent other store queue = (inl (store.spent refl, store.untouched (inr refl)), queue)

  queue_writes : (said : Kept) → Store kept.Ok → Queue said → Writes (of_queue said)
  queue_writes kept.Ok store queue = (new_store store, record { has = queue.queued_all refl; size_is = queue.size refl; generation_is = queue.generation refl; side_is = queue.side refl })
  queue_writes kept.Failed store queue =
      (new_store store, record { has = λ up. queue.queued_old tt; size_is = queue.same_size (λ e. cc); generation_is = queue.same_generation (λ e. cc); side_is = queue.same_side (λ e. cc) })
  queue_writes kept.Down store queue =
      (new_store store, record { has = λ up. never (queue_down new.queue) (queue.down.1 refl) up; size_is = queue.same_size (λ e. cc); generation_is = queue.same_generation (λ e. cc); side_is = queue.same_side (λ e. cc) })
  queue_writes kept.Memory store queue = absurd (queue.memory refl)
  queue_writes kept.Spent store queue = (inr (queue.spent.0 refl, new_store store), queue.untouched refl)

  pub compact_writes : (a : Compacted) → Does a → Writes a
  compact_writes a (was_down e down same) = subst Writes (sym e) (ap (λ (x : CoreState D K). x.store) same, ap (λ (x : CoreState D K). x.queue) same)
  compact_writes a (no_memory e up s) = subst Writes (sym e) (s.store, s.queue)
  compact_writes a (at_store said other e up store queue m) = subst Writes (sym e) (store_writes said other store queue)
  compact_writes a (at_queue said e up store queue m) = subst Writes (sym e) (queue_writes said store queue)

  -- ---- when each answer comes

  apart_memory : (a : Compacted) (x : Compacted) → a ≡ came.Memory → a ≡ x → (came.Memory ≡ x → ⊥) → ⊥
  apart_memory a x e is apart = apart (sym e ∙ is)

  pub compact_down : (a : Compacted) → Does a → (a ≡ came.Down) ↔ (is_down p old ≡ true)
  compact_down a (was_down e down same) = ((λ is. down), (λ t. e))
  compact_down a (no_memory e up s) = ((λ is. absurd (apart_memory a came.Down e is (λ x. cc))), (λ t. never (is_down p old) t up))
  compact_down a (at_store said other e up store queue m) = ((λ is. absurd (store_isnt_down said (sym e ∙ is))), (λ t. never (is_down p old) t up))
  compact_down a (at_queue said e up store queue m) = ((λ is. absurd (queue_isnt_down said (sym e ∙ is))), (λ t. never (is_down p old) t up))

  pub compact_unchanged : (a : Compacted) → Does a → a ≡ came.Down → new ≡ old
  compact_unchanged a (was_down e down same) is = same
  compact_unchanged a (no_memory e up s) is = absurd (apart_memory a came.Down e is (λ x. cc))
  compact_unchanged a (at_store said other e up store queue m) is = absurd (store_isnt_down said (sym e ∙ is))
  compact_unchanged a (at_queue said e up store queue m) is = absurd (queue_isnt_down said (sym e ∙ is))

  apart_down : (a : Compacted) (x : Compacted) → a ≡ came.Down → a ≡ x → (came.Down ≡ x → ⊥) → ⊥
  apart_down a x e is apart = apart (sym e ∙ is)

  pub compact_stays : (a : Compacted) → Does a → a ≡ came.Memory → CoreStays old new
  compact_stays a (was_down e down same) is = same_stays old new same
  compact_stays a (no_memory e up s) is = s
  compact_stays a (at_store said other e up store queue m) is = record { memory = m; queue = queue; store = store.untouched (inl (store_memory said (sym e ∙ is))) }
  compact_stays a (at_queue said e up store queue m) is = absurd (queue.memory (queue_memory said (sym e ∙ is)))

  abbrev StorePast : Type 0
  StorePast = ArePast (p.store_generation old.store) (map store_text sn)

  abbrev QueuePast : Type 0
  QueuePast = ArePast (generation_of_pair (queue_pair old.queue)) (map queue_text qn)

  pub compact_spent : (a : Compacted) → Does a → a ≡ came.Spent → StorePast ⊎ QueuePast
  compact_spent a (was_down e down same) is = absurd (apart_down a came.Spent e is (λ x. cc))
  compact_spent a (no_memory e up s) is = absurd (apart_memory a came.Spent e is (λ x. cc))
  compact_spent a (at_store said other e up store queue m) is = inl (store.spent (store_spent said (sym e ∙ is)))
  compact_spent a (at_queue said e up store queue m) is = inr (queue.spent.0 (queue_spent said (sym e ∙ is)))

  pub compact_store_unspent : (a : Compacted) → Does a → is_down p old ≡ false → StorePast → (a ≡ came.Spent) ⊎ (a ≡ came.Memory)
  compact_store_unspent a (was_down e down same) up past = never (is_down p old) down up
  compact_store_unspent a (no_memory e u s) up past = inr e
  compact_store_unspent a (at_store said other e u store queue m) up past = ⊎_elim (λ is. inl (e ∙ ap of_store is)) (λ is. inr (e ∙ ap of_store is)) (store.unspent past)
  compact_store_unspent a (at_queue said e u store queue m) up past = ⊎_elim (λ is. absurd (let apart : kept.Ok ≡ kept.Spent = is in cc)) (λ is. absurd (let apart : kept.Ok ≡ kept.Memory = is in cc)) (store.unspent past)

  abbrev SpentLater : Compacted → Type 0
  SpentLater a = (a ≡ came.Spent) ⊎ (a ≡ came.Memory) ⊎ (a ≡ came.StoreFault)

  spent_later : (said : Kept) → (said ≢ kept.Ok) → SpentLater (of_store said)
  spent_later kept.Ok other = absurd (other refl)
  spent_later kept.Failed other = inr (inr refl)
  spent_later kept.Down other = inr (inr refl)
  spent_later kept.Memory other = inr (inl refl)
  spent_later kept.Spent other = inl refl

  pub compact_queue_unspent : (a : Compacted) → Does a → is_down p old ≡ false → QueuePast → SpentLater a
  compact_queue_unspent a (was_down e down same) up past = never (is_down p old) down up
  compact_queue_unspent a (no_memory e u s) up past = inr (inl e)
  compact_queue_unspent a (at_store said other e u store queue m) up past = subst SpentLater (sym e) (spent_later said other)
  compact_queue_unspent a (at_queue said e u store queue m) up past = inl (e ∙ ap of_queue (queue.spent.1 past))

  -- ---- counts

  calm_count : {Fault : Type 0} → (Fault → ⊥) → new.store ≡ old.store → Counts (p.store_faults old.store) (p.store_faults new.store) Fault
  calm_count {Fault} none_is same = let counts = ap p.store_faults same in record { later = omega (arith, counts); cause = λ f. absurd (none_is f); calm = λ f. counts }

  kept_count : {Fault : Type 0} (said : Kept) → (IsFaulty said → Fault) → (Fault → IsFaulty said) → Store said → Counts (p.store_faults old.store) (p.store_faults new.store) Fault
  kept_count {Fault} said to from store = record { later = store.cause.later; cause = λ f. store.cause.cause (from f); calm = λ none_is. store.cause.calm (λ f. none_is (to f)) }

  pub compact_store_cause : (a : Compacted) → Does a → Counts (p.store_faults old.store) (p.store_faults new.store) (a ≡ came.StoreFault)
  compact_store_cause a (was_down e down same) = calm_count (λ is. apart_down a came.StoreFault e is (λ x. cc)) (ap (λ (x : CoreState D K). x.store) same)
  compact_store_cause a (no_memory e up s) = calm_count (λ is. apart_memory a came.StoreFault e is (λ x. cc)) s.store
  compact_store_cause a (at_store said other e up store queue m) = kept_count said (λ f. e ∙ store_fault said f) (λ is. store_faulty said (sym e ∙ is)) store
  compact_store_cause a (at_queue said e up store queue m) = kept_count kept.Ok (λ f. absurd f) (λ is. absurd (queue_no_store_fault said (sym e ∙ is))) store

  queue_calm : (Fault : Type 0) → (Fault → ⊥) → new.queue ≡ old.queue → QueueCounts p.faults old.queue new.queue Fault
  queue_calm Fault none_is same =
      subst (λ (q : QueueLog D). QueueCounts p.faults old.queue q Fault) (sym same) (record { later_a = omega arith; later_b = omega arith; cause = λ fault. absurd (none_is fault); calm = λ f. (refl, refl) })

  pub compact_queue_cause : (a : Compacted) → Does a → QueueCounts p.faults old.queue new.queue (a ≡ came.QueueFault)
  compact_queue_cause a (was_down e down same) = queue_calm (a ≡ came.QueueFault) (λ is. apart_down a came.QueueFault e is (λ x. cc)) (ap (λ (x : CoreState D K). x.queue) same)
  compact_queue_cause a (no_memory e up s) = queue_calm (a ≡ came.QueueFault) (λ is. apart_memory a came.QueueFault e is (λ x. cc)) s.queue
  compact_queue_cause a (at_store said other e up store queue m) = queue_calm (a ≡ came.QueueFault) (λ is. store_no_queue_fault said (sym e ∙ is)) queue
  compact_queue_cause a (at_queue said e up store queue m) = record {
    later_a = queue.cause.later_a;
    later_b = queue.cause.later_b;
    cause = λ is. queue.cause.cause (queue_faulty said (sym e ∙ is));
    calm = λ none_is. queue.cause.calm (λ f. none_is (e ∙ queue_fault said f));
  }

  same_store_up : is_down p old ≡ false → new.store ≡ old.store → p.store_down new.store ≡ false
  same_store_up up same = ap p.store_down same ∙ (core_up p old up).store

  same_queue_up : is_down p old ≡ false → new.queue ≡ old.queue → queue_down new.queue ≡ false
  same_queue_up up same = ap queue_down same ∙ (core_up p old up).queue

  pub compact_store_twice : (a : Compacted) → Does a → is_down p old ≡ false → p.store_down new.store ≡ true → RoseBy 2 (p.store_faults old.store) (p.store_faults new.store)
  compact_store_twice a (was_down e down same) up t = never (is_down p old) down up
  compact_store_twice a (no_memory e u s) up t = never (p.store_down new.store) t (same_store_up up s.store)
  compact_store_twice a (at_store said other e u store queue m) up t = store.twice (store.down.0 t)
  compact_store_twice a (at_queue said e u store queue m) up t = store.twice (store.down.0 t)

  pub compact_queue_twice : (a : Compacted) → Does a → is_down p old ≡ false → queue_down new.queue ≡ true → QueueRoseTwice p.faults old.queue new.queue
  compact_queue_twice a (was_down e down same) up t = never (is_down p old) down up
  compact_queue_twice a (no_memory e u s) up t = never (queue_down new.queue) t (same_queue_up up s.queue)
  compact_queue_twice a (at_store said other e u store queue m) up t = never (queue_down new.queue) t (same_queue_up up queue)
  compact_queue_twice a (at_queue said e u store queue m) up t = queue.twice (queue.down.0 t)

  pub compact_store_goes : (a : Compacted) → Does a → is_down p old ≡ false → p.store_down new.store ≡ true → a ≡ came.StoreFault
  compact_store_goes a (was_down e down same) up t = never (is_down p old) down up
  compact_store_goes a (no_memory e u s) up t = never (p.store_down new.store) t (same_store_up up s.store)
  compact_store_goes a (at_store said other e u store queue m) up t = e ∙ ap of_store (store.down.0 t)
  compact_store_goes a (at_queue said e u store queue m) up t = (let apart : kept.Ok ≡ kept.Down = store.down.0 t in absurd cc)

  pub compact_queue_goes : (a : Compacted) → Does a → is_down p old ≡ false → queue_down new.queue ≡ true → a ≡ came.QueueFault
  compact_queue_goes a (was_down e down same) up t = never (is_down p old) down up
  compact_queue_goes a (no_memory e u s) up t = never (queue_down new.queue) t (same_queue_up up s.queue)
  compact_queue_goes a (at_store said other e u store queue m) up t = never (queue_down new.queue) t (same_queue_up up queue)
  compact_queue_goes a (at_queue said e u store queue m) up t = e ∙ ap of_queue (queue.down.0 t)

  store_still : (said : Kept) → (said ≡ kept.Down → ⊥) → Store said → p.store_down new.store ≡ false
  store_still said other store = not_so (p.store_down new.store) (λ t. other (store.down.0 t))

  queue_still : (said : Kept) → (said ≡ kept.Down → ⊥) → Queue said → queue_down new.queue ≡ false
  queue_still said other queue = not_so (queue_down new.queue) (λ t. other (queue.down.0 t))

  stays_up : is_down p old ≡ false → MemoryStays old new → queue_down new.queue ≡ false → p.store_down new.store ≡ false → is_down p new ≡ is_down p old
  stays_up up m queue store =
      parts_up new.undone (queue_down new.queue) (p.store_down new.store) (record { done = m.others.undone ∙ (core_up p old up).done; queue = queue; store = store }) ∙ sym up

  pub compact_up : (a : Compacted) → Does a → (a ≡ came.StoreFault → ⊥) → (a ≡ came.QueueFault → ⊥) → is_down p new ≡ is_down p old
  compact_up a (was_down e down same) s_none q_none = ap (is_down p) same
  compact_up a (no_memory e up s) s_none q_none = down_carried p old new [] s
  compact_up a (at_store said other e up store queue m) s_none q_none =
      stays_up up m (same_queue_up up queue) (store_still said (calm_isnt_down said (λ f. s_none (e ∙ store_fault said f))) store)
  compact_up a (at_queue said e up store queue m) s_none q_none =
      stays_up up m (queue_still said (calm_isnt_down said (λ f. q_none (e ∙ queue_fault said f))) queue) (store_still kept.Ok (λ x. cc) store)

  -- ---- it is sound then

  module _ (sound : IsSoundCore p old) where
    queue_so : new.queue ≡ old.queue → queue_down new.queue ≡ false → QueueIsUp p.seen p.may_leave new.queue
    queue_so same up = subst (QueueIsUp p.seen p.may_leave) (sym same) (sound.queue (ap queue_down (sym same) ∙ up))

    queue_again : (said : Kept) → Queue said → queue_down new.queue ≡ false → QueueIsUp p.seen p.may_leave new.queue
    queue_again said queue up = queue.again (λ e. never (queue_down new.queue) (queue.down.1 e) up)

    store_again : (said : Kept) → Store said → p.store_down new.store ≡ false → p.store_up new.store
    store_again said store up = store.again (λ e. never (p.store_down new.store) (store.down.1 e) up)

    held_sound : (queue_down new.queue ≡ false → QueueIsUp p.seen p.may_leave new.queue) → (p.store_down new.store ≡ false → p.store_up new.store) → MemoryStays old new → IsSoundCore p new
    held_sound queue store m = record {
      queue = queue;
      store = store;
      pending = sound_as old.last new.last old.found.queue.value new.found.queue.value old.events.list new.events.list old.pending new.pending m.last (ap (λ (f : Found). f.queue.value) m.others.found) m.events m.pending sound.pending;
      room = (let same = ap claimed_number m.pending in omega (arith, same, m.room, sound.room));
    }

    pub compact_sound : (a : Compacted) → Does a → IsSoundCore p new
    compact_sound a (was_down e down same) = subst (IsSoundCore p) (sym same) sound
    compact_sound a (no_memory e up s) = sound_carried p old new [] s sound
    compact_sound a (at_store said other e up store queue m) = held_sound (queue_so queue) (store_again said store) m
    compact_sound a (at_queue said e up store queue m) = held_sound (queue_again said queue) (store_again kept.Ok store) m

    -- ---- what it stands for

    module _ (start : History) (stands : CoreStands p old start) where
      abbrev was : History
      was = history_of old start

      abbrev ttls : Ttls
      ttls = old.tables.ttls

      abbrev plain : IsPlain ttls was
      plain = stands.holds.says.plain

      queue_is : qn ≡ queue_checkpoint was
      queue_is = let says = stands.holds.says in λ i. queue_records_of (says.last i) (says.pending i) (says.dead i)

      store_is : sn ≡ store_checkpoint ttls None (trace_of was)
      store_is =
          let tables = stands.holds.says.tables in
          ap (λ (t : Table). records_of None (list_of t)) tables.1
          ∙ ap (records_of None) (tables_list_the_checkpoint ttls (trace_of was) tables.0)
          ∙ lists_are_written_as_the_checkpoint ttls None (trace_of was) tables.0

      pub compact_checkpoints : AreCheckpoints old was
      compact_checkpoints = record { queue = queue_is; store = store_is }

      module _ (up : is_down p old ≡ false) where
        abbrev q_old : List QueueRecord
        q_old = xs p old start sound stands up

        abbrev s_old : List StoreRecord
        s_old = ys p old start sound stands up

        abbrev both_old : BothTell ttls q_old s_old was
        both_old = tell p old start sound stands up

        both_new : BothTell ttls qn sn was
        both_new =
            subst (λ (qs : List QueueRecord). BothTell ttls qs sn was) (sym queue_is)
            (subst (λ (ss : List StoreRecord). BothTell ttls (queue_checkpoint was) ss was) (sym store_is) (both_anew ttls q_old s_old was plain both_old))

        store_new : BothTell ttls q_old sn was
        store_new = record { queue = both_old.queue; log = both_old.log; store = both_new.store }

        -- each of the two logs has what it had or begins anew, the queue's where the store's does
        stand_old : (q : Option (List QueueRecord)) (s : Option (List StoreRecord)) → q ≡ Some q_old → s ≡ Some s_old → StandsAt ttls q s was
        stand_old q s q_is s_is = at ttls q s q_old s_old was q_is s_is (both_stand ttls q_old s_old was plain both_old)

        stand_store : (q : Option (List QueueRecord)) (s : Option (List StoreRecord)) → q ≡ Some q_old → s ≡ Some sn → StandsAt ttls q s was
        stand_store q s q_is s_is = at ttls q s q_old sn was q_is s_is (both_stand ttls q_old sn was plain store_new)

        stand_new : (q : Option (List QueueRecord)) (s : Option (List StoreRecord)) → q ≡ Some qn → s ≡ Some sn → StandsAt ttls q s was
        stand_new q s q_is s_is = at ttls q s qn sn was q_is s_is (both_stand ttls qn sn was plain both_new)

        -- the images of each
        q_as_old : (q : Option (List QueueRecord)) → QueueImages p.may_leave old.queue q → q ≡ Some q_old
        q_as_old = q_known p old was (queue_up p old start sound stands up) (store_up p old start sound stands up) (logs p old start sound stands up)

        q_as_still : (q : Option (List QueueRecord)) → QueueSince p.left_since old.queue (queue_moment p.moment old.queue) q → q ≡ Some q_old
        q_as_still = q_still p old was (queue_up p old start sound stands up) (store_up p old start sound stands up) (logs p old start sound stands up)

        s_as_old : (s : Option (List StoreRecord)) → p.images old.store s → s ≡ Some s_old
        s_as_old = s_known p old was (queue_up p old start sound stands up) (store_up p old start sound stands up) (logs p old start sound stands up)

        s_as_still : (s : Option (List StoreRecord)) → p.images_since old.store (p.store_moment old.store) s → s ≡ Some s_old
        s_as_still = s_still p old was (queue_up p old start sound stands up) (store_up p old start sound stands up) (logs p old start sound stands up)

        queue_told : IsTrue p.tells → (q : Option (List QueueRecord)) → IsOneOf (queued p.seen old.queue) (Some qn) q → (q ≡ Some q_old) ⊎ (q ≡ Some qn)
        queue_told told q one = ⊎_elim (λ is. inl (is ∙ (logs p old start sound stands up).queue_is told)) (λ is. inr is) one

        store_told : IsTrue p.store_tells → (s : Option (List StoreRecord)) → IsOneOf (p.kept old.store) (Some sn) s → (s ≡ Some s_old) ⊎ (s ≡ Some sn)
        store_told told s one = ⊎_elim (λ is. inl (is ∙ (logs p old start sound stands up).store_is told)) (λ is. inr is) one

        q_either : (said : Kept) → Queue said → (q : Option (List QueueRecord)) → QueueImages p.may_leave new.queue q → (q ≡ Some q_old) ⊎ (q ≡ Some qn)
        q_either said queue q image = queue_told (p.told (disk_a (queue_pair new.queue)) image.0 image.2) q (queue.each q image)

        q_within : (said : Kept) → Queue said → (q : Option (List QueueRecord)) → QueueSince p.left_since new.queue (queue_moment p.moment old.queue) q → (q ≡ Some q_old) ⊎ (q ≡ Some qn)
        q_within said queue q since = queue_told (p.told_since (disk_a (queue_pair new.queue)) (queue_moment p.moment old.queue).0 since.0 since.2) q (queue.any_moment q since)

        s_either : (said : Kept) → Store said → (s : Option (List StoreRecord)) → p.images new.store s → (s ≡ Some s_old) ⊎ (s ≡ Some sn)
        s_either said store s image = store_told (p.store_told new.store s image) s (store.each s image)

        s_within : (said : Kept) → Store said → (s : Option (List StoreRecord)) → p.images_since new.store (p.store_moment old.store) s → (s ≡ Some s_old) ⊎ (s ≡ Some sn)
        s_within said store s since = store_told (p.store_told_since new.store (p.store_moment old.store) s since) s (store.any_moment s since)

        -- the store's log either way, with the queue's as it was
        store_stands : (q : Option (List QueueRecord)) (s : Option (List StoreRecord)) → q ≡ Some q_old → (s ≡ Some s_old) ⊎ (s ≡ Some sn) → StandsAt ttls q s was
        store_stands q s q_is either = ⊎_elim (λ s_is. stand_old q s q_is s_is) (λ s_is. stand_store q s q_is s_is) either

        -- the queue's either way, with the store's anew
        queue_stands : (q : Option (List QueueRecord)) (s : Option (List StoreRecord)) → s ≡ Some sn → (q ≡ Some q_old) ⊎ (q ≡ Some qn) → StandsAt ttls q s was
        queue_stands q s s_is either = ⊎_elim (λ q_is. stand_store q s q_is s_is) (λ q_is. stand_new q s q_is s_is) either

        abbrev Meanwhile : Type 0
        Meanwhile = Within p.may_leave p.moment p.left_since p.images p.store_moment p.images_since old new (λ q s. StandsAt ttls q s was)

        pub silent_within : new.queue ≡ old.queue → new.store ≡ old.store → Meanwhile
        silent_within queue store = record {
          later_queue = same_queue_later p old new queue;
          later_store = same_store_later p old new store;
          store_first = λ q s image since. stand_old q s (q_as_old q image) (s_as_still s (subst (λ (k : K). p.images_since k (p.store_moment old.store) s) store since));
          then_queue = λ q s since image.
              stand_old q s (q_as_still q (subst (λ (l : QueueLog D). QueueSince p.left_since l (queue_moment p.moment old.queue) q) queue since)) (s_as_old s (subst (λ (k : K). p.images k s) store image));
        }

        pub store_meanwhile : (said : Kept) → Store said → new.queue ≡ old.queue → Meanwhile
        store_meanwhile said store queue = record {
          later_queue = same_queue_later p old new queue;
          later_store = store.later;
          store_first = λ q s image since. store_stands q s (q_as_old q image) (s_within said store s since);
          then_queue = λ q s since image.
              store_stands q s (q_as_still q (subst (λ (l : QueueLog D). QueueSince p.left_since l (queue_moment p.moment old.queue) q) queue since)) (s_either said store s image);
        }

        pub both_meanwhile : (said : Kept) → Store kept.Ok → Queue said → Meanwhile
        both_meanwhile said store queue = record {
          later_queue = queue.later;
          later_store = store.later;
          store_first = λ q s image since. store_stands q s (q_as_old q image) (s_within kept.Ok store s since);
          then_queue = λ q s since image. queue_stands q s (store.all_new refl s image) (q_within said queue q since);
        }

        -- ---- at the end

        at_end : MemoryStays old new → history_of new start ≡ was
        at_end m = ap (λ (g : History). g ++ start) m.events

        lifetimes : MemoryStays old new → new.tables.ttls ≡ ttls
        lifetimes m = ap (λ (t : Table). t.ttls) m.others.tables

        held_later : MemoryStays old new → p.store_faults old.store ≤ p.store_faults new.store → HoldsFor (held_of new) (p.store_faults new.store) start
        held_later m later =
            holds_with p old new start was m.others stands.holds (at_end m)
            (still_held (held_of old) (held_of new) (p.store_faults old.store) (p.store_faults new.store) was later m.others.tables m.pending m.others.dead m.last stands.holds.says)

        -- both logs are up, with these records
        up_with : (qs : List QueueRecord) (ss : List StoreRecord) → BothTell ttls qs ss was → MemoryStays old new → p.store_faults old.store ≤ p.store_faults new.store
            → QueueIsUp p.seen p.may_leave new.queue → p.store_up new.store → (IsTrue p.tells → queued p.seen new.queue ≡ Some qs) → (IsTrue p.store_tells → p.kept new.store ≡ Some ss) → CoreStands p new start
        up_with qs ss both m later q_up s_up q_is s_is =
            up_stands p new start q_up s_up (held_later m later)
            (logs_of p new qs ss (history_of new start) ttls (lifetimes m) (subst (BothTell ttls qs ss) (sym (at_end m)) both) q_is s_is)

        -- one is down, and each image of both stands for the history
        down_with : MemoryStays old new → p.store_faults old.store ≤ p.store_faults new.store → is_down p new ≡ true
            → ((q : Option (List QueueRecord)) (s : Option (List StoreRecord)) → QueueImages p.may_leave new.queue q → p.images new.store s → StandsAt ttls q s was) → CoreStands p new start
        down_with m later down each =
            down_stands p new start down (held_later m later) [] (none refl)
            (λ q s q_image s_image. inl
            (subst (λ (ts : Ttls). StandsAt ts q s (history_of new start)) (sym (lifetimes m))
            (subst (λ (g : History). StandsAt ttls q s g) (sym (at_end m)) (each q s q_image s_image))))

        store_went : p.store_down new.store ≡ true → is_down p new ≡ true
        store_went t = rw t (either new.undone (queue_down new.queue))
          where
            either : (a b : Bool) → (a || (b || true)) ≡ true
            either true b = refl
            either false true = refl
            either false false = refl

        queue_went : queue_down new.queue ≡ true → is_down p new ≡ true
        queue_went t = rw t (either new.undone)
          where
            either : (a : Bool) → (a || true) ≡ true
            either true = refl
            either false = refl

        old_queue : new.queue ≡ old.queue → IsTrue p.tells → queued p.seen new.queue ≡ Some q_old
        old_queue queue told = ap (queued p.seen) queue ∙ (logs p old start sound stands up).queue_is told

        old_up : new.queue ≡ old.queue → QueueIsUp p.seen p.may_leave new.queue
        old_up queue = queue_so queue (same_queue_up up queue)

        store_ends : (said : Kept) → (said ≢ kept.Ok) → Store said → new.queue ≡ old.queue → MemoryStays old new → CoreStands p new start
        store_ends kept.Ok other store queue m = absurd (other refl)
        store_ends kept.Failed other store queue m =
            up_with q_old s_old both_old m store.cause.later (old_up queue) (store.again (λ e. cc)) (old_queue queue) (λ told. store.kept_old tt told ∙ (logs p old start sound stands up).store_is told)
        store_ends kept.Down other store queue m =
            down_with m store.cause.later (store_went (store.down.1 refl))
            (λ q s q_image s_image. store_stands q s (q_as_old q (subst (λ (l : QueueLog D). QueueImages p.may_leave l q) queue q_image)) (s_either kept.Down store s s_image))
        store_ends kept.Memory other store queue m =
            up_with q_old s_old both_old m store.cause.later (old_up queue) (store.again (λ e. cc)) (old_queue queue) (λ told. store.kept_old tt told ∙ (logs p old start sound stands up).store_is told)
        store_ends kept.Spent other store queue m =
            up_with q_old s_old both_old m store.cause.later (old_up queue) (store.again (λ e. cc)) (old_queue queue) (λ told. store.kept_old tt told ∙ (logs p old start sound stands up).store_is told)

        queue_ends : (said : Kept) → Store kept.Ok → Queue said → MemoryStays old new → CoreStands p new start
        queue_ends kept.Ok store queue m =
            up_with qn sn both_new m store.cause.later (queue.again (λ e. cc)) (store.again (λ e. cc)) (queue.queued_all refl) (store.kept_all refl)
        queue_ends kept.Failed store queue m =
            up_with q_old sn store_new m store.cause.later (queue.again (λ e. cc)) (store.again (λ e. cc)) (λ told. queue.queued_old tt told ∙ (logs p old start sound stands up).queue_is told) (store.kept_all refl)
        queue_ends kept.Down store queue m =
            down_with m store.cause.later (queue_went (queue.down.1 refl)) (λ q s q_image s_image. queue_stands q s (store.all_new refl s s_image) (q_either kept.Down queue q q_image))
        queue_ends kept.Memory store queue m = absurd (queue.memory refl)
        queue_ends kept.Spent store queue m =
            up_with q_old sn store_new m store.cause.later (queue.again (λ e. cc)) (store.again (λ e. cc)) (λ told. queue.queued_old tt told ∙ (logs p old start sound stands up).queue_is told) (store.kept_all refl)

      pub compact_stands : (a : Compacted) → Does a → CoreStands p new start
      compact_stands a (was_down e down same) = subst (λ (x : CoreState D K). CoreStands p x start) (sym same) stands
      compact_stands a (no_memory e up s) = stands_carried p old new start s stands
      compact_stands a (at_store said other e up store queue m) = store_ends up said other store queue m
      compact_stands a (at_queue said e up store queue m) = queue_ends up said store queue m

      pub compact_moments : (a : Compacted) → Does a → is_down p old ≡ false
          → Within p.may_leave p.moment p.left_since p.images p.store_moment p.images_since old new (λ q s. StandsAt ttls q s was)
      compact_moments a (was_down e down same) up = never (is_down p old) down up
      compact_moments a (no_memory e u s) up = silent_within up s.queue s.store
      compact_moments a (at_store said other e u store queue m) up = store_meanwhile up said store queue
      compact_moments a (at_queue said e u store queue m) up = both_meanwhile up said store queue
