-- A core is made of two logs and of what their records lead to.
use Rattle.std.proofs.Common.{◌≡◌, ◌∙◌, inl, inr, ℕ, ◌==◌, ◌||◌, List, [], ◌∷◌, map, arith, refl, sym, ap, subst, Bool, true, false, Option, Some, None}
use Rattle.std.specs.List.{AllByRecursion}
use Rattle.ttl_sweeps.proofs.of_plain_laws.Members.{Among, Contains-from_Among}
use Rattle.core_state.specs.record_spec.declared.queue.QueueRecord.{QueueRecord}
use Rattle.core_state.specs.record_spec.declared.store.StoreRecord.{StoreRecord}
use Rattle.core_state.specs.record_spec.Queue.{IsQueueRecord}
use Rattle.core_state.specs.core_spec.declared.entry.Entry.{Entry}
use Rattle.core_state.specs.core_spec.declared.event.Event.TheVariants.{Restart}
use Rattle.core_state.specs.core_spec.Damage.{IsQueueLog, IsStoreLog}
use Rattle.core_state.specs.core_spec.Stands.{last_taken}
use Rattle.core_state.specs.core_laws.Replay.{pending_after, dead_after, last_after}
use Rattle.core_state.specs.compact_laws.Lawful.{IsLawfulTable}
use Rattle.core_state.specs.table_machine.Table.{Table}
use Rattle.core_state.specs.supersede_core.Waiting.{stands}
use Rattle.core_opening.specs.declared.fill.Filled.{Filled}
use Rattle.core_opening.specs.declared.reading.Reading.{Reading}
use Rattle.core_opening.specs.Filled.{IsFilled}
use Rattle.core_opening.specs.Replayed.{IsReading}
use Rattle.core_opening.specs.Opened.{LogCore, found_queue, found_store, HasQueue, HasStore, TellsMissing, IsLacking, IsGreatest, IsReady}
use Rattle.core_opening.proofs.Fronts.{never}
use Rattle.core_opening.proofs.Mends.{lacking_stands}

stands_step : (b : Bool) (r : ℕ) (e : Entry) (es : List Entry) → (r == e.receipt) ≡ b → (b || stands r es) ≡ true → (stands r es ≡ true → Among r (map (λ (x : Entry). x.receipt) es)) → Among r (map (λ (x : Entry). x.receipt) (e ∷ es))
stands_step true r e es same h next = inl (grind (arith, same))
stands_step false r e es other h next = inr (next h)

stands_mapped : (r : ℕ) (es : List Entry) → stands r es ≡ true → Among r (map (λ (x : Entry). x.receipt) es)
stands_mapped r [] h = never h
stands_mapped r (e ∷ es) h = stands_step (r == e.receipt) r e es refl h (stands_mapped r es)

lacking_tells : (qs : List QueueRecord) (ss : List StoreRecord) (missing : Option ℕ) → IsLacking (last_taken ss) (pending_after qs []) missing → TellsMissing missing qs ss
lacking_tells qs ss None none = λ r lacks. none r lacks.0 (lacking_stands qs ss r lacks)
lacking_tells qs ss (Some r) is = (is.0, Contains-from_Among _ r (stands_mapped r (pending_after qs []) is.1))

module _ {D : Type 0} (told : Bool) (seen : D → List ℕ) (may_leave : D → List ℕ → Type 0) (core : LogCore D) (reading : Reading) (filled : Filled) (missing : Option ℕ) where
  pub assembled : found_queue core ≡ reading.found.value → HasQueue told seen may_leave core.queue reading.found.value → IsReading reading → IsQueueLog reading.found.value → HasStore told seen may_leave core.store (found_store core) → IsFilled filled (found_store core)
      → IsStoreLog (found_store core) → core.pending ≡ reading.pending → core.discards.list ≡ reading.discards.list → core.tables ≡ filled.tables → core.events.list ≡ Restart ∷ [] → core.undone ≡ false
      → IsGreatest reading.last reading.pending core.last → IsLacking filled.taken reading.pending missing → IsReady told seen may_leave core missing
  assembled same queue is log store fill store_log pending dead tables events undone greatest lacking =
      let back = sym same in
      record {
        holds = record {
          lawful = subst (AllByRecursion IsQueueRecord) back is.lawful;
          queue_log = subst IsQueueLog back log;
          store_log = store_log;
          pending = pending ∙ is.pending ∙ ap (λ (xs : List QueueRecord). pending_after xs []) back;
          dead = dead ∙ is.discards ∙ ap (λ (xs : List QueueRecord). dead_after xs [] []) back;
          last = subst (λ (xs : List QueueRecord). IsGreatest (last_after xs 0) (pending_after xs []) core.last) back
              (subst (λ (n : ℕ). IsGreatest n (pending_after reading.found.value []) core.last) is.last (subst (λ (es : List Entry). IsGreatest reading.last es core.last) is.pending greatest));
          ttls = fill.ttls;
          rest = fill.rest;
          first = fill.first;
          tables = tables ∙ fill.tables;
          lawful_tables = subst (λ (t : Table). IsLawfulTable t) (sym tables) fill.lawful;
          events = events;
          undone = undone;
        };
        queue = subst (HasQueue told seen may_leave core.queue) back queue;
        store = store;
        tells = lacking_tells (found_queue core) (found_store core) missing
            (subst (λ (xs : List QueueRecord). IsLacking (last_taken (found_store core)) (pending_after xs []) missing) back
            (subst (λ (t : Option ℕ). IsLacking t (pending_after reading.found.value []) missing) fill.taken (subst (λ (es : List Entry). IsLacking filled.taken es missing) is.pending lacking)));
      }
