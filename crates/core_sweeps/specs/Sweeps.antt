-- What a sweep does.
use Rattle.std.specs.Prelude.{◌≡◌, ℕ, ℤ, ◌+◌, ◌≤◌, Bool, true, false, List, [], ◌∷◌, length, Option, IsTrue}
use Rattle.core_state.specs.fleet_keeper.declared.keeper.Keeper as keeper
use Rattle.core_state.specs.fleet_rows.declared.settings.Kinds.{Kinds}
use Rattle.ttl_sweeps.specs.history_spec.Trace.{Trace, swept}
use Rattle.core_state.specs.table_machine.Steps as steps
use Rattle.core_state.specs.fleet_tables.Stands.{Stands}
use Rattle.core_state.specs.record_spec.declared.store.StoreRecord.{StoreRecord}
use Rattle.core_state.specs.record_spec.declared.store.StoreRecord.TheVariants as store
use Rattle.core_state.specs.record_spec.Store.{store_text}
use Rattle.core_state.specs.log_spec.Limits.{most_log}
use Rattle.core_state.specs.fleet_keeper.declared.kept.Kept.{Kept}
use Rattle.core_state.specs.fleet_keeper.declared.kept.Kept.TheVariants as kept
use Rattle.core_state.specs.fleet_keeper.Records.{with_one}
use Rattle.core_state.specs.core_spec.declared.event.Event.TheVariants.{Sweep}
use Rattle.core_state.specs.core_spec.History.{History}
use Rattle.core_state.specs.declared.state.CoreState.{CoreState}
use Rattle.core_state.specs.Changes.{MemoryStays, CoreStays}
use Rattle.core_state.specs.Puts.{HasKept, StoreStays}
use Rattle.core_state.specs.Seen.{down_of}
use Rattle.core_sweeps.specs.declared.answers.Swept.{Swept}
use Rattle.core_sweeps.specs.declared.answers.Swept.TheVariants as came

-- the events of an answer
abbrev pub SweepAdds : Swept → Kinds → ℤ → History → History → Type 0
SweepAdds came.Ok kinds m old new = new ≡ Sweep kinds m ∷ old
SweepAdds _ kinds m old new = new ≡ old

-- the event of the record being written, after the history before
abbrev pub IsSweep : Kinds → ℤ → History → History → History → Type 0
IsSweep kinds m before upto begun = (upto ≡ before) × (begun ≡ Sweep kinds m ∷ [])

-- After Ok the store has the sweep at its end. Its log grew by the frame, and has at most 2^62 bytes. After any other answer the
-- log's size is unchanged, and so are its records, if the store isn't down.
abbrev pub SweepWrites : {K : Type 0} → Bool → (K → Option (List StoreRecord)) → (K → Bool) → (K → ℕ) → Swept → Kinds → ℤ → K → K → Type 0
SweepWrites tells kept_in down size came.Ok kinds m old new =
    (size new ≡ size old + 5 + length (store_text (store.Swept kinds m))) × (IsTrue tells → kept_in new ≡ with_one (kept_in old) (store.Swept kinds m)) × (size new ≤ most_log)
SweepWrites tells kept_in down size _ kinds m old new = (size new ≡ size old) × (down new ≡ false → IsTrue tells → kept_in new ≡ kept_in old)

-- the same, with the ghosts of the trait as one value
abbrev pub StoreIsSwept : {K : Type 0} → keeper.Ghosts K → Swept → Kinds → ℤ → K → K → Type 0
StoreIsSwept k = SweepWrites k.is_told k.kept k.down k.size

-- the refusals that leave everything unchanged
abbrev pub IsCalm : Swept → Type 0
IsCalm came.Spent = Unit {0}
IsCalm came.Down = Unit {0}
IsCalm came.Memory = Unit {0}
IsCalm _ = ⊥

abbrev pub IsStoreFault : Swept → Type 0
IsStoreFault came.StoreFault = Unit {0}
IsStoreFault came.StoreDown = Unit {0}
IsStoreFault _ = ⊥

-- the tables are swept
pub record HasSwept {D K : Type 0} (kinds : Kinds) (m : ℤ) (old new : CoreState D K) : Type 0 where
  pub queue : new.queue ≡ old.queue
  pub tables : new.tables ≡ steps.sweep kinds m old.tables
  pub stands : (trace : Trace) → Stands old.tables trace → Stands new.tables (swept kinds m ∷ trace)
  pub dead : new.discards.list ≡ old.discards.list
  pub undone : new.undone ≡ old.undone
  pub found : new.found ≡ old.found
  pub opened_a : new.opened_a ≡ old.opened_a
  pub opened_b : new.opened_b ≡ old.opened_b
  pub pending : new.pending ≡ old.pending
  pub events : new.events.list ≡ Sweep kinds m ∷ old.events.list
  pub room : length old.pending ≤ new.events.room
  pub last : new.last ≡ old.last

-- the store's answer, if the core was up and the store was called
pub record WasAsked {D K : Type 0} (tells : Bool) (kept_in : K → Option (List StoreRecord)) (images : K → Option (List StoreRecord) → Type 0) (keeper_moment : K → ℕ × ℕ) (images_since : K → ℕ × ℕ → Option (List StoreRecord) → Type 0) (keeper_up : K → Type 0) (keeper_down : K → Bool) (size : K → ℕ) (stays : K → K → Type 0) (faults : K → ℕ) (answer : Kept) (kinds : Kinds) (m : ℤ) (old new : CoreState D K) : Type 0 where
  pub up : down_of keeper_down old ≡ false
  pub keeps : HasKept tells kept_in images keeper_moment images_since keeper_up keeper_down size stays faults answer old.store new.store (store.Swept kinds m)

abbrev pub SweepDoes : {D K : Type 0} → Bool → (K → Option (List StoreRecord)) → (K → Option (List StoreRecord) → Type 0) → (K → ℕ × ℕ) → (K → ℕ × ℕ → Option (List StoreRecord) → Type 0) → (K → Type 0) → (K → Bool) → (K → ℕ) → (K → K → Type 0) → (K → ℕ) → Swept → Kinds → ℤ → CoreState D K → CoreState D K → Type 0
SweepDoes tells kept_in images keeper_moment images_since keeper_up keeper_down size stays faults came.Ok kinds m old new = WasAsked tells kept_in images keeper_moment images_since keeper_up keeper_down size stays faults kept.Ok kinds m old new × HasSwept kinds m old new
SweepDoes tells kept_in images keeper_moment images_since keeper_up keeper_down size stays faults came.StoreFault kinds m old new = WasAsked tells kept_in images keeper_moment images_since keeper_up keeper_down size stays faults kept.Failed kinds m old new × (new.queue ≡ old.queue) × MemoryStays old new
SweepDoes tells kept_in images keeper_moment images_since keeper_up keeper_down size stays faults came.StoreDown kinds m old new = WasAsked tells kept_in images keeper_moment images_since keeper_up keeper_down size stays faults kept.Down kinds m old new × (new.queue ≡ old.queue) × MemoryStays old new
SweepDoes tells kept_in images keeper_moment images_since keeper_up keeper_down size stays faults came.Spent kinds m old new = WasAsked tells kept_in images keeper_moment images_since keeper_up keeper_down size stays faults kept.Spent kinds m old new × (new.queue ≡ old.queue) × MemoryStays old new
SweepDoes tells kept_in images keeper_moment images_since keeper_up keeper_down size stays faults came.Down kinds m old new = (down_of keeper_down old ≡ true) × (new ≡ old)
SweepDoes tells kept_in images keeper_moment images_since keeper_up keeper_down size stays faults came.Memory kinds m old new = (down_of keeper_down old ≡ false) × CoreStays old new

-- the same, with the ghosts of the trait as one value
abbrev pub DoesSweep : {D K : Type 0} → keeper.Ghosts K → Swept → Kinds → ℤ → CoreState D K → CoreState D K → Type 0
DoesSweep k = SweepDoes k.is_told k.kept k.images k.moment k.images_since k.is_up k.down k.size (StoreStays k) k.fault_count
