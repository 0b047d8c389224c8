-- The contract of a sweep: how its answer, the core before and the core after relate.
use Rattle.std.specs.Prelude.{◌≡◌, ◌⊎◌, ◌↔◌, ℕ, ℤ, true, false}
use Rattle.core_state.specs.fleet_ports.Counts.{Counts, RoseBy}
use Rattle.core_state.specs.fleet_rows.declared.command.Command.{Command}
use Rattle.core_state.specs.fleet_rows.declared.settings.Kinds.{Kinds}
use Rattle.core_state.specs.record_spec.declared.store.StoreRecord.TheVariants as store
use Rattle.core_state.specs.record_spec.Store.{store_text}
use Rattle.core_state.specs.fleet_keeper.Limits.{IsPast}
use Rattle.core_state.specs.core_spec.History.{History}
use Rattle.core_state.specs.Changes.{CoreStays, MemoryStays, OpeningStays}
use Rattle.core_state.specs.Moments.{CoreIsWithin, StandsAmid}
use Rattle.core_state.specs.Seen.{down_of, events_of, CoreIsSound, IsSubmitted}
use Rattle.core_state.specs.Spelling.{HasSpelling}
use Rattle.core_state.specs.StandsFor.{history_of, CoreStandsFor}
use Rattle.core_state.specs.Puts.{StoreStays}
use Rattle.core_sweeps.specs.Sweeps.{SweepAdds, StoreIsSwept, IsSweep, IsCalm, IsStoreFault}
use Rattle.core_state.specs.fleet_keeper.declared.keeper.Keeper as keeper
use Rattle.core_state.specs.fleet_ports.declared.disk.Disk as disk
use Rattle.core_state.specs.declared.state.CoreState.{CoreState}
use Rattle.core_sweeps.specs.declared.answers.Swept.{Swept}
use Rattle.core_sweeps.specs.declared.answers.Swept.TheVariants as came

pub record CoreSweeps {D K : Type 0} (d : disk.Ghosts D) (k : keeper.Ghosts K) (result : Swept) (kinds : Kinds) (m : ℤ)
    (old new : CoreState D K) : Type 0 where
  -- The events and the record of the answer, and the history that the core then stands for.
  pub adds : SweepAdds result kinds m (events_of old) (events_of new)
  pub writes : StoreIsSwept k result kinds m old.store new.store
  pub stands : (start : History)
      → CoreStandsFor d k old start
      → CoreStandsFor d k new start
  -- At each moment within, the images stand for the history before, or for it and the sweep.
  pub any_moment : (start : History)
      → CoreStandsFor d k old start → down_of k.down old ≡ false
      → CoreIsWithin d k old new
      (StandsAmid old.tables.ttls (IsSweep kinds m (history_of old start)) (history_of old start) (history_of new start))
  pub sound : CoreIsSound d k new
  pub spelling : HasSpelling old → HasSpelling new
  pub submitted : (r : ℕ) (c : Command) → IsSubmitted r c old → IsSubmitted r c new
  pub opening : OpeningStays old new
  pub keeper : StoreStays k old.store new.store
  pub queue : new.queue ≡ old.queue
  pub pending : new.pending ≡ old.pending
  -- When each refusal comes, and what it leaves.
  pub down : (result ≡ came.Down) ↔ (down_of k.down old ≡ true)
  pub unchanged : result ≡ came.Down → new ≡ old
  pub stays : IsCalm result → CoreStays old new
  pub fault : IsStoreFault result → MemoryStays old new
  pub spent : result ≡ came.Spent → IsPast (k.size old.store) (store_text (store.Swept kinds m))
  pub unspent : down_of k.down old ≡ false → IsPast (k.size old.store) (store_text (store.Swept kinds m))
      → (result ≡ came.Spent) ⊎ (result ≡ came.Memory)
  pub cause : Counts (k.fault_count old.store) (k.fault_count new.store) (IsStoreFault result)
  pub twice : result ≡ came.StoreDown → RoseBy 2 (k.fault_count old.store) (k.fault_count new.store)
  pub store_down : down_of k.down old ≡ false → (k.down new.store ≡ true) ↔ (result ≡ came.StoreDown)
  pub up : (result ≡ came.StoreDown → ⊥) → down_of k.down new ≡ down_of k.down old
