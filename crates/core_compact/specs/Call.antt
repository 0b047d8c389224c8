-- The contract of a compaction: how its answer, the core before and the core after relate.
use Rattle.std.specs.Prelude.{◌≡◌, ◌⊎◌, ◌↔◌, ℕ, true, false, map}
use Rattle.core_state.specs.fleet_ports.Counts.{Counts, RoseBy}
use Rattle.core_state.specs.fleet_rows.declared.command.Command.{Command}
use Rattle.core_state.specs.log_pair.Pair.{generation_of_pair}
use Rattle.core_state.specs.record_spec.Queue.{queue_text}
use Rattle.core_state.specs.record_spec.Store.{store_text}
use Rattle.core_state.specs.fleet_keeper.Limits.{ArePast}
use Rattle.core_state.specs.core_spec.History.{History}
use Rattle.core_state.specs.queue_log.Queued.{queue_pair, queue_down}
use Rattle.core_state.specs.Changes.{CoreStays, MemoryStays}
use Rattle.core_state.specs.Moments.{CoreIsWithin}
use Rattle.core_state.specs.Puts.{QueueCounts, QueueRoseTwice}
use Rattle.core_state.specs.Seen.{down_of, CoreIsSound, IsSubmitted}
use Rattle.core_state.specs.Spelling.{HasSpelling}
use Rattle.core_state.specs.StandsFor.{history_of, StandsAt, CoreStandsFor}
use Rattle.core_compact.specs.Anew.{StoreGoesOn}
use Rattle.core_compact.specs.Compacts.{queue_records, store_records, AreCheckpoints, LogsAreCompacted}
use Rattle.core_state.specs.fleet_keeper.declared.keeper.Keeper as keeper
use Rattle.core_state.specs.fleet_ports.declared.disk.Disk as disk
use Rattle.core_state.specs.declared.state.CoreState.{CoreState}
use Rattle.core_compact.specs.declared.answers.Compacted.{Compacted}
use Rattle.core_compact.specs.declared.answers.Compacted.TheVariants as came

pub record CoreCompacts {D K : Type 0} (d : disk.Ghosts D) (k : keeper.Ghosts K) (result : Compacted) (old new : CoreState D K) : Type 0 where
  -- The contents of the core and the history that it stands for are unchanged.
  pub memory : MemoryStays old new
  pub stands : (start : History)
      → CoreStandsFor d k old start
      → CoreStandsFor d k new start
  -- What each answer leaves of the two logs. The records written are the checkpoints of the history.
  pub writes : LogsAreCompacted d k result old new
  pub checkpoints : (start : History)
      → CoreStandsFor d k old start → AreCheckpoints old (history_of old start)
  -- At each moment within, each image stands for the history.
  pub any_moment : (start : History)
      → CoreStandsFor d k old start → down_of k.down old ≡ false
      → CoreIsWithin d k old new
      (λ q s. StandsAt old.tables.ttls q s (history_of old start))
  pub sound : CoreIsSound d k new
  pub spelling : HasSpelling new
  pub submitted : (r : ℕ) (c : Command) → IsSubmitted r c old → IsSubmitted r c new
  pub keeper : StoreGoesOn k old.store new.store
  -- When each refusal comes.
  pub down : (result ≡ came.Down) ↔ (down_of k.down old ≡ true)
  pub unchanged : result ≡ came.Down → new ≡ old
  pub stays : result ≡ came.Memory → CoreStays old new
  pub spent : result ≡ came.Spent → ArePast (k.generation old.store) (map store_text (store_records old))
      ⊎ ArePast (generation_of_pair (queue_pair old.queue)) (map queue_text (queue_records old))
  pub store_unspent : down_of k.down old ≡ false → ArePast (k.generation old.store) (map store_text (store_records old))
      → (result ≡ came.Spent) ⊎ (result ≡ came.Memory)
  pub queue_unspent : down_of k.down old ≡ false → ArePast (generation_of_pair (queue_pair old.queue)) (map queue_text (queue_records old))
      → (result ≡ came.Spent) ⊎ (result ≡ came.Memory) ⊎ (result ≡ came.StoreFault)
  pub store_cause : Counts (k.fault_count old.store) (k.fault_count new.store) (result ≡ came.StoreFault)
  pub queue_cause : QueueCounts d.fault_count old.queue new.queue (result ≡ came.QueueFault)
  pub store_twice : down_of k.down old ≡ false → k.down new.store ≡ true
      → RoseBy 2 (k.fault_count old.store) (k.fault_count new.store)
  pub queue_twice : down_of k.down old ≡ false → queue_down new.queue ≡ true → QueueRoseTwice d.fault_count old.queue new.queue
  pub store_goes_down : down_of k.down old ≡ false → k.down new.store ≡ true → result ≡ came.StoreFault
  pub queue_goes_down : down_of k.down old ≡ false → queue_down new.queue ≡ true → result ≡ came.QueueFault
  pub up : (result ≡ came.StoreFault → ⊥) → (result ≡ came.QueueFault → ⊥) → down_of k.down new ≡ down_of k.down old
