-- The contract of a submit: how its answer, the core before and the core after relate.
use Rattle.std.specs.Prelude.{◌≡◌, ◌⊎◌, ◌↔◌, ℕ, length, true, false}
use Rattle.core_state.specs.fleet_rows.declared.command.Command.{Command}
use Rattle.core_state.specs.core_spec.History.{History}
use Rattle.core_state.specs.queue_log.Queued.{queue_down}
use Rattle.core_state.specs.Changes.{OthersStay, MemoryStays, CoreStays}
use Rattle.core_state.specs.Moments.{CoreIsWithin, StandsAmid}
use Rattle.core_state.specs.Puts.{QueueCounts, QueueRoseTwice}
use Rattle.core_state.specs.Seen.{down_of, events_of, CoreIsSound, IsSubmitted}
use Rattle.core_state.specs.StandsFor.{history_of, CoreStandsFor}
use Rattle.core_submits.specs.Submits.{IsFull, IsSpent, IsSubmitOf, SubmitAdds, SubmitWrites, SubmitWaits, IsRefusal}
use Rattle.core_state.specs.fleet_keeper.declared.keeper.Keeper as keeper
use Rattle.core_state.specs.fleet_ports.declared.disk.Disk as disk
use Rattle.core_state.specs.declared.state.CoreState.{CoreState}
use Rattle.fleet_rows.specs.declared.submitted.Submitted.{Submitted}
use Rattle.fleet_rows.specs.declared.submitted.Submitted.TheVariants as came

pub record CoreSubmits {D K : Type 0} (d : disk.Ghosts D) (k : keeper.Ghosts K) (result : Submitted) (command : Command)
    (old new : CoreState D K) : Type 0 where
  -- The events of the answer, and the history that the core then stands for.
  pub adds : SubmitAdds result command old.last (events_of old) (events_of new)
  pub writes : SubmitWrites d.is_told d.seen result command old new
  pub waits : SubmitWaits result command old.pending new.pending
  pub stands : (start : History)
      → CoreStandsFor d k old start
      → CoreStandsFor d k new start
  -- At each moment within, the images stand for the history before, or for it and the command.
  pub any_moment : (start : History)
      → CoreStandsFor d k old start → down_of k.down old ≡ false
      → CoreIsWithin d k old new
      (StandsAmid old.tables.ttls (IsSubmitOf old.last command) (history_of old start) (history_of new start))
  pub sound : CoreIsSound d k new
  pub submitted : (r : ℕ) (c : Command) → IsSubmitted r c old → IsSubmitted r c new
  pub others : OthersStay old new
  pub store : new.store ≡ old.store
  -- When each refusal comes, and what it leaves.
  pub down : (result ≡ came.Down) ↔ (down_of k.down old ≡ true)
  pub unchanged : result ≡ came.Down → new ≡ old
  pub full : (result ≡ came.Full) ↔ ((down_of k.down old ≡ false) × IsFull (length command.payload) old.pending)
  pub spent : result ≡ came.Spent → IsSpent command old
  pub unspent : down_of k.down old ≡ false → (IsFull (length command.payload) old.pending → ⊥) → IsSpent command old
      → (result ≡ came.Spent) ⊎ (result ≡ came.Memory)
  pub stays : IsRefusal result → CoreStays old new
  pub fault : result ≡ came.QueueFault → MemoryStays old new
  pub cause : QueueCounts d.fault_count old.queue new.queue (result ≡ came.QueueFault)
  pub twice : down_of k.down old ≡ false → queue_down new.queue ≡ true → QueueRoseTwice d.fault_count old.queue new.queue
  pub up : (result ≡ came.QueueFault → ⊥) → down_of k.down new ≡ down_of k.down old
