-- The contract of a settle: how its answer, the core before and the core after relate.
use Rattle.std.specs.Prelude.{◌≡◌, ◌≢◌, ◌⊎◌, ◌↔◌, ℕ, [], ◌++◌, true, false, ◌≤◌}
use Rattle.core_claims.specs.fleet_rows.declared.command.Command.{Command}
use Rattle.core_claims.specs.fleet_rows.declared.refusal.Refusal.{Refusal}
use Rattle.core_claims.specs.core_spec.History.{History}
use Rattle.core_claims.specs.core_machine.Claims.{is_claimed}
use Rattle.core_claims.specs.queue_log.Queued.{queue_down}
use Rattle.core_claims.specs.core_state.Changes.{OpeningStays}
use Rattle.core_claims.specs.core_state.Moments.{CoreIsWithin, StandsAmid}
use Rattle.core_claims.specs.core_state.Puts.{QueueCounts, QueueRoseTwice, StoreStays}
use Rattle.core_claims.specs.core_state.Seen.{down_of, events_of, CoreIsSound, IsSubmitted}
use Rattle.core_claims.specs.core_state.Spelling.{HasSpelling}
use Rattle.core_claims.specs.core_state.StandsFor.{EachImage, history_of, CoreStandsFor}
use Rattle.core_settles.specs.Settles.{SettleGives, IsSettling, settled_events, queue_record, QueueWrites, SettleWrites, is_applied}
use Rattle.core_settles.specs.Settles.{SettleLeaves, SettleImage, LeavesPending, StoreRose, IsSpent, IsMemory}
use Rattle.core_claims.specs.fleet_keeper.declared.keeper.Keeper as keeper
use Rattle.core_claims.specs.fleet_ports.declared.disk.Disk as disk
use Rattle.core_claims.specs.core_state.declared.state.CoreState.{CoreState}
use Rattle.core_claims.specs.declared.job.Job.{Job}
use Rattle.core_settles.specs.declared.answers.Settled.{Settled}
use Rattle.core_settles.specs.declared.answers.Settled.TheVariants as came
use Rattle.core_settles.specs.declared.answers.Verdict.{Verdict}
use Rattle.core_settles.specs.declared.answers.Verdict.TheVariants as verdict

pub record CoreSettles {D K : Type 0} (d : disk.Ghosts D) (k : keeper.Ghosts K) (result : Settled) (job : Job) (v : Verdict)
    (old new : CoreState D K) : Type 0 where
  -- The events of the answer, what they mean, and the history that the core then stands for.
  pub adds : events_of new
      ≡ settled_events result job v (k.fault_count old.store) (k.fault_count new.store) new.undone (down_of k.down new)
      ++ events_of old
  pub queue_writes : QueueWrites d.is_told d.seen
      (queue_record result job v (k.fault_count old.store) (k.fault_count new.store)) old.queue new.queue
  pub store_writes : SettleWrites k (is_applied result new.undone) job v old.store new.store
  pub gives : (start : History)
      → CoreStandsFor d k old start
      → SettleGives result job v (k.fault_count old.store) (k.fault_count new.store) (down_of k.down new)
      (history_of old start) (history_of new start)
  pub stands : (start : History)
      → CoreStandsFor d k old start
      → CoreStandsFor d k new start
  -- At each moment within, the images stand for the history before, or for it and the record being written.
  pub any_moment : (start : History)
      → CoreStandsFor d k old start → down_of k.down old ≡ false
      → CoreIsWithin d k old new
      (StandsAmid old.tables.ttls (IsSettling job v (k.fault_count old.store) (k.fault_count new.store))
      (history_of old start) (history_of new start))
  -- Which images there are at the end, if the core went down by the store or for want of a Done.
  pub each_image : (start : History)
      → CoreStandsFor d k old start
      → EachImage d.may_leave k.images new (SettleImage result new.undone job new.tables.ttls (history_of new start))
  pub sound : CoreIsSound d k new
  pub spelling : HasSpelling old → HasSpelling new
  pub kept_submitted : (r : ℕ) (c : Command) → IsSubmitted r c old → IsSubmitted r c new
  pub opening : OpeningStays old new
  pub keeper : StoreStays k old.store new.store
  -- When each answer comes, and what it leaves.
  pub down : (result ≡ came.Down) ↔ (down_of k.down old ≡ true)
  pub not_claimed : (result ≡ came.NotClaimed) ↔ ((down_of k.down old ≡ false) × (is_claimed job.receipt old.pending ≡ false))
  pub unspent : down_of k.down old ≡ false → is_claimed job.receipt old.pending ≡ true → IsSpent k.size job v old
      → (result ≡ came.Spent) ⊎ IsMemory result
  pub leaves : SettleLeaves k.size result job v old new
  pub waits : LeavesPending result new.undone → new.pending ≢ []
  pub refusals : (refusal : Refusal) → v ≡ verdict.Refused refusal → new.store ≡ old.store
  pub cause : QueueCounts d.fault_count old.queue new.queue (result ≡ came.QueueFault)
  pub twice : down_of k.down old ≡ false → queue_down new.queue ≡ true → QueueRoseTwice d.fault_count old.queue new.queue
  pub store_cause : StoreRose result v (k.fault_count old.store) (k.fault_count new.store)
  pub store_later : k.fault_count old.store ≤ k.fault_count new.store
  pub store_down : down_of k.down old ≡ false → (k.down new.store ≡ true) ↔ (result ≡ came.StoreDown)
  pub up : (result ≡ came.QueueFault → ⊥) → (result ≡ came.StoreDown → ⊥) → down_of k.down new ≡ down_of k.down old
