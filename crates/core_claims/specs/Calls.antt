-- The contracts of a claim and of both releases: how the answer, the core before and the core after relate.
use Rattle.std.specs.Prelude.{◌≡◌, ◌≢◌, ◌⊎◌, ◌↔◌, ℕ, true, false, [], ◌∷◌}
use Rattle.core_state.specs.fleet_rows.declared.command.Command.{Command}
use Rattle.core_state.specs.core_spec.History.{History}
use Rattle.core_state.specs.Changes.{OthersStay}
use Rattle.core_state.specs.Moments.{CoreIsWithin, StandsAmid}
use Rattle.core_state.specs.Puts.{QueueCounts, QueueRoseTwice}
use Rattle.core_state.specs.queue_log.Queued.{queue_down, queue_size}
use Rattle.core_state.specs.Seen.{down_of, CoreIsSound, IsSubmitted, events_of}
use Rattle.core_state.specs.StandsFor.{history_of, CoreStandsFor}
use Rattle.core_claims.specs.Frees.{Releases}
use Rattle.core_claims.specs.Claims.{ClaimGives, LeavesPending, HasSubmittedJob, IsOverfull, IsSuperseding, ClaimAdds}
use Rattle.core_state.specs.core_spec.declared.event.Event.TheVariants as event
use Rattle.core_state.specs.core_machine.Claims.{is_claimed}
use Rattle.core_claims.specs.Releases.{ReleaseGives}
use Rattle.core_state.specs.fleet_keeper.declared.keeper.Keeper as keeper
use Rattle.core_state.specs.fleet_ports.declared.disk.Disk as disk
use Rattle.core_state.specs.declared.state.CoreState.{CoreState}
use Rattle.core_claims.specs.declared.answers.Claimed.{Claimed}
use Rattle.core_claims.specs.declared.answers.Claimed.TheVariants as came

pub record CoreClaims {D K : Type 0} (d : disk.Ghosts D) (k : keeper.Ghosts K) (result : Claimed) (old new : CoreState D K) : Type 0 where
  -- The events and the records that are added. The answer is the one that the history gives, and the core stands for it.
  pub adds : ClaimAdds d.is_told d.seen result old new
  pub gives : (start : History)
      → CoreStandsFor d k old start
      → ClaimGives result old.tables.ttls (history_of old start) (history_of new start)
  pub stands : (start : History)
      → CoreStandsFor d k old start
      → CoreStandsFor d k new start
  -- At each moment within, the images stand for the history with some of the superseded commands.
  pub any_moment : (start : History)
      → CoreStandsFor d k old start → down_of k.down old ≡ false
      → CoreIsWithin d k old new
      (StandsAmid old.tables.ttls IsSuperseding (history_of old start) (history_of new start))
  pub sound : CoreIsSound d k new
  pub submitted : (r : ℕ) (c : Command) → IsSubmitted r c old → IsSubmitted r c new
  pub job : HasSubmittedJob result new
  pub others : OthersStay old new
  pub store : new.store ≡ old.store
  -- When each refusal comes.
  pub nothing : result ≡ came.Done → new.pending ≡ []
  pub waits : LeavesPending result → new.pending ≢ []
  pub down : (result ≡ came.Down) ↔ (down_of k.down old ≡ true)
  pub unchanged : result ≡ came.Down → new ≡ old
  pub spent : (start : History)
      → CoreStandsFor d k old start → result ≡ came.Spent
      → IsOverfull old.tables.ttls (queue_size new.queue) (history_of new start)
  pub unspent : (start : History)
      → CoreStandsFor d k old start → down_of k.down old ≡ false
      → IsOverfull old.tables.ttls (queue_size old.queue) (history_of old start) → (result ≡ came.Spent) ⊎ (result ≡ came.Memory)
  pub cause : QueueCounts d.fault_count old.queue new.queue (result ≡ came.QueueFault)
  pub twice : down_of k.down old ≡ false → queue_down new.queue ≡ true → QueueRoseTwice d.fault_count old.queue new.queue
  pub up : (result ≡ came.QueueFault → ⊥) → down_of k.down new ≡ down_of k.down old

pub record CoreReleases {D K : Type 0} (d : disk.Ghosts D) (k : keeper.Ghosts K) (receipt : ℕ) (old new : CoreState D K) : Type 0 where
  pub released : down_of k.down old ≡ false → is_claimed receipt old.pending ≡ true
      → events_of new ≡ event.Release receipt ∷ events_of old
  pub unchanged : (down_of k.down old ≡ true) ⊎ (is_claimed receipt old.pending ≡ false) → new ≡ old
  pub gives : (start : History)
      → CoreStandsFor d k old start → down_of k.down old ≡ false
      → ReleaseGives receipt (history_of old start) (history_of new start)
  pub stands : (start : History)
      → CoreStandsFor d k old start
      → CoreStandsFor d k new start
  pub sound : CoreIsSound d k new
  pub submitted : (r : ℕ) (c : Command) → IsSubmitted r c old → IsSubmitted r c new
  pub others : OthersStay old new
  pub queue : new.queue ≡ old.queue
  pub store : new.store ≡ old.store
  pub last : new.last ≡ old.last

-- every claimed command of a core that is up is queued again
pub record CoreFrees {D K : Type 0} (d : disk.Ghosts D) (k : keeper.Ghosts K) (old new : CoreState D K) : Type 0 where
  pub releases : Releases (events_of old) (events_of new)
  pub none : (r : ℕ) → is_claimed r new.pending ≡ false
  pub stands : (start : History)
      → CoreStandsFor d k old start
      → CoreStandsFor d k new start
  pub sound : CoreIsSound d k new
  pub submitted : (r : ℕ) (c : Command) → IsSubmitted r c old → IsSubmitted r c new
  pub others : OthersStay old new
  pub queue : new.queue ≡ old.queue
  pub store : new.store ≡ old.store
  pub last : new.last ≡ old.last
