-- What each end of a drain says.
use Rattle.std.specs.Prelude.{◌≡◌, ◌≢◌, ◌⊎◌, ℕ, ◌≤◌, ℤ, true, false, List, [], ◌∷◌, ◌++◌, Option, Some, None, IsTrue}
use Rattle.core_course.specs.fleet_ports.Counts.{RoseBy}
use Rattle.command_core.specs.log_pair.Pair.{disk_a, disk_b}
use Rattle.command_decode.specs.fleet_rows.declared.command.Command.{Command}
use Rattle.command_core.specs.record_spec.declared.queue.QueueRecord.{QueueRecord}
use Rattle.command_core.specs.core_spec.declared.event.Event.TheVariants.{Apply, Release}
use Rattle.command_core.specs.core_spec.History.{History, command, queued, claimed, standing}
use Rattle.command_core.specs.core_spec.Legal.{IsAfterFails}
use Rattle.command_core.specs.core_spec.Pending.{pending_of}
use Rattle.command_core.specs.core_spec.Stands.{queue_trace}
use Rattle.command_core.specs.queue_log.Queued as log
use Rattle.command_core.specs.queue_log.Queued.{queue_pair, queue_down, queue_size}
use Rattle.command_core.specs.core_state.declared.state.CoreState.{CoreState}
use Rattle.command_core.specs.core_state.Puts.{QueueRoseTwice}
use Rattle.command_core.specs.core_state.Seen.{IsFit, IsSubmitted}
use Rattle.command_core.specs.core_state.StandsFor.{EachImage, StandsAt, history_of}
use Rattle.command_core.specs.core_claims.Claims.{IsOverfull}
use Rattle.command_core.specs.core_claims.declared.job.Job.{Job}
use Rattle.command_core.specs.core_settles.declared.answers.Verdict.{Verdict}
use Rattle.command_core.specs.core_settles.Settles as settles
use Rattle.command_core.specs.core_settles.Settles.{IsVerdictOf}
use Rattle.core_course.specs.Sight.{Sight, Stood, is_down}
use Rattle.core_course.specs.Courses.{OnlySupersedes, Passed}
use Rattle.core_ends.specs.declared.ends.WorkEnd.{WorkEnd}
use Rattle.core_ends.specs.declared.ends.WorkEnd.TheVariants.{Done, QueueFault, StoreDown, Spent, Down, Memory}

-- something is pending after it, in the core and in each history that the core stood for before it
abbrev pub SomethingWaits : {D K : Type 0} → Sight D K → CoreState D K → CoreState D K → Type 0
SomethingWaits w old new = (new.pending ≢ []) × ((start : History) → Stood w old start → pending_of (history_of new start) ≢ [])

-- The last event queued a claimed command again: the log of the queue or of the store has no room for the record that settles it.
-- Or the queue's log has none for superseding the least candidate.
pub data HasNoRoom {D K : Type 0} (w : Sight D K) (old new : CoreState D K) : Type 0 where
  to_settle : (job : Job) (v : Verdict) → IsSubmitted job.receipt job.command new
      → ((start : History) → Stood w old start → standing job.receipt (history_of new start) ≡ queued)
      → IsFit job.command → IsVerdictOf v job.command → settles.IsSpent w.store_size job v new
      → (earlier : History) → new.events.list ≡ Release job.receipt ∷ earlier → HasNoRoom w old new
  to_supersede : ((start : History) → Stood w old start → IsOverfull new.tables.ttls (queue_size new.queue) (history_of new start)) → HasNoRoom w old new

-- the fault count of one of the queue's two disks rose, or stands at 2^64 - 1
abbrev pub QueueRose : {D K : Type 0} → Sight D K → CoreState D K → CoreState D K → Type 0
QueueRose w old new =
    RoseBy 1 (w.faults (disk_a (queue_pair old.queue))) (w.faults (disk_a (queue_pair new.queue)))
    ⊎ RoseBy 1 (w.faults (disk_b (queue_pair old.queue))) (w.faults (disk_b (queue_pair new.queue)))

-- The last event applied a command whose Done isn't in the queue's log, which has the records of the earlier events. Or that log
-- went down, and the fault count of one of its disks rose by two. Each image of the disks stands for the history.
pub record LacksDone {D K : Type 0} (w : Sight D K) (old new : CoreState D K) : Type 0 where
  pub undone : new.undone ≡ true
  pub receipt : ℕ
  pub moment : Option ℤ
  pub earlier : History
  pub events : new.events.list ≡ Apply receipt moment ∷ (earlier ++ old.events.list)
  pub queue : queue_down new.queue ≡ false → IsTrue w.tells → (records : List QueueRecord) → log.queued w.seen old.queue ≡ Some records
      → log.queued w.seen new.queue ≡ Some (records ++ queue_trace earlier)
  pub twice : queue_down new.queue ≡ true → QueueRoseTwice w.faults old.queue new.queue
  pub images : (start : History) → Stood w old start → EachImage w.may_leave w.images new (λ q s. StandsAt new.tables.ttls q s (history_of new start))

-- The store's log went down as the change of a claimed command was written. The queue's log is up, and has exactly the records of
-- the events. Each image of the disks stands for the history, or for it and that change, with the moment at which the command was
-- received.
pub record ChangeIsOpen {D K : Type 0} (w : Sight D K) (old new : CoreState D K) : Type 0 where
  pub waits : SomethingWaits w old new
  pub receipt : ℕ
  pub of_command : Command
  pub command_is : (start : History) → Stood w old start → command receipt (history_of new start) ≡ Some of_command
  pub stands : (start : History) → Stood w old start → standing receipt (history_of new start) ≡ claimed
  pub more : History
  pub events : new.events.list ≡ more ++ old.events.list
  pub queue_up : queue_down new.queue ≡ false
  pub queue : IsTrue w.tells → (records : List QueueRecord) → log.queued w.seen old.queue ≡ Some records
      → log.queued w.seen new.queue ≡ Some (records ++ queue_trace more)
  pub images : (start : History) → Stood w old start
      → EachImage w.may_leave w.images new
      (λ q s. StandsAt new.tables.ttls q s (history_of new start) ⊎ StandsAt new.tables.ttls q s (Apply receipt (Some of_command.received) ∷ history_of new start))

-- The store's fault count rose by n from some earlier value, and no failure was counted above that value.
pub record RoseBehindFails {D K : Type 0} (w : Sight D K) (n : ℕ) (old new : CoreState D K) : Type 0 where
  pub counted : ℕ
  pub later : w.store_faults old.store ≤ counted
  pub rose : RoseBy n counted (w.store_faults new.store)
  pub fails : (start : History) → Stood w old start → IsAfterFails counted (history_of new start)

-- What a call adds at which the queue failed and the core stayed up: a claim that superseded commands before, or a settle that
-- queued its command again.
pub data AreOfFault (events : History) : Type 0 where
  of_claim : OnlySupersedes events → AreOfFault events
  of_settle : (r : ℕ) → events ≡ Release r ∷ [] → AreOfFault events

-- From an earlier core that was up to this one, the fault count of one of the queue's disks rose, and only such events were added.
-- So no command came in, was handed out, was applied or was discarded meanwhile.
pub record RoseInLast {D K : Type 0} (w : Sight D K) (old new : CoreState D K) : Type 0 where
  pub earlier : History
  pub mid : CoreState D K
  pub before : Passed w earlier old mid
  pub up : is_down w mid ≡ false
  pub last : History
  pub of_fault : AreOfFault last
  pub passed : Passed w last mid new
  pub rose : QueueRose w mid new

-- Something is pending, and no Done is lacking. So only a log can be down. If none is, the last call was one at which the queue
-- counted a fault.
abbrev pub IsLeft : {D K : Type 0} → Sight D K → CoreState D K → CoreState D K → Type 0
IsLeft w old new = (new.undone ≡ false) × SomethingWaits w old new × (is_down w new ≡ false → RoseInLast w old new)

-- What an end says of the core before the drain and after it.
abbrev pub EndsSo : {D K : Type 0} → Sight D K → WorkEnd → CoreState D K → CoreState D K → Type 0
EndsSo w Done old new = (is_down w new ≡ false) × (new.pending ≡ [])
EndsSo w QueueFault old new = QueueRose w old new × (w.store_down new.store ≡ false) × (LacksDone w old new ⊎ IsLeft w old new)
EndsSo w StoreDown old new = RoseBehindFails w 2 old new × (w.store_down new.store ≡ true) × ChangeIsOpen w old new
EndsSo w Spent old new = (is_down w new ≡ false) × HasNoRoom w old new × SomethingWaits w old new
EndsSo w Down old new = new ≡ old
EndsSo w Memory old new = is_down w new ≡ false

-- What the end of one turn says of a core that was up. If the work may go on, the core is up.
abbrev pub EndsHere : {D K : Type 0} → Sight D K → Option WorkEnd → CoreState D K → CoreState D K → Type 0
EndsHere w None old new = is_down w new ≡ false
EndsHere w (Some Down) old new = ⊥
EndsHere w (Some end) old new = EndsSo w end old new

-- if the core is up after it, nothing is claimed, in each history that it stood for before it
abbrev pub NothingClaimed : {D K : Type 0} → Sight D K → CoreState D K → CoreState D K → Type 0
NothingClaimed w old new = is_down w new ≡ false → (start : History) → Stood w old start → (r : ℕ) → standing r (history_of new start) ≢ claimed

-- if the core is up after it, what is claimed was claimed before it
abbrev pub ClaimsNoMore : {D K : Type 0} → Sight D K → CoreState D K → CoreState D K → Type 0
ClaimsNoMore w old new = is_down w new ≡ false → (start : History) → Stood w old start
    → (r : ℕ) → standing r (history_of new start) ≡ claimed → standing r (history_of old start) ≡ claimed

-- and the command of this receipt isn't claimed
abbrev pub LetsGo : {D K : Type 0} → Sight D K → ℕ → CoreState D K → CoreState D K → Type 0
LetsGo w q old new = is_down w new ≡ false → (start : History) → Stood w old start
    → (r : ℕ) → standing r (history_of new start) ≡ claimed → (standing r (history_of old start) ≡ claimed) × (r ≢ q)
