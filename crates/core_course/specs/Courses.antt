-- What a sequence of calls does to a core.
use Rattle.std.specs.Prelude.{◌≡◌, ◌⊎◌, ℕ, ◌≤◌, true, false, List, [], ◌∷◌, ◌++◌, Some, IsTrue}
use Rattle.core_state.specs.fleet_rows.declared.command.Command.{Command}
use Rattle.core_state.specs.log_pair.Pair.{disk_a, disk_b}
use Rattle.core_state.specs.record_spec.declared.queue.QueueRecord.{QueueRecord}
use Rattle.core_state.specs.record_spec.declared.store.StoreRecord.{StoreRecord}
use Rattle.core_state.specs.fleet_rows.declared.refusal.Cause.TheVariants.{Failures}
use Rattle.core_state.specs.core_spec.declared.event.Event.{Event}
use Rattle.core_state.specs.core_spec.declared.event.Event.TheVariants.{Claim, Release, Supersede, Fail, Discard}
use Rattle.core_state.specs.core_spec.History.{History}
use Rattle.core_state.specs.core_spec.Stands.{queue_trace, store_trace}
use Rattle.core_state.specs.log_spec.Limits.{most_log}
use Rattle.core_state.specs.queue_log.Queued.{queue_pair, queue_moment, queue_down, queue_size, queued}
use Rattle.core_state.specs.declared.state.CoreState.{CoreState}
use Rattle.core_state.specs.Moments.{IsLater, Within, GoesOn, StandsAmid}
use Rattle.core_state.specs.Puts.{QueueRoseTwice}
use Rattle.core_state.specs.Seen.{IsSubmitted}
use Rattle.core_state.specs.StandsFor.{AreOfOneRecord, history_of}
use Rattle.core_course.specs.Sight.{Sight, Stood, is_down}

-- ---- at every moment

-- What a call does to the disks. Either they are unchanged, or the core is up. Then each image at every moment within stands for
-- the history before with a part of the added events. It may also include the events of one record that the call may write.
pub data DisksGo {D K : Type 0} (w : Sight D K) (May : History → Type 0) (old new : CoreState D K) : Type 0 where
  silent : new.queue ≡ old.queue → new.store ≡ old.store → DisksGo w May old new
  writes : is_down w old ≡ false → ((start : History) → Stood w old start
      → Within w.may_leave w.moment w.left_since w.images w.store_moment w.images_since old new
      (StandsAmid old.tables.ttls (λ upto begun. AreOfOneRecord begun × May begun) (history_of old start) (history_of new start))) → DisksGo w May old new

-- ---- the events of one call

-- commands are superseded, one after the other
abbrev pub OnlySupersedes : History → Type 0
OnlySupersedes [] = Unit {0}
OnlySupersedes (Supersede q p ∷ events) = OnlySupersedes events
OnlySupersedes (_ ∷ events) = ⊥

-- commands are queued again, one after the other
abbrev pub OnlyReleases : History → Type 0
OnlyReleases [] = Unit {0}
OnlyReleases (Release r ∷ events) = OnlyReleases events
OnlyReleases (_ ∷ events) = ⊥

-- A call adds no event or one; or a sixteenth failure and what it discards. Or it supersedes commands, and may then claim one. Or
-- it queues claimed commands again.
pub data AreOfOneCall (events : History) : Type 0 where
  no_event : events ≡ [] → AreOfOneCall events
  one_event : (e : Event) → events ≡ e ∷ [] → AreOfOneCall events
  gives_up : (r before after : ℕ) → events ≡ Discard r Failures ∷ Fail r before after ∷ [] → AreOfOneCall events
  supersedes : OnlySupersedes events → AreOfOneCall events
  claims : (r : ℕ) (earlier : History) → OnlySupersedes earlier → events ≡ Claim r ∷ earlier → AreOfOneCall events
  releases : OnlyReleases events → AreOfOneCall events

-- One call: the core stands for each history that it stood for, with further events. A core that is down stays down, and nothing
-- is written.
pub record Link {D K : Type 0} (w : Sight D K) (May : History → Type 0) (old new : CoreState D K) : Type 0 where
  pub goes : GoesOn old.events.list new.events.list
  pub one_call : AreOfOneCall goes.0
  pub lifetimes : new.tables.ttls ≡ old.tables.ttls
  pub stands : (start : History) → Stood w old start → Stood w new start
  pub disks : DisksGo w May old new
  pub stays_down : is_down w old ≡ true → is_down w new ≡ true

-- The calls one after the other, each starting with what the one before left. What a call may write depends on the core that it
-- starts with.
abbrev pub AreLinked : {D K : Type 0} → Sight D K → (CoreState D K → History → Type 0) → CoreState D K → List (CoreState D K) → CoreState D K → Type 0
AreLinked w May old [] new = Link w (May old) old new
AreLinked w May old (mid ∷ stops) new = Link w (May old) old mid × AreLinked w May mid stops new

-- the calls, given by the cores between them
pub record Course {D K : Type 0} (w : Sight D K) (May : CoreState D K → History → Type 0) (old new : CoreState D K) : Type 0 where
  pub stops : List (CoreState D K)
  pub linked : AreLinked w May old stops new

-- some call may write these events
abbrev pub SomeMay : {D K : Type 0} → (CoreState D K → History → Type 0) → CoreState D K → List (CoreState D K) → History → Type 0
SomeMay May old [] begun = May old begun
SomeMay May old (mid ∷ stops) begun = May old begun ⊎ SomeMay May mid stops begun

-- ---- time

-- time didn't go back, in any file of either log
pub record TimeGoesOn {D K : Type 0} (w : Sight D K) (old new : CoreState D K) : Type 0 where
  pub queue : IsLater (queue_moment w.moment old.queue) (queue_moment w.moment new.queue)
  pub store : IsLater (w.store_moment old.store) (w.store_moment new.store)

-- some call began no later than this moment of a clock, and ended no earlier
abbrev pub IsWithinOne : {D K : Type 0} → (CoreState D K → ℕ) → ℕ → CoreState D K → List (CoreState D K) → CoreState D K → Type 0
IsWithinOne clock t old [] new = (clock old ≤ t) × (t ≤ clock new)
IsWithinOne clock t old (mid ∷ stops) new = ((clock old ≤ t) × (t ≤ clock mid)) ⊎ IsWithinOne clock t mid stops new

-- the same holds of each moment from the first core's to the last one's
abbrev pub AreWithin : {D K : Type 0} → CoreState D K → List (CoreState D K) → CoreState D K → (CoreState D K → ℕ) → Type 0
AreWithin old stops new clock = (t : ℕ) → clock old ≤ t → t ≤ clock new → IsWithinOne clock t old stops new

-- each file of the two logs has its own clock
pub record NoMomentIsLeftOut {D K : Type 0} (w : Sight D K) (old : CoreState D K) (stops : List (CoreState D K)) (new : CoreState D K) : Type 0 where
  pub queue_a : AreWithin old stops new (λ core. (queue_moment w.moment core.queue).0)
  pub queue_b : AreWithin old stops new (λ core. (queue_moment w.moment core.queue).1)
  pub store_a : AreWithin old stops new (λ core. (w.store_moment core.store).0)
  pub store_b : AreWithin old stops new (λ core. (w.store_moment core.store).1)

-- ---- from the first core to the last

-- the fault counts of the queue's disks and of the keeper didn't fall
pub record CountsRise {D K : Type 0} (w : Sight D K) (old new : CoreState D K) : Type 0 where
  pub queue_a : w.faults (disk_a (queue_pair old.queue)) ≤ w.faults (disk_a (queue_pair new.queue))
  pub queue_b : w.faults (disk_b (queue_pair old.queue)) ≤ w.faults (disk_b (queue_pair new.queue))
  pub store : w.store_faults old.store ≤ w.store_faults new.store

-- what the core keeps of its opening is unchanged
pub record SameOpening {D K : Type 0} (w : Sight D K) (old new : CoreState D K) : Type 0 where
  pub found : new.found ≡ old.found
  pub opened_a : new.opened_a ≡ old.opened_a
  pub opened_b : new.opened_b ≡ old.opened_b
  pub lifetimes : new.tables.ttls ≡ old.tables.ttls
  pub store_opened : w.store_opened new.store ≡ w.store_opened old.store
  pub store_within : (since : ℕ × ℕ × ℕ) → w.store_within old.store since → w.store_within new.store since

-- the records of these events were appended to both logs
pub record LogsGrow {D K : Type 0} (w : Sight D K) (more : History) (old new : CoreState D K) : Type 0 where
  pub queue : IsTrue w.tells → (records : List QueueRecord) → queued w.seen old.queue ≡ Some records
      → queued w.seen new.queue ≡ Some (records ++ queue_trace more)
  pub store : (start : History) → Stood w old start → IsTrue w.store_tells → (records : List StoreRecord) → w.kept old.store ≡ Some records
      → w.kept new.store ≡ Some (records ++ store_trace (history_of old start) more)

-- These events were added. The core stands for each history that it stood for, with them. If it isn't down, their records are in
-- its logs.
pub record Passed {D K : Type 0} (w : Sight D K) (more : History) (old new : CoreState D K) : Type 0 where
  pub events : new.events.list ≡ more ++ old.events.list
  pub stands : (start : History) → Stood w old start → Stood w new start
  pub submitted : (r : ℕ) (c : Command) → IsSubmitted r c old → IsSubmitted r c new
  pub opening : SameOpening w old new
  pub counts : CountsRise w old new
  pub stays_down : is_down w old ≡ true → is_down w new ≡ true
  -- if the queue's log went down, the fault count of one of its disks rose by two
  pub queue_twice : queue_down old.queue ≡ false → queue_down new.queue ≡ true → QueueRoseTwice w.faults old.queue new.queue
  -- no log outgrows 2^62 bytes
  pub queue_fits : queue_size old.queue ≤ most_log → queue_size new.queue ≤ most_log
  pub store_fits : w.store_size old.store ≤ most_log → w.store_size new.store ≤ most_log
  pub logs : is_down w new ≡ false → LogsGrow w more old new
