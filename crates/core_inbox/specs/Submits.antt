-- What a posted command does to a core, and what an inbox over the core holds.
use Rattle.std.specs.Prelude.{◌≡◌, ◌⊎◌, ◌↔◌, ℕ, ◌+◌, ◌-◌, ◌^◌, min, true, false, List, [], ◌∷◌, ◌++◌, length}
use Rattle.core_ends.specs.fleet_rows.declared.command.Command.{Command}
use Rattle.core_ends.specs.core_spec.declared.event.Event.TheVariants.{Submit}
use Rattle.core_ends.specs.core_spec.History.{History}
use Rattle.core_ends.specs.log_pair.Pair.{disk_a, disk_b}
use Rattle.core_ends.specs.supersede_core.Waiting.{payload_bytes}
use Rattle.core_ends.specs.queue_log.Queued.{queue_pair, queue_down, queue_size}
use Rattle.core_ends.specs.queue_log.declared.queue.QueueLog.{QueueLog}
use Rattle.core_ends.specs.core_state.declared.state.CoreState.{CoreState}
use Rattle.core_ends.specs.core_state.Changes.{OthersStay, MemoryStays, CoreStays}
use Rattle.core_ends.specs.core_state.Moments.{Within, StandsAmid}
use Rattle.core_ends.specs.core_state.Puts.{QueueCounts, QueueRoseTwice}
use Rattle.core_ends.specs.core_state.Seen.{IsSubmitted}
use Rattle.core_ends.specs.core_state.StandsFor.{history_of}
use Rattle.core_ends.specs.core_submits.Submits as core
use Rattle.core_ends.specs.core_submits.Submits.{IsFull, IsSubmitOf, SubmitAdds, SubmitWrites, SubmitWaits, IsRefusal}
use Rattle.core_ends.specs.core_course.Sight.{Sight, Stood, is_down}
use Rattle.link_serving.specs.http_routes.Inbox.{Held, Takes}
use Rattle.fleet_rows.specs.declared.submitted.Submitted.{Submitted}
use Rattle.fleet_rows.specs.declared.submitted.Submitted.TheVariants as came

-- ---- what the inbox holds

-- the commands that came in since the opening, with their receipts, in order
abbrev pub taken_of : History → List (ℕ × Command)
taken_of [] = []
taken_of (Submit r c ∷ earlier) = taken_of earlier ++ (r, c) ∷ []
taken_of (_ ∷ earlier) = taken_of earlier

-- the fault counts of the queue's two disks together, at most 2^64 - 1
abbrev pub queue_faults : {D : Type 0} → (D → ℕ) → QueueLog D → ℕ
queue_faults faults log = min (faults (disk_a (queue_pair log)) + faults (disk_b (queue_pair log))) (2 ^ 64 - 1)

abbrev pub held_by : {D K : Type 0} → Sight D K → CoreState D K → Held
held_by w c = record {
  taken = taken_of c.events.list;
  last = c.last;
  pending = length c.pending;
  pending_bytes = payload_bytes c.pending;
  size = queue_size c.queue;
  is_down = is_down w c;
  faults = queue_faults w.faults c.queue;
}

-- ---- what a submit does

module _ {D K : Type 0} (w : Sight D K) where
  -- The clauses of the core's submit, between the core before and the core after.
  pub record SubmitDoes (it : Submitted) (c : Command) (old new : CoreState D K) : Type 0 where
    pub adds : SubmitAdds it c old.last old.events.list new.events.list
    pub writes : SubmitWrites w.tells w.seen it c old new
    pub waits : SubmitWaits it c old.pending new.pending
    pub stands : (start : History) → Stood w old start → Stood w new start
    pub any_moment : (start : History) → Stood w old start → is_down w old ≡ false
        → Within w.may_leave w.moment w.left_since w.images w.store_moment w.images_since old new
        (StandsAmid old.tables.ttls (IsSubmitOf old.last c) (history_of old start) (history_of new start))
    pub submitted : (r : ℕ) (x : Command) → IsSubmitted r x old → IsSubmitted r x new
    pub others : OthersStay old new
    pub store : new.store ≡ old.store
    pub down : (it ≡ came.Down) ↔ (is_down w old ≡ true)
    pub unchanged : it ≡ came.Down → new ≡ old
    pub full : (it ≡ came.Full) ↔ ((is_down w old ≡ false) × IsFull (length c.payload) old.pending)
    pub spent : it ≡ came.Spent → core.IsSpent c old
    pub unspent : is_down w old ≡ false → (IsFull (length c.payload) old.pending → ⊥) → core.IsSpent c old → (it ≡ came.Spent) ⊎ (it ≡ came.Memory)
    pub stays : IsRefusal it → CoreStays old new
    pub fault : it ≡ came.QueueFault → MemoryStays old new
    pub cause : QueueCounts w.faults old.queue new.queue (it ≡ came.QueueFault)
    pub twice : is_down w old ≡ false → queue_down new.queue ≡ true → QueueRoseTwice w.faults old.queue new.queue
    pub up : (it ≡ came.QueueFault → ⊥) → is_down w new ≡ is_down w old

  abbrev pub Does : Command → Submitted → CoreState D K → CoreState D K → Type 0
  Does c s old new = SubmitDoes s c old new

  -- a step of the inbox: the answer, and what the core's submit says of it
  abbrev pub CoreTakes : Command → Submitted → CoreState D K → CoreState D K → Type 0
  CoreTakes c s old new = Takes (held_by w) Does c s old new
