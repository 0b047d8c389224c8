-- A command that comes in.
use Rattle.std.proofs.Common.{◌≡◌, ◌∙◌, ◌↔◌, ℕ, ◌+◌, true, false, List, [], ◌∷◌, ◌++◌, Some, IsTrue, refl, sym, ap, ◌≤◌, arith}
use Rattle.command_decode.specs.fleet_rows.declared.command.Command.{Command}
use Rattle.command_core.specs.record_spec.declared.queue.QueueRecord.{QueueRecord}
use Rattle.command_core.specs.record_spec.declared.queue.QueueRecord.TheVariants as queue
use Rattle.command_core.specs.record_spec.declared.store.StoreRecord.{StoreRecord}
use Rattle.command_core.specs.core_spec.declared.event.Event.TheVariants.{Submit}
use Rattle.command_core.specs.core_spec.History.{History}
use Rattle.command_core.specs.core_spec.Stands.{queue_trace, store_trace}
use Rattle.command_core.specs.queue_log.Queued.{queued, queue_down, queue_size}
use Rattle.command_core.specs.core_state.declared.state.CoreState.{CoreState}
use Rattle.command_core.specs.core_state.Changes.{OthersStay}
use Rattle.command_core.specs.core_state.Moments.{Within, StandsAmid}
use Rattle.command_core.specs.core_state.Puts.{QueueCounts, QueueRoseTwice}
use Rattle.command_core.specs.core_state.Seen.{IsSubmitted}
use Rattle.command_core.specs.core_state.StandsFor.{one, history_of}
use Rattle.fleet_rows.specs.declared.submitted.Submitted.{Submitted}
use Rattle.fleet_rows.specs.declared.submitted.Submitted.TheVariants as answer
use Rattle.command_core.specs.core_submits.Submits.{IsSubmitOf, SubmitAdds, SubmitWrites}
use Rattle.core_course.specs.Sight.{Sight, Stood, is_down}
use Rattle.core_course.specs.Courses.{DisksGo, Link, Passed, AreOfOneCall, no_event, one_event}
use Rattle.core_ends.proofs.Links.{core_up, written, same_opening, queue_counts, same_faults, link_of, went_twice, same_store_fits}
use Rattle.core_ends.proofs.Records.{none_more, one_more}
use Rattle.command_core.specs.log_spec.Limits.{most_log}

-- the events of an answer
abbrev pub submit_events : Submitted → Command → History
submit_events (answer.Receipt r) c = Submit r c ∷ []
submit_events answer.Full c = []
submit_events answer.QueueFault c = []
submit_events answer.Spent c = []
submit_events answer.Down c = []
submit_events answer.Memory c = []

added : (came : Submitted) (c : Command) (last : ℕ) (old new : History) → SubmitAdds came c last old new → new ≡ submit_events came c ++ old
added (answer.Receipt r) c last old new h = h.1
added answer.Full c last old new h = h
added answer.QueueFault c last old new h = h
added answer.Spent c last old new h = h
added answer.Down c last old new h = h
added answer.Memory c last old new h = h

submitted_at_once : (came : Submitted) (c : Command) → AreOfOneCall (submit_events came c)
submitted_at_once (answer.Receipt r) c = one_event (Submit r c) refl
submitted_at_once answer.Full c = no_event refl
submitted_at_once answer.QueueFault c = no_event refl
submitted_at_once answer.Spent c = no_event refl
submitted_at_once answer.Down c = no_event refl
submitted_at_once answer.Memory c = no_event refl

stores_none : (came : Submitted) (c : Command) (upto : History) → store_trace upto (submit_events came c) ≡ []
stores_none (answer.Receipt r) c upto = refl
stores_none answer.Full c upto = refl
stores_none answer.QueueFault c upto = refl
stores_none answer.Spent c upto = refl
stores_none answer.Down c upto = refl
stores_none answer.Memory c upto = refl

module _ {D K : Type 0} (w : Sight D K) where
  queues : (came : Submitted) (c : Command) (old new : CoreState D K) → SubmitWrites w.tells w.seen came c old new → queue_down new.queue ≡ false → IsTrue w.tells
      → (records : List QueueRecord) → queued w.seen old.queue ≡ Some records → queued w.seen new.queue ≡ Some (records ++ queue_trace (submit_events came c))
  queues (answer.Receipt r) c old new h up told records is = one_more (queued w.seen old.queue) (queued w.seen new.queue) (queue.Submit r c) records (h.2 told) is
  queues answer.Full c old new h up told records is = none_more (queued w.seen old.queue) (queued w.seen new.queue) records (h.2 up told) is
  queues answer.QueueFault c old new h up told records is = none_more (queued w.seen old.queue) (queued w.seen new.queue) records (h.2 up told) is
  queues answer.Spent c old new h up told records is = none_more (queued w.seen old.queue) (queued w.seen new.queue) records (h.2 up told) is
  queues answer.Down c old new h up told records is = none_more (queued w.seen old.queue) (queued w.seen new.queue) records (h.2 up told) is
  queues answer.Memory c old new h up told records is = none_more (queued w.seen old.queue) (queued w.seen new.queue) records (h.2 up told) is

  fits : (came : Submitted) (c : Command) (old new : CoreState D K) → SubmitWrites w.tells w.seen came c old new → queue_size old.queue ≤ most_log → queue_size new.queue ≤ most_log
  fits (answer.Receipt r) c old new h short = h.3
  fits answer.Full c old new h short = let same = h.1 in omega (arith, same, short)
  fits answer.QueueFault c old new h short = let same = h.1 in omega (arith, same, short)
  fits answer.Spent c old new h short = let same = h.1 in omega (arith, same, short)
  fits answer.Down c old new h short = let same = h.1 in omega (arith, same, short)
  fits answer.Memory c old new h short = let same = h.1 in omega (arith, same, short)

  -- the clauses of a submit
  pub record SubmitSays (came : Submitted) (c : Command) (old new : CoreState D K) : Type 0 where
    pub adds : SubmitAdds came c old.last old.events.list new.events.list
    pub writes : SubmitWrites w.tells w.seen came c old new
    pub stands : (start : History) → Stood w old start → Stood w new start
    pub any_moment : (start : History) → Stood w old start → is_down w old ≡ false
        → Within w.may_leave w.moment w.left_since w.images w.store_moment w.images_since old new
        (StandsAmid old.tables.ttls (IsSubmitOf old.last c) (history_of old start) (history_of new start))
    pub submitted : (r : ℕ) (x : Command) → IsSubmitted r x old → IsSubmitted r x new
    pub others : OthersStay old new
    pub store : new.store ≡ old.store
    pub down : (came ≡ answer.Down) ↔ (is_down w old ≡ true)
    pub unchanged : came ≡ answer.Down → new ≡ old
    pub cause : QueueCounts w.faults old.queue new.queue (came ≡ answer.QueueFault)
    pub twice : is_down w old ≡ false → queue_down new.queue ≡ true → QueueRoseTwice w.faults old.queue new.queue

  module _ (came : Submitted) (c : Command) (old new : CoreState D K) (says : SubmitSays came c old new) where
    still_down : is_down w old ≡ true → is_down w new ≡ true
    still_down down = ap (is_down w) (says.unchanged (says.down.1 down)) ∙ down

    pub submit_passes : Passed w (submit_events came c) old new
    submit_passes = record {
      events = added came c old.last old.events.list new.events.list says.adds;
      stands = says.stands;
      submitted = says.submitted;
      opening = same_opening w old new says.others says.store;
      counts = queue_counts w (came ≡ answer.QueueFault) old new says.cause (same_faults w old new says.store);
      stays_down = still_down;
      queue_twice = went_twice w old new (λ down. says.unchanged (says.down.1 down)) says.twice;
      queue_fits = fits came c old new says.writes;
      store_fits = same_store_fits w old new says.store;
      logs = λ up. record {
        queue = λ told records is. queues came c old new says.writes (core_up w new up).queue told records is;
        store = λ start stood told records is.
            none_more (w.kept old.store) (w.kept new.store) records (ap w.kept says.store) is
            ∙ ap (λ (xs : List StoreRecord). Some (records ++ xs)) (sym (stores_none came c (history_of old start)));
      };
    }

    submit_disks : DisksGo w (λ begun. begun ≡ Submit (old.last + 1) c ∷ []) old new
    submit_disks =
        written w (λ start. IsSubmitOf old.last c) (λ begun. begun ≡ Submit (old.last + 1) c ∷ []) old new (λ start upto begun is. (one (Submit (old.last + 1) c) tt is, is))
        (λ down. says.unchanged (says.down.1 down)) says.any_moment

    -- the record that it writes is that of the command, under the next receipt
    pub submit_link : Link w (λ begun. begun ≡ Submit (old.last + 1) c ∷ []) old new
    submit_link = link_of w (λ begun. begun ≡ Submit (old.last + 1) c ∷ []) (submit_events came c) old new (submitted_at_once came c) submit_passes submit_disks
