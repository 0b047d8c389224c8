-- A submit of a core is one of an inbox.
use Rattle.std.proofs.Common.{◌≡◌, ◌∙◌, inl, inr, ℕ, ◌+◌, ◌≤◌, ◌||◌, Bool, true, false, List, [], ◌∷◌, ◌++◌, length, arith, refl, sym, ap, subst}
use Rattle.std.proofs.lemmas.List.{length-append}
use Rattle.core_ends.specs.fleet_rows.declared.command.Command.{Command}
use Rattle.core_ends.specs.record_spec.declared.queue.QueueRecord.TheVariants as queue
use Rattle.core_ends.specs.record_spec.Queue.{queue_text}
use Rattle.core_ends.specs.log_pair.Pair.{disk_a, disk_b}
use Rattle.core_ends.specs.core_spec.declared.entry.Entry.{Entry}
use Rattle.core_ends.specs.core_machine.Steps.{new_entry}
use Rattle.core_ends.specs.supersede_core.Waiting.{payload_bytes}
use Rattle.core_ends.specs.queue_log.Queued.{queue_pair, queue_down, queue_size}
use Rattle.core_ends.specs.core_state.declared.state.CoreState.{CoreState}
use Rattle.core_ends.specs.core_state.Changes.{CoreStays}
use Rattle.fleet_rows.specs.declared.submitted.Submitted.TheVariants as came
use Rattle.core_ends.specs.core_course.Sight.{Sight, is_down}
use Rattle.link_serving.specs.http_routes.Inbox.{HasRoom, TakesIn, Faults, IsSpent, IsSubmit}
use Rattle.fleet_rows.specs.declared.submitted.Submitted.{Submitted}
use Rattle.core_inbox.specs.Submits.{taken_of, queue_faults, held_by, SubmitDoes, CoreTakes}
use Rattle.core_inbox.proofs.Counts.{sum_later, sum_rose, sum_calm}

false_else : (b : Bool) → (b ≡ true → ⊥) → b ≡ false
false_else true never = absurd (never refl)
false_else false never = refl

one_waits_more : (es : List Entry) (e : Entry) → payload_bytes (es ++ e ∷ []) ≡ payload_bytes es + length e.command.payload
one_waits_more [] e = omega arith
one_waits_more (x ∷ es) e = let rest = one_waits_more es e in omega (arith, rest)

module _ {D K : Type 0} (w : Sight D K) (c : Command) (old new : CoreState D K) where
  held_stays : CoreStays old new → held_by w new ≡ held_by w old
  held_stays stays =
      let m = stays.memory in
      λ i. record {
        taken = taken_of (m.events i);
        last = m.last i;
        pending = length (m.pending i);
        pending_bytes = payload_bytes (m.pending i);
        size = queue_size (stays.queue i);
        is_down = m.others.undone i || (queue_down (stays.queue i) || w.store_down (stays.store i));
        faults = queue_faults w.faults (stays.queue i);
      }

  module _ (it : Submitted) (d : SubmitDoes w it c old new) (not_down : it ≡ came.Down → ⊥) (not_full : it ≡ came.Full → ⊥) where
    was_up : is_down w old ≡ false
    was_up = false_else (is_down w old) (λ down. not_down (d.down.1 down))

    has_room : HasRoom c (held_by w old)
    has_room = record { up = was_up; room = λ full. not_full (d.full.1 (was_up, full)) }

    -- a receipt and room were left
    not_spent : (it ≡ came.Spent → ⊥) → (it ≡ came.Memory → ⊥) → IsSpent c (held_by w old) → ⊥
    not_spent no_spent no_memory is =
        elim (d.unspent was_up (λ full. not_full (d.full.1 (was_up, full))) is) [ inl spent ↦ no_spent spent | inr starved ↦ no_memory starved ]

  module _ (it : Submitted) (d : SubmitDoes w it c old new) where
    faults_later : queue_faults w.faults old.queue ≤ queue_faults w.faults new.queue
    faults_later =
        sum_later (w.faults (disk_a (queue_pair old.queue))) (w.faults (disk_a (queue_pair new.queue))) (w.faults (disk_b (queue_pair old.queue))) (w.faults (disk_b (queue_pair new.queue))) d.cause

    faults_calm : (it ≡ came.QueueFault → ⊥) → queue_faults w.faults new.queue ≡ queue_faults w.faults old.queue
    faults_calm none =
        sum_calm (w.faults (disk_a (queue_pair old.queue))) (w.faults (disk_a (queue_pair new.queue))) (w.faults (disk_b (queue_pair old.queue))) (w.faults (disk_b (queue_pair new.queue))) d.cause none

  takes_in : (r : ℕ) → SubmitDoes w (came.Receipt r) c old new → TakesIn c r (held_by w old) (held_by w new)
  takes_in r d = record {
    next = d.adds.0;
    taken = ap taken_of d.adds.1;
    last = d.writes.0;
    pending = ap length d.waits ∙ length-append old.pending (new_entry r c ∷ []);
    pending_bytes = ap payload_bytes d.waits ∙ one_waits_more old.pending (new_entry r c);
    size = d.writes.1 ∙ ap (λ (q : ℕ). queue_size old.queue + 5 + length (queue_text (queue.Submit q c))) d.adds.0;
    up = d.up (λ e. cc);
    calm = faults_calm (came.Receipt r) d (λ e. cc);
  }

  has_faults : SubmitDoes w came.QueueFault c old new → Faults (held_by w old) (held_by w new)
  has_faults d = record {
    taken = ap taken_of d.adds;
    last = d.writes.0;
    pending = ap length d.waits;
    pending_bytes = ap payload_bytes d.waits;
    size = d.writes.1;
    rose =
        sum_rose (w.faults (disk_a (queue_pair old.queue))) (w.faults (disk_a (queue_pair new.queue))) (w.faults (disk_b (queue_pair old.queue))) (w.faults (disk_b (queue_pair new.queue))) d.cause
        refl;
    later = faults_later came.QueueFault d;
  }

  pub is_submit : (it : Submitted) → SubmitDoes w it c old new → IsSubmit c it (held_by w old) (held_by w new)
  is_submit (came.Receipt r) d = (has_room (came.Receipt r) d (λ e. cc) (λ e. cc), not_spent (came.Receipt r) d (λ e. cc) (λ e. cc) (λ e. cc) (λ e. cc), takes_in r d)
  is_submit came.Full d = let full = d.full.0 refl in (full.0, full.1, held_stays (d.stays tt))
  is_submit came.QueueFault d = (has_room came.QueueFault d (λ e. cc) (λ e. cc), not_spent came.QueueFault d (λ e. cc) (λ e. cc) (λ e. cc) (λ e. cc), has_faults d)
  is_submit came.Spent d = (has_room came.Spent d (λ e. cc) (λ e. cc), d.spent refl, held_stays (d.stays tt))
  is_submit came.Down d = (d.down.0 refl, ap (held_by w) (d.unchanged refl))
  is_submit came.Memory d = (has_room came.Memory d (λ e. cc) (λ e. cc), held_stays (d.stays tt))

  pub submit_takes : (it : Submitted) → SubmitDoes w it c old new → CoreTakes w c it old new
  submit_takes it does = (is_submit it does, does)
