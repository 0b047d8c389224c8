-- What commands that are handed in make of a core, one after the other.
use Rattle.std.proofs.Common.{◌≡◌, ◌∙◌, inl, inr, ℕ, ◌+◌, ◌-◌, ◌^◌, ◌≤◌, true, false, Bool, List, [], ◌∷◌, Some, append-nil, arith, refl, sym, ap, subst}
use Rattle.core_ends.specs.fleet_rows.declared.command.Command.{Command}
use Rattle.core_ends.specs.log_pair.Pair.{disk_a, disk_b}
use Rattle.core_ends.specs.queue_log.Queued.{queue_pair}
use Rattle.core_ends.specs.record_spec.declared.queue.QueueRecord.{QueueRecord}
use Rattle.core_ends.specs.record_spec.declared.store.StoreRecord.{StoreRecord}
use Rattle.core_ends.specs.core_spec.declared.event.Event.TheVariants.{Submit}
use Rattle.core_ends.specs.core_spec.History.{History}
use Rattle.core_ends.specs.core_state.declared.state.CoreState.{CoreState}
use Rattle.core_ends.specs.core_state.Changes.{CoreStays}
use Rattle.core_ends.specs.core_course.Sight.{Sight, is_down}
use Rattle.core_ends.specs.core_course.Courses.{silent, Link, Course, CountsRise, Passed}
use Rattle.core_ends.specs.Ends.{QueueRose}
use Rattle.core_ends.proofs.of_core_course.Stretches.{passed_join, course_joins, course_of_one, course_stays, course_also, link_also}
use Rattle.core_ends.proofs.Submits.{SubmitSays, submit_events, submit_passes, submit_link}
use Rattle.fleet_rows.specs.declared.submitted.Submitted.{Submitted}
use Rattle.fleet_rows.specs.declared.submitted.Submitted.TheVariants as answer
use Rattle.core_inbox.specs.Submits.{SubmitDoes, CoreTakes}
use Rattle.core_inbox.specs.Intake.{Asked, AreTaken, taken_in, came_in, IsRecordOfThis, IsRecordOfOne, one_fault, fault_number, IsDownAmong, QueueRoseBy, CameIn}
use Rattle.core_inbox.proofs.Counts.{both_none, both_rose, both_on, rose_later, rose_before}

same_events : (s : Submitted) (c : Command) → submit_events s c ≡ taken_in c s
same_events (answer.Receipt r) c = refl
same_events answer.Full c = refl
same_events answer.QueueFault c = refl
same_events answer.Spent c = refl
same_events answer.Down c = refl
same_events answer.Memory c = refl

module _ {D K : Type 0} (w : Sight D K) where
  nothing_passed : (a : CoreState D K) → Passed w [] a a
  nothing_passed a = record {
    events = refl;
    stands = λ start stood. stood;
    submitted = λ r c was. was;
    opening = record { found = refl; opened_a = refl; opened_b = refl; lifetimes = refl; store_opened = refl; store_within = λ since was. was };
    counts = record { queue_a = omega arith; queue_b = omega arith; store = omega arith };
    stays_down = λ down. down;
    queue_twice = λ up down. absurd (let apart : true ≡ false = sym down ∙ up in cc);
    queue_fits = λ short. short;
    store_fits = λ short. short;
    logs = λ up. record {
      queue = λ told records is. is ∙ ap (λ (xs : List QueueRecord). Some xs) (sym (append-nil records));
      store = λ start stood told records is. is ∙ ap (λ (xs : List StoreRecord). Some xs) (sym (append-nil records));
    };
  }

  abbrev May : List Asked → CoreState D K → History → Type 0
  May asked core begun = IsRecordOfOne asked core.last begun

  says_of : (c : Command) (s : Submitted) (old new : CoreState D K) → SubmitDoes w s c old new → SubmitSays w s c old new
  says_of c s old new d = record {
    adds = d.adds;
    writes = d.writes;
    stands = d.stands;
    any_moment = d.any_moment;
    submitted = d.submitted;
    others = d.others;
    store = d.store;
    down = d.down;
    unchanged = d.unchanged;
    cause = d.cause;
    twice = d.twice;
  }

  -- a call that left both logs as they were wrote nothing
  link_silent : (Wrote Also : History → Type 0) (a b : CoreState D K) → Link w Wrote a b → b.queue ≡ a.queue → b.store ≡ a.store → Link w Also a b
  link_silent Wrote Also a b link queue store =
      record { goes = link.goes; one_call = link.one_call; lifetimes = link.lifetimes; stands = link.stands; disks = silent queue store; stays_down = link.stays_down }

  -- ---- the counts of the queue's disks

  abbrev first_of_two : CoreState D K → ℕ
  first_of_two core = w.faults (disk_a (queue_pair core.queue))

  abbrev second_of_two : CoreState D K → ℕ
  second_of_two core = w.faults (disk_b (queue_pair core.queue))

  rose_by_none : (a b : CoreState D K) → first_of_two a ≤ first_of_two b → second_of_two a ≤ second_of_two b → QueueRoseBy 0 w a b
  rose_by_none a b later_a later_b = both_none (2 ^ 64 - 1) (first_of_two a) (first_of_two b) (second_of_two a) (second_of_two b) later_a later_b

  one_rose : (c : Command) (s : Submitted) (old new : CoreState D K) → CoreTakes w c s old new → QueueRoseBy (one_fault s) w old new
  one_rose c (answer.Receipt r) old new step = rose_by_none old new step.1.cause.later_a step.1.cause.later_b
  one_rose c answer.Full old new step = rose_by_none old new step.1.cause.later_a step.1.cause.later_b
  one_rose c answer.QueueFault old new step =
      both_rose (2 ^ 64 - 1) (first_of_two old) (first_of_two new) (second_of_two old) (second_of_two new) step.1.cause.later_a step.1.cause.later_b (step.1.cause.cause refl)
  one_rose c answer.Spent old new step = rose_by_none old new step.1.cause.later_a step.1.cause.later_b
  one_rose c answer.Down old new step = rose_by_none old new step.1.cause.later_a step.1.cause.later_b
  one_rose c answer.Memory old new step = rose_by_none old new step.1.cause.later_a step.1.cause.later_b

  rose_on : (n k : ℕ) (a b c : CoreState D K) → CountsRise w b c → QueueRoseBy n w a b → QueueRoseBy k w b c → QueueRoseBy (n + k) w a c
  rose_on n k a b c counts first second =
      both_on (2 ^ 64 - 1) n k (first_of_two a) (first_of_two b) (first_of_two c) (second_of_two a) (second_of_two b) (second_of_two c) counts.queue_a counts.queue_b first second

  rose_first : (a b c : CoreState D K) → QueueRose w a b → CountsRise w b c → QueueRose w a c
  rose_first a b c (inl rose) counts = inl (rose_before (first_of_two a) (first_of_two b) (first_of_two c) rose counts.queue_a)
  rose_first a b c (inr rose) counts = inr (rose_before (second_of_two a) (second_of_two b) (second_of_two c) rose counts.queue_b)

  rose_then : (a b c : CoreState D K) → CountsRise w a b → QueueRose w b c → QueueRose w a c
  rose_then a b c counts (inl rose) = inl (rose_later (first_of_two a) (first_of_two b) (first_of_two c) counts.queue_a rose)
  rose_then a b c counts (inr rose) = inr (rose_later (second_of_two a) (second_of_two b) (second_of_two c) counts.queue_b rose)

  -- ---- down

  up_and_down : {P : Type 0} (core : CoreState D K) → is_down w core ≡ false → is_down w core ≡ true → P
  up_and_down core up down = absurd (let apart : false ≡ true = sym up ∙ down in cc)

  -- a call that takes it down counts a fault
  went_down : (c : Command) (s : Submitted) (old new : CoreState D K) → CoreTakes w c s old new → is_down w old ≡ false → is_down w new ≡ true → QueueRose w old new
  went_down c (answer.Receipt r) old new step up down = up_and_down old up (sym (step.1.up (λ e. cc)) ∙ down)
  went_down c answer.Full old new step up down = up_and_down old up (sym (step.1.up (λ e. cc)) ∙ down)
  went_down c answer.QueueFault old new step up down = step.1.cause.cause refl
  went_down c answer.Spent old new step up down = up_and_down old up (sym (step.1.up (λ e. cc)) ∙ down)
  went_down c answer.Down old new step up down = up_and_down old up (sym (step.1.up (λ e. cc)) ∙ down)
  went_down c answer.Memory old new step up down = up_and_down old up (sym (step.1.up (λ e. cc)) ∙ down)

  -- ---- one call

  module _ (c : Command) (asked : List Asked) (old new : CoreState D K) where
    linked : (s : Submitted) → CoreTakes w c s old new → Link w (λ begun. begun ≡ Submit (old.last + 1) c ∷ []) old new
    linked s step = submit_link w s c old new (says_of c s old new step.1)

    abbrev This : Submitted → History → Type 0
    This s begun = IsRecordOfThis c s old.last begun

    refused : (s : Submitted) → CoreTakes w c s old new → CoreStays old new → Link w (λ begun. This s begun) old new
    refused s step stays = link_silent (λ begun. begun ≡ Submit (old.last + 1) c ∷ []) (λ begun. This s begun) old new (linked s step) stays.queue stays.store

    -- the record that it may write is that of the command, where the answer lets it
    this_link : (s : Submitted) → CoreTakes w c s old new → Link w (λ begun. This s begun) old new
    this_link (answer.Receipt r) step =
        link_also w (λ begun. begun ≡ Submit (old.last + 1) c ∷ []) (λ begun. This (answer.Receipt r) begun)
        (λ begun is. (is, inl (ap (λ (n : ℕ). answer.Receipt n) step.1.adds.0))) old new (linked (answer.Receipt r) step)
    this_link answer.Full step = refused answer.Full step (step.1.stays tt)
    this_link answer.QueueFault step =
        link_also w (λ begun. begun ≡ Submit (old.last + 1) c ∷ []) (λ begun. This answer.QueueFault begun) (λ begun is. (is, inr refl)) old new (linked answer.QueueFault step)
    this_link answer.Spent step = refused answer.Spent step (step.1.stays tt)
    this_link answer.Down step = refused answer.Down step (step.1.stays tt)
    this_link answer.Memory step = refused answer.Memory step (step.1.stays tt)

    one_link : (s : Submitted) → CoreTakes w c s old new → Link w (May ((c, s) ∷ asked) old) old new
    one_link s step = link_also w (λ begun. This s begun) (May ((c, s) ∷ asked) old) (λ begun is. inl is) old new (this_link s step)

  module _ (c : Command) (s : Submitted) (asked : List Asked) (old between new : CoreState D K) (step : CoreTakes w c s old between) (more : CameIn w asked between new) where
    one_passed : Passed w (taken_in c s) old between
    one_passed = subst (λ (es : History). Passed w es old between) (same_events s c) (submit_passes w s c old between (says_of c s old between step.1))

    one_course : Course w (May ((c, s) ∷ asked)) old between
    one_course = course_of_one w (May ((c, s) ∷ asked)) old between (one_link c asked old between s step)

    one_down : is_down w old ≡ false → IsDownAmong ((c, s) ∷ asked) → QueueRose w old new
    one_down up (inl is) = up_and_down old up (step.1.down.0 is)
    one_down up (inr rest) = by_between (is_down w between) refl
      where
        by_between : (b : Bool) → is_down w between ≡ b → QueueRose w old new
        by_between true down = rose_first old between new (went_down c s old between step up down) more.passed.counts
        by_between false still = rose_then old between new one_passed.counts (more.down still rest)

    one_more : CameIn w ((c, s) ∷ asked) old new
    one_more = record {
      taken = (between, step, more.taken);
      passed = passed_join w (taken_in c s) (came_in asked) old between new one_passed more.passed;
      course = course_joins w (May ((c, s) ∷ asked)) old between new one_course (course_also w (May asked) (May ((c, s) ∷ asked)) (λ core begun is. inr is) between new more.course);
      each = (between, (step, this_link c asked old between s step), more.each);
      faults = rose_on (one_fault s) (fault_number asked) old between new more.passed.counts (one_rose c s old between step) more.faults;
      down = one_down;
    }

  nothing_came : (a : CoreState D K) → CameIn w [] a a
  nothing_came a = record {
    taken = refl;
    passed = nothing_passed a;
    course = course_stays w (May []) a;
    each = refl;
    faults = rose_by_none a a (omega arith) (omega arith);
    down = λ up none. absurd none;
  }

  pub came_so : (asked : List Asked) (old new : CoreState D K) → AreTaken (CoreTakes w) asked old new → CameIn w asked old new
  came_so [] old new same = subst (λ (x : CoreState D K). CameIn w [] old x) (sym same) (nothing_came old)
  came_so ((c, s) ∷ asked) old new (between, step, more) = one_more c s asked old between new step (came_so asked between new more)
