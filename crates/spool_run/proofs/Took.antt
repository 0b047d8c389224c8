-- What was taken in, with one step more.
use Rattle.std.proofs.Common.{◌≡◌, ◌⊎◌, inl, inr, ◌∙◌, refl, sym, ap, subst, ℕ, ℤ, Bool, true, false, List, [], ◌∷◌, ◌++◌, append-nil, arith, Option, Some}
use Rattle.fleet_hub.specs.record_spec.declared.queue.QueueRecord.{QueueRecord}
use Rattle.fleet_hub.specs.record_spec.declared.store.StoreRecord.{StoreRecord}
use Rattle.fleet_hub.specs.fleet_rows.declared.command.Command.{Command}
use Rattle.fleet_hub.specs.fleet_rows.declared.settings.Kinds.{Kinds}
use Rattle.fleet_hub.specs.history_spec.Thread.{Item, command, sweep}
use Rattle.fleet_hub.specs.core_spec.declared.entry.Entry.{Entry}
use Rattle.fleet_hub.specs.core_spec.declared.event.Event.TheVariants.{Submit, Sweep}
use Rattle.fleet_hub.specs.core_spec.History.{History}
use Rattle.fleet_hub.specs.core_spec.Pending.{pending_of}
use Rattle.fleet_hub.specs.core_laws.Threads.{MomentsAreKept}
use Rattle.fleet_hub.specs.core_state.declared.state.CoreState.{CoreState}
use Rattle.fleet_hub.specs.core_state.StandsFor.{history_of}
use Rattle.fleet_hub.specs.core_course.Sight.{Sight, Stood}
use Rattle.fleet_hub.specs.core_course.Courses.{Link, Course, Passed}
use Rattle.fleet_hub.specs.core_course.Work.{IsWork, Worked}
use Rattle.fleet_hub.proofs.of_core_course.Stretches.{history_joined, passed_join, course_joins, course_of_one, course_stays, course_also, link_also}
use Rattle.spool_run.specs.Rules.{IsBatch, before_work, IsDue}
use Rattle.spool_run.specs.Fronts.{ComesNext}
use Rattle.spool_run.specs.Intake.{IsRecordOf, IsReadyFor, MayTake, TookIn}
use Rattle.spool_run.specs.Steps.{Added, AddedNothing}
use Rattle.spool_run.proofs.Runs.{work_items, work_restarts, no_run, at_last, one_submit, one_sweep, some_work, submit_items, sweep_items}

-- what was taken in, and no work behind the last item
pub record Fresh {D K : Type 0} (w : Sight D K) (now : ℤ) (bytes : Option (List ℕ)) (items : List Item) (old new : CoreState D K) : Type 0 where
  pub took : TookIn w now bytes false items old new
  pub fresh : before_work took.more ≡ took.more

module _ {D K : Type 0} (w : Sight D K) (now : ℤ) (bytes : Option (List ℕ)) where
  nothing_passed : (a : CoreState D K) → Passed w [] a a
  nothing_passed a = record {
    events = refl;
    stands = λ start stood. stood;
    submitted = λ r c was. was;
    opening = record { found = refl; opened_a = refl; opened_b = refl; lifetimes = refl; store_opened = refl; store_within = λ since was. was };
    counts = record { queue_a = omega arith; queue_b = omega arith; store = omega arith };
    stays_down = λ down. down;
    queue_twice = λ up down. absurd (let apart : true ≡ false = sym down ∙ up in cc);
    queue_fits = λ short. short;
    store_fits = λ short. short;
    logs = λ up. record {
      queue = λ told records is. is ∙ ap (λ (xs : List QueueRecord). Some xs) (sym (append-nil records));
      store = λ start stood told records is. is ∙ ap (λ (xs : List StoreRecord). Some xs) (sym (append-nil records));
    };
  }

  pub took_nothing : (a : CoreState D K) → Fresh w now bytes [] a a
  took_nothing a = record {
    took = record {
      more = [];
      items_are = refl;
      no_restart = tt;
      rules = λ start stood. no_run false (history_of a start);
      passed = nothing_passed a;
      course = course_stays w (MayTake now bytes a) a;
    };
    fresh = refl;
  }

  module _ (due : Bool) (items : List Item) (a b : CoreState D K) (t : TookIn w now bytes due items a b) where
    -- what waits is what the history says that waits
    pub waiting_is : (start : History) → Stood w a start → b.pending ≡ pending_of (t.more ++ history_of a start)
    waiting_is start stood = (t.passed.stands start stood).holds.says.pending ∙ ap pending_of (history_joined t.more a b start t.passed.events)

    moments_there : (c : CoreState D K) (h : Worked w b c) (start : History) → Stood w a start → MomentsAreKept (t.more ++ history_of a start) h.more
    moments_there c h start stood = subst (λ was. MomentsAreKept was h.more) (history_joined t.more a b start t.passed.events) (h.moments start (t.passed.stands start stood))

    pub took_work : (c : CoreState D K) → Worked w b c → ((start : History) → Stood w a start → IsDue due (pending_of (before_work t.more ++ history_of a start))) → TookIn w now bytes due items a c
    took_work c h here = record {
      more = h.more ++ t.more;
      items_are = work_items h.more t.more h.only ∙ t.items_are;
      no_restart = work_restarts h.more t.more h.only t.no_restart;
      rules = λ start stood. some_work (history_of a start) t.more due h.more (t.rules start stood) (here start stood) h.only (moments_there c h start stood);
      passed = passed_join w t.more h.more a b c t.passed h.passed;
      course = course_joins w (MayTake now bytes a) a b c t.course
          (course_also w (λ core begun. IsWork begun) (MayTake now bytes a) (λ core begun work. inl work) b c h.course);
    }

    -- the record that a call writes is that of the item that comes next
    next_course : (item : Item) → ComesNext now bytes items item → IsReadyFor item t.more b.pending → (c : CoreState D K) → Link w (λ begun. IsRecordOf b.last item begun) b c → Course w (MayTake now bytes a) a c
    next_course item comes ready c link =
        let next : (begun : History) → IsRecordOf b.last item begun → MayTake now bytes a b begun = λ begun is. inr (record {
          more = t.more;
          since = t.passed.events;
          item = item;
          comes = subst (λ (its : List Item). ComesNext now bytes its item) (sym t.items_are) comes;
          ready = ready;
          record_is = is;
        }) in
        course_joins w (MayTake now bytes a) a b c t.course (course_of_one w (MayTake now bytes a) b c (link_also w (λ begun. IsRecordOf b.last item begun) (MayTake now bytes a b) next b c link))

    pub took_still : (item : Item) → ComesNext now bytes items item → IsReadyFor item t.more b.pending → (c : CoreState D K) → AddedNothing w item b c
        → (still : TookIn w now bytes due items a c) × (still.more ≡ t.more)
    took_still item comes ready c s = (
      record {
        more = t.more;
        items_are = t.items_are;
        no_restart = t.no_restart;
        rules = t.rules;
        passed = passed_join w t.more [] a b c t.passed s.passed;
        course = next_course item comes ready c s.link;
      },
      refl,
    )

  pub took_last : (items : List Item) (a b : CoreState D K) → TookIn w now bytes false items a b → TookIn w now bytes true items a b
  took_last items a b t = record {
    more = t.more;
    items_are = t.items_are;
    no_restart = t.no_restart;
    rules = λ start stood. at_last (history_of a start) t.more (t.rules start stood);
    passed = t.passed;
    course = t.course;
  }

  -- settled at the end, or before a sweep
  pub took_end : (items : List Item) (a b c : CoreState D K) → TookIn w now bytes false items a b → Worked w b c → TookIn w now bytes true items a c
  took_end items a b c t h = took_work true items a b (took_last items a b t) c h (λ start stood. tt)

  -- settled as a batch
  pub took_batch : (items : List Item) (a b c : CoreState D K) → Fresh w now bytes items a b → IsBatch b.pending → Worked w b c → TookIn w now bytes false items a c
  took_batch items a b c f many h =
      took_work false items a b f.took c h (λ start stood.
      subst (λ (es : List Entry). IsBatch es) (waiting_is false items a b f.took start stood ∙ ap (λ run. pending_of (run ++ history_of a start)) (sym f.fresh)) many)

  -- no drain left a part of what waited
  whole_there : (items : List Item) (a b : CoreState D K) (t : TookIn w now bytes false items a b) (start : History) → Stood w a start → (before_work t.more ≡ t.more) ⊎ (b.pending ≡ [])
      → (before_work t.more ≡ t.more) ⊎ (pending_of (t.more ++ history_of a start) ≡ [])
  whole_there items a b t start stood (inl fresh) = inl fresh
  whole_there items a b t start stood (inr none) = inr (sym (waiting_is false items a b t start stood) ∙ none)

  pub took_command : (items : List Item) (a b c : CoreState D K) (r : ℕ) (x : Command) → ComesNext now bytes items (command x) → (t : TookIn w now bytes false items a b) → (IsBatch b.pending → ⊥)
      → (before_work t.more ≡ t.more) ⊎ (b.pending ≡ []) → Added w (command x) (Submit r x) b c → Fresh w now bytes (items ++ command x ∷ []) a c
  took_command items a b c r x comes t few whole s = record {
    took = record {
      more = Submit r x ∷ t.more;
      items_are = submit_items r x t.more items t.items_are;
      no_restart = t.no_restart;
      rules = λ start stood. one_submit (history_of a start) t.more r x (t.rules start stood) (λ many. few (subst (λ (es : List Entry). IsBatch es) (sym (waiting_is false items a b t start stood)) many)) (whole_there items a b t start stood whole);
      passed = passed_join w t.more (Submit r x ∷ []) a b c t.passed s.passed;
      course = next_course false items a b t (command x) comes (record { few = few; whole = whole }) c s.link;
    };
    fresh = refl;
  }

  pub took_sweep : (items : List Item) (a b c : CoreState D K) (kinds : Kinds) (m : ℤ) → ComesNext now bytes items (sweep kinds m) → TookIn w now bytes true items a b → b.pending ≡ []
      → Added w (sweep kinds m) (Sweep kinds m) b c → TookIn w now bytes false (items ++ sweep kinds m ∷ []) a c
  took_sweep items a b c kinds m comes t none s = record {
    more = Sweep kinds m ∷ t.more;
    items_are = sweep_items kinds m t.more items t.items_are;
    no_restart = t.no_restart;
    rules = λ start stood. one_sweep (history_of a start) t.more kinds m (t.rules start stood) (sym (waiting_is true items a b t start stood) ∙ none);
    passed = passed_join w t.more (Sweep kinds m ∷ []) a b c t.passed s.passed;
    course = next_course true items a b t (sweep kinds m) comes none c s.link;
  }
