-- Stretches of calls join.
use Rattle.std.proofs.Common.{◌≡◌, ◌∙◌, inl, inr, Bool, true, false, List, [], ◌∷◌, ◌++◌, Option, Some, arith, refl, sym, ap, subst, append_assoc}
use Rattle.core_state.specs.fleet_rows.declared.settings.Ttls.{Ttls}
use Rattle.core_state.specs.record_spec.declared.queue.QueueRecord.{QueueRecord}
use Rattle.core_state.specs.record_spec.declared.store.StoreRecord.{StoreRecord}
use Rattle.core_state.specs.core_spec.History.{History}
use Rattle.core_state.specs.core_spec.Stands.{queue_trace, store_trace}
use Rattle.core_state.specs.core_laws.Threads.{MomentsAreKept}
use Rattle.core_state.specs.queue_log.Queued.{queue_down}
use Rattle.core_state.specs.declared.state.CoreState.{CoreState}
use Rattle.core_state.specs.Moments.{StandsAmid}
use Rattle.core_state.specs.Puts.{QueueRoseTwice}
use Rattle.core_state.specs.StandsFor.{AreOfOneRecord, history_of}
use Rattle.core_state.proofs.of_fleet_keeper.Within.{rose_from}
use Rattle.core_course.specs.Sight.{Sight, is_down}
use Rattle.core_course.specs.Courses.{DisksGo, silent, writes, Link, AreLinked, Course, CountsRise, SameOpening, LogsGrow, Passed, no_event}
use Rattle.core_course.specs.Work.{IsWork, KeepsMoments, Worked}
use Rattle.core_course.proofs.Traces.{queue_trace-append, store_trace-append, work_joined, moments_joined}

-- the history that a core with these further events stands for
pub history_joined : {D K : Type 0} (more : History) (a b : CoreState D K) (start : History) → b.events.list ≡ more ++ a.events.list → history_of b start ≡ more ++ history_of a start
history_joined more a b start e = ap (λ (es : History). es ++ start) e ∙ append_assoc more a.events.list start

pub false_so : (b c : Bool) → (b ≡ true → c ≡ true) → c ≡ false → b ≡ false
false_so true c h f = sym (h refl) ∙ f
false_so false c h f = refl

module _ {D K : Type 0} (w : Sight D K) where
  -- a core that isn't down after a stretch wasn't before it
  pub up_before : (more : History) (a b : CoreState D K) → Passed w more a b → is_down w b ≡ false → is_down w a ≡ false
  up_before more a b p up = false_so (is_down w a) (is_down w b) p.stays_down up

  counts_join : (a b c : CoreState D K) → CountsRise w a b → CountsRise w b c → CountsRise w a c
  counts_join a b c p q = record {
    queue_a = omega (arith, p.queue_a, q.queue_a);
    queue_b = omega (arith, p.queue_b, q.queue_b);
    store = omega (arith, p.store, q.store);
  }

  openings_join : (a b c : CoreState D K) → SameOpening w a b → SameOpening w b c → SameOpening w a c
  openings_join a b c p q = record {
    found = q.found ∙ p.found;
    opened_a = q.opened_a ∙ p.opened_a;
    opened_b = q.opened_b ∙ p.opened_b;
    lifetimes = q.lifetimes ∙ p.lifetimes;
    store_opened = q.store_opened ∙ p.store_opened;
    store_within = λ since h. q.store_within since (p.store_within since h);
  }

  module _ (first second : History) (a b c : CoreState D K) (p : Passed w first a b) (q : Passed w second b c) where
    queues_join : (records : List QueueRecord) → (records ++ queue_trace first) ++ queue_trace second ≡ records ++ queue_trace (second ++ first)
    queues_join records =
        append_assoc records (queue_trace first) (queue_trace second) ∙ ap (λ (xs : List QueueRecord). records ++ xs) (sym (queue_trace-append second first))

    stores_join : (start : History) (records : List StoreRecord)
        → (records ++ store_trace (history_of a start) first) ++ store_trace (history_of b start) second ≡ records ++ store_trace (history_of a start) (second ++ first)
    stores_join start records =
        append_assoc records (store_trace (history_of a start) first) (store_trace (history_of b start) second)
        ∙ ap (λ (xs : List StoreRecord). records ++ xs)
        (ap (λ (h : History). store_trace (history_of a start) first ++ store_trace h second) (history_joined first a b start p.events)
        ∙ sym (store_trace-append (history_of a start) second first))

    logs_join : LogsGrow w first a b → LogsGrow w second b c → LogsGrow w (second ++ first) a c
    logs_join g h = record {
      queue = λ told records is. h.queue told (records ++ queue_trace first) (g.queue told records is) ∙ ap (λ (xs : List QueueRecord). Some xs) (queues_join records);
      store = λ start stood told records is.
          h.store start (p.stands start stood) told (records ++ store_trace (history_of a start) first) (g.store start stood told records is)
          ∙ ap (λ (xs : List StoreRecord). Some xs) (stores_join start records);
    }

    -- a count that rose by two stays so, and did so from any earlier value
    rose_then : QueueRoseTwice w.faults a.queue b.queue → QueueRoseTwice w.faults a.queue c.queue
    rose_then (inl rose) = inl (omega (arith, rose, q.counts.queue_a))
    rose_then (inr rose) = inr (omega (arith, rose, q.counts.queue_b))

    rose_since : QueueRoseTwice w.faults b.queue c.queue → QueueRoseTwice w.faults a.queue c.queue
    rose_since (inl rose) = inl (rose_from 2 _ _ _ p.counts.queue_a rose)
    rose_since (inr rose) = inr (rose_from 2 _ _ _ p.counts.queue_b rose)

    twice_join : (down : Bool) → queue_down b.queue ≡ down → queue_down a.queue ≡ false → queue_down c.queue ≡ true → QueueRoseTwice w.faults a.queue c.queue
    twice_join true is up down = rose_then (p.queue_twice up is)
    twice_join false is up down = rose_since (q.queue_twice is down)

    pub passed_join : Passed w (second ++ first) a c
    passed_join = record {
      events = q.events ∙ (ap (λ (es : History). second ++ es) p.events ∙ sym (append_assoc second first a.events.list));
      stands = λ start stood. q.stands start (p.stands start stood);
      submitted = λ r x was. q.submitted r x (p.submitted r x was);
      opening = openings_join a b c p.opening q.opening;
      counts = counts_join a b c p.counts q.counts;
      stays_down = λ down. q.stays_down (p.stays_down down);
      queue_twice = twice_join (queue_down b.queue) refl;
      queue_fits = λ short. q.queue_fits (p.queue_fits short);
      store_fits = λ short. q.store_fits (p.store_fits short);
      logs = λ up. logs_join (p.logs (up_before second b c q up)) (q.logs up);
    }

    moments_join : KeepsMoments w first a → KeepsMoments w second b → KeepsMoments w (second ++ first) a
    moments_join g h start stood =
        moments_joined (history_of a start) second first (g start stood)
        (subst (λ (was : History). MomentsAreKept was second) (history_joined first a b start p.events) (h start (p.stands start stood)))

  -- ---- its calls

  module _ (May : CoreState D K → History → Type 0) where
    links_join : (a b c : CoreState D K) (stops later : List (CoreState D K)) → AreLinked w May a stops b → AreLinked w May b later c → AreLinked w May a (stops ++ b ∷ later) c
    links_join a b c [] later p q = (p, q)
    links_join a b c (mid ∷ stops) later p q = (p.0, links_join mid b c stops later p.1 q)

    pub course_joins : (a b c : CoreState D K) → Course w May a b → Course w May b c → Course w May a c
    course_joins a b c p q = record { stops = p.stops ++ b ∷ q.stops; linked = links_join a b c p.stops q.stops p.linked q.linked }

    pub course_of_one : (a b : CoreState D K) → Link w (May a) a b → Course w May a b
    course_of_one a b link = record { stops = []; linked = link }

    -- no call, as one that does nothing
    pub course_stays : (a : CoreState D K) → Course w May a a
    course_stays a = course_of_one a a (record { goes = ([], refl); one_call = no_event refl; lifetimes = refl; stands = λ start stood. stood; disks = silent refl refl; stays_down = λ down. down })

  -- ---- what is written may be written where more may be

  module _ (May Also : History → Type 0) (each : (begun : History) → May begun → Also begun) where
    pub amid_also : (ttls : Ttls) (old new : History) (q : Option (List QueueRecord)) (s : Option (List StoreRecord)) → StandsAmid ttls (λ upto begun. AreOfOneRecord begun × May begun) old new q s
        → StandsAmid ttls (λ upto begun. AreOfOneRecord begun × Also begun) old new q s
    amid_also ttls old new q s h = record {
      upto = h.upto;
      from_old = h.from_old;
      to_new = h.to_new;
      begun = h.begun;
      begins = elim h.begins [ inl nothing ↦ inl nothing | inr some ↦ inr (some.0, each h.begun some.1) ];
      stands = h.stands;
    }

    disks_also : (a b : CoreState D K) → DisksGo w May a b → DisksGo w Also a b
    disks_also a b (silent queue store) = silent queue store
    disks_also a b (writes up any) = writes up (λ start stood. record {
      later_queue = (any start stood).later_queue;
      later_store = (any start stood).later_store;
      store_first = λ q s i j. amid_also a.tables.ttls (history_of a start) (history_of b start) q s ((any start stood).store_first q s i j);
      then_queue = λ q s i j. amid_also a.tables.ttls (history_of a start) (history_of b start) q s ((any start stood).then_queue q s i j);
    })

    pub link_also : (a b : CoreState D K) → Link w May a b → Link w Also a b
    link_also a b link = record { goes = link.goes; one_call = link.one_call; lifetimes = link.lifetimes; stands = link.stands; disks = disks_also a b link.disks; stays_down = link.stays_down }

  module _ (May Also : CoreState D K → History → Type 0) (each : (core : CoreState D K) (begun : History) → May core begun → Also core begun) where
    links_also : (a b : CoreState D K) (stops : List (CoreState D K)) → AreLinked w May a stops b → AreLinked w Also a stops b
    links_also a b [] p = link_also (May a) (Also a) (each a) a b p
    links_also a b (mid ∷ stops) p = (link_also (May a) (Also a) (each a) a mid p.0, links_also mid b stops p.1)

    pub course_also : (a b : CoreState D K) → Course w May a b → Course w Also a b
    course_also a b p = record { stops = p.stops; linked = links_also a b p.stops p.linked }

  pub worked_on : (a b c : CoreState D K) → Worked w a b → Worked w b c → Worked w a c
  worked_on a b c p q = record {
    more = q.more ++ p.more;
    only = work_joined q.more p.more q.only p.only;
    passed = passed_join p.more q.more a b c p.passed q.passed;
    moments = moments_join p.more q.more a b c p.passed q.passed p.moments q.moments;
    course = course_joins (λ core begun. IsWork begun) a b c p.course q.course;
  }
