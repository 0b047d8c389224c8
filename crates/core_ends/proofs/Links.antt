-- One call is a stretch of one call.
use Rattle.std.proofs.Common.{◌≡◌, ◌∙◌, inl, inr, ◌≤◌, Bool, true, false, ◌||◌, List, Option, arith, refl, sym, ap, subst}
use Rattle.command_core.specs.log_pair.Pair.{disk_a, disk_b}
use Rattle.command_core.specs.record_spec.declared.queue.QueueRecord.{QueueRecord}
use Rattle.command_core.specs.record_spec.declared.store.StoreRecord.{StoreRecord}
use Rattle.command_core.specs.core_spec.History.{History}
use Rattle.command_core.specs.core_laws.Threads.{MomentsAreKept}
use Rattle.command_core.specs.queue_log.declared.queue.QueueLog.{QueueLog}
use Rattle.command_core.specs.queue_log.Queued.{queue_pair, queue_down, queue_size}
use Rattle.core_course.specs.table_machine.Table.{Table}
use Rattle.command_core.specs.core_state.declared.state.CoreState.{CoreState}
use Rattle.command_core.specs.core_state.Changes.{OthersStay}
use Rattle.command_core.specs.core_state.Moments.{Within, StandsAmid}
use Rattle.command_core.specs.core_state.Puts.{QueueCounts, QueueRoseTwice}
use Rattle.command_core.specs.core_state.StandsFor.{AreOfOneRecord, history_of}
use Rattle.core_course.specs.Sight.{Sight, Stood, is_down}
use Rattle.core_course.specs.Courses.{DisksGo, silent, writes, AreOfOneCall, Link, Course, CountsRise, SameOpening, Passed}
use Rattle.core_course.specs.Work.{IsWork, Worked}
use Rattle.core_course.proofs.Stretches.{course_of_one}
use Rattle.command_core.proofs.of_core_state.Standing.{IsUp, up_parts}
use Rattle.command_core.specs.log_spec.Limits.{most_log}

-- ---- whether it is down

module _ {D K : Type 0} (w : Sight D K) where
  pub core_up : (core : CoreState D K) → is_down w core ≡ false → IsUp core.undone (queue_down core.queue) (w.store_down core.store)
  core_up core up = up_parts core.undone (queue_down core.queue) (w.store_down core.store) up

  pub same_down : (old new : CoreState D K) → new.undone ≡ old.undone → new.queue ≡ old.queue → new.store ≡ old.store → is_down w new ≡ is_down w old
  same_down old new undone queue store =
      ap (λ (b : Bool). b || (queue_down new.queue || w.store_down new.store)) undone
      ∙ (ap (λ (l : QueueLog D). old.undone || (queue_down l || w.store_down new.store)) queue ∙ ap (λ (k : K). old.undone || (queue_down old.queue || w.store_down k)) store)

  -- ---- its disks

  -- what is written is the record of those events; a core that is down is left as it is
  module _ (Begins : History → History → History → Type 0) (May : History → Type 0) (old new : CoreState D K) (each : (start upto begun : History) → Begins start upto begun → AreOfOneRecord begun × May begun)
      (unchanged : is_down w old ≡ true → new ≡ old)
      (any : (start : History) → Stood w old start → is_down w old ≡ false
      → Within w.may_leave w.moment w.left_since w.images w.store_moment w.images_since old new (StandsAmid old.tables.ttls (Begins start) (history_of old start) (history_of new start))) where
    amid : (start : History) (q : Option (List QueueRecord)) (s : Option (List StoreRecord)) → StandsAmid old.tables.ttls (Begins start) (history_of old start) (history_of new start) q s
        → StandsAmid old.tables.ttls (λ upto begun. AreOfOneRecord begun × May begun) (history_of old start) (history_of new start) q s
    amid start q s h = record {
      upto = h.upto;
      from_old = h.from_old;
      to_new = h.to_new;
      begun = h.begun;
      begins = elim h.begins [ inl nothing ↦ inl nothing | inr some ↦ inr (each start h.upto h.begun some) ];
      stands = h.stands;
    }

    written_by : (down : Bool) → is_down w old ≡ down → DisksGo w May old new
    written_by true is = silent (ap (λ (core : CoreState D K). core.queue) (unchanged is)) (ap (λ (core : CoreState D K). core.store) (unchanged is))
    written_by false is = writes is (λ start stood. record {
      later_queue = (any start stood is).later_queue;
      later_store = (any start stood is).later_store;
      store_first = λ q s i j. amid start q s ((any start stood is).store_first q s i j);
      then_queue = λ q s i j. amid start q s ((any start stood is).then_queue q s i j);
    })

    pub written : DisksGo w May old new
    written = written_by (is_down w old) refl

  -- ---- its parts

  pub same_opening : (old new : CoreState D K) → OthersStay old new → new.store ≡ old.store → SameOpening w old new
  same_opening old new others store = record {
    found = others.found;
    opened_a = others.opened_a;
    opened_b = others.opened_b;
    lifetimes = ap (λ (t : Table). t.ttls) others.tables;
    store_opened = ap w.store_opened store;
    store_within = λ since was. subst (λ (k : K). w.store_within k since) (sym store) was;
  }

  pub queue_counts : (Fault : Type 0) (old new : CoreState D K) → QueueCounts w.faults old.queue new.queue Fault → w.store_faults old.store ≤ w.store_faults new.store → CountsRise w old new
  queue_counts Fault old new counts store = record { queue_a = counts.later_a; queue_b = counts.later_b; store = store }

  pub same_faults : (old new : CoreState D K) → new.store ≡ old.store → w.store_faults old.store ≤ w.store_faults new.store
  same_faults old new store = let same = ap w.store_faults store in omega (arith, same)

  pub same_counts : (old new : CoreState D K) → new.queue ≡ old.queue → new.store ≡ old.store → CountsRise w old new
  same_counts old new queue store =
      let a = ap (λ (l : QueueLog D). w.faults (disk_a (queue_pair l))) queue in
      let b = ap (λ (l : QueueLog D). w.faults (disk_b (queue_pair l))) queue in
      record { queue_a = omega (arith, a); queue_b = omega (arith, b); store = same_faults old new store }

  -- a queue that went down, in a call that leaves a core that is down as it is
  module _ (old new : CoreState D K) (unchanged : is_down w old ≡ true → new ≡ old) (twice : is_down w old ≡ false → queue_down new.queue ≡ true → QueueRoseTwice w.faults old.queue new.queue) where
    twice_by : (was : Bool) → is_down w old ≡ was → queue_down old.queue ≡ false → queue_down new.queue ≡ true → QueueRoseTwice w.faults old.queue new.queue
    twice_by true is up down = absurd (let apart : true ≡ false = sym down ∙ (ap (λ (core : CoreState D K). queue_down core.queue) (unchanged is) ∙ up) in cc)
    twice_by false is up down = twice is down

    pub went_twice : queue_down old.queue ≡ false → queue_down new.queue ≡ true → QueueRoseTwice w.faults old.queue new.queue
    went_twice = twice_by (is_down w old) refl

  -- nor in one that leaves the queue
  pub same_twice : (old new : CoreState D K) → new.queue ≡ old.queue → queue_down old.queue ≡ false → queue_down new.queue ≡ true → QueueRoseTwice w.faults old.queue new.queue
  same_twice old new queue up down = absurd (let apart : true ≡ false = sym down ∙ (ap queue_down queue ∙ up) in cc)

  -- a log that stays doesn't outgrow its limit
  pub same_queue_fits : (old new : CoreState D K) → new.queue ≡ old.queue → queue_size old.queue ≤ most_log → queue_size new.queue ≤ most_log
  same_queue_fits old new same short = let size = ap queue_size same in omega (arith, size, short)

  pub same_store_fits : (old new : CoreState D K) → new.store ≡ old.store → w.store_size old.store ≤ most_log → w.store_size new.store ≤ most_log
  same_store_fits old new same short = let size = ap w.store_size same in omega (arith, size, short)

  -- ---- as a stretch

  pub link_of : (May : History → Type 0) (more : History) (old new : CoreState D K) → AreOfOneCall more → Passed w more old new → DisksGo w May old new → Link w May old new
  link_of May more old new of_one passed disks = record { goes = (more, passed.events); one_call = of_one; lifetimes = passed.opening.lifetimes; stands = passed.stands; disks = disks; stays_down = passed.stays_down }

  pub work_course : (more : History) (old new : CoreState D K) → AreOfOneCall more → Passed w more old new → DisksGo w IsWork old new → Course w (λ core begun. IsWork begun) old new
  work_course more old new of_one passed disks = course_of_one w (λ core begun. IsWork begun) old new (link_of IsWork more old new of_one passed disks)

  pub work_of : (more : History) (old new : CoreState D K) → IsWork more → AreOfOneCall more → Passed w more old new → ((start : History) → MomentsAreKept (history_of old start) more) → DisksGo w IsWork old new → Worked w old new
  work_of more old new only of_one passed moments disks =
      record { more = more; only = only; passed = passed; moments = λ start stood. moments start; course = work_course more old new of_one passed disks }
