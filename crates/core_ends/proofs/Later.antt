-- An end says of a core what it says of one that led to it.
use Rattle.std.proofs.Common.{◌≡◌, ◌∙◌, ◌⊎◌, inl, inr, ℕ, false, List, ◌∷◌, ◌++◌, Option, Some, None, arith, sym, ap, append_assoc}
use Rattle.command_core.specs.record_spec.declared.queue.QueueRecord.{QueueRecord}
use Rattle.command_core.specs.core_spec.declared.event.Event.TheVariants.{Apply}
use Rattle.command_core.specs.core_spec.History.{History}
use Rattle.command_core.specs.core_spec.Stands.{queue_trace}
use Rattle.command_core.specs.core_state.declared.state.CoreState.{CoreState}
use Rattle.command_core.specs.core_state.Puts.{QueueRoseTwice}
use Rattle.core_course.specs.Sight.{Sight, is_down}
use Rattle.core_course.specs.Courses.{Passed}
use Rattle.core_course.proofs.Stretches.{passed_join}
use Rattle.core_course.proofs.Traces.{queue_trace-append}
use Rattle.command_core.proofs.of_core_state.of_fleet_keeper.Within.{rose_from}
use Rattle.core_ends.specs.declared.ends.WorkEnd.{WorkEnd}
use Rattle.core_ends.specs.declared.ends.WorkEnd.TheVariants.{Done, QueueFault, StoreDown, Spent, Down, Memory}
use Rattle.core_ends.specs.Ends.{SomethingWaits, IsLeft, HasNoRoom, to_settle, to_supersede, QueueRose, LacksDone, ChangeIsOpen, RoseInLast, RoseBehindFails, EndsSo, EndsHere}

module _ {D K : Type 0} (w : Sight D K) where
  module _ (more : History) (a b c : CoreState D K) (p : Passed w more a b) where
    pub queue_rose_later : QueueRose w b c → QueueRose w a c
    queue_rose_later (inl first) = inl (rose_from 1 _ _ _ p.counts.queue_a first)
    queue_rose_later (inr second) = inr (rose_from 1 _ _ _ p.counts.queue_b second)

    pub waits_later : SomethingWaits w b c → SomethingWaits w a c
    waits_later h = (h.0, λ start stood. h.1 start (p.stands start stood))

    pub room_later : HasNoRoom w b c → HasNoRoom w a c
    room_later (to_settle job v submitted waits fit verdict spent earlier last) =
        to_settle job v submitted (λ start stood. waits start (p.stands start stood)) fit verdict spent earlier last
    room_later (to_supersede h) = to_supersede (λ start stood. h start (p.stands start stood))

    pub behind_later : (n : ℕ) → RoseBehindFails w n b c → RoseBehindFails w n a c
    behind_later n h = record {
      counted = h.counted;
      later = omega (arith, p.counts.store, h.later);
      rose = h.rose;
      fails = λ start stood. h.fails start (p.stands start stood);
    }

    last_later : RoseInLast w b c → RoseInLast w a c
    last_later h = record {
      earlier = h.earlier ++ more;
      mid = h.mid;
      before = passed_join w more h.earlier a b h.mid p h.before;
      up = h.up;
      last = h.last;
      of_fault = h.of_fault;
      passed = h.passed;
      rose = h.rose;
    }

    twice_later : QueueRoseTwice w.faults b.queue c.queue → QueueRoseTwice w.faults a.queue c.queue
    twice_later (inl first) = inl (rose_from 2 _ _ _ p.counts.queue_a first)
    twice_later (inr second) = inr (rose_from 2 _ _ _ p.counts.queue_b second)

    module _ (up : is_down w b ≡ false) where
      lacks_later : LacksDone w b c → LacksDone w a c
      lacks_later h = record {
        undone = h.undone;
        receipt = h.receipt;
        moment = h.moment;
        earlier = h.earlier ++ more;
        events = h.events
            ∙ ap (λ (es : History). Apply h.receipt h.moment ∷ es) (ap (λ (es : History). h.earlier ++ es) p.events ∙ sym (append_assoc h.earlier more a.events.list));
        queue = λ calm told records there.
            h.queue calm told (records ++ queue_trace more) ((p.logs up).queue told records there)
            ∙ ap (λ (xs : List QueueRecord). Some xs)
            (append_assoc records (queue_trace more) (queue_trace h.earlier) ∙ ap (λ (xs : List QueueRecord). records ++ xs) (sym (queue_trace-append h.earlier more)));
        twice = λ went. twice_later (h.twice went);
        images = λ start stood. h.images start (p.stands start stood);
      }

      pub open_later : ChangeIsOpen w b c → ChangeIsOpen w a c
      open_later h = record {
        waits = waits_later h.waits;
        receipt = h.receipt;
        of_command = h.of_command;
        command_is = λ start stood. h.command_is start (p.stands start stood);
        stands = λ start stood. h.stands start (p.stands start stood);
        more = h.more ++ more;
        events = h.events ∙ (ap (λ (es : History). h.more ++ es) p.events ∙ sym (append_assoc h.more more a.events.list));
        queue_up = h.queue_up;
        queue = λ told records there.
            h.queue told (records ++ queue_trace more) ((p.logs up).queue told records there)
            ∙ ap (λ (xs : List QueueRecord). Some xs)
            (append_assoc records (queue_trace more) (queue_trace h.more) ∙ ap (λ (xs : List QueueRecord). records ++ xs) (sym (queue_trace-append h.more more)));
        images = λ start stood. h.images start (p.stands start stood);
      }

      pub fault_later : LacksDone w b c ⊎ IsLeft w b c → LacksDone w a c ⊎ IsLeft w a c
      fault_later (inl lacks) = inl (lacks_later lacks)
      fault_later (inr left) = inr (left.0, waits_later left.1, λ still. last_later (left.2 still))

      pub here_later : (end : Option WorkEnd) → EndsHere w end b c → EndsHere w end a c
      here_later None h = h
      here_later (Some Done) h = h
      here_later (Some QueueFault) h = (queue_rose_later h.0, h.1, fault_later h.2)
      here_later (Some StoreDown) h = (behind_later 2 h.0, h.1, open_later h.2)
      here_later (Some Spent) h = (h.0, room_later h.1, waits_later h.2)
      here_later (Some Down) h = h
      here_later (Some Memory) h = h

  -- a turn's end is the drain's
  pub ends_so : (end : WorkEnd) (old new : CoreState D K) → EndsHere w (Some end) old new → EndsSo w end old new
  ends_so Done old new h = h
  ends_so QueueFault old new h = h
  ends_so StoreDown old new h = h
  ends_so Spent old new h = h
  ends_so Down old new h = absurd h
  ends_so Memory old new h = h

  -- and it isn't that the core was down
  pub not_down : (end : WorkEnd) (old new : CoreState D K) → EndsHere w (Some end) old new → end ≡ Down → ⊥
  not_down Done old new h e = absurd cc
  not_down QueueFault old new h e = absurd cc
  not_down StoreDown old new h e = absurd cc
  not_down Spent old new h e = absurd cc
  not_down Down old new h e = h
  not_down Memory old new h e = absurd cc
