-- A sweep.
use Rattle.std.proofs.Common.{◌≡◌, ◌∙◌, ◌↔◌, ℕ, ℤ, true, false, List, [], ◌∷◌, ◌++◌, Some, IsTrue, arith, refl, sym, ap, ◌≤◌}
use Rattle.core_course.specs.fleet_ports.Counts.{Counts}
use Rattle.command_decode.specs.fleet_rows.declared.command.Command.{Command}
use Rattle.command_decode.specs.fleet_rows.declared.settings.Kinds.{Kinds}
use Rattle.command_core.specs.log_pair.Pair.{disk_a, disk_b}
use Rattle.command_core.specs.record_spec.declared.queue.QueueRecord.{QueueRecord}
use Rattle.command_core.specs.record_spec.declared.store.StoreRecord.{StoreRecord}
use Rattle.command_core.specs.record_spec.declared.store.StoreRecord.TheVariants as store
use Rattle.command_core.specs.core_spec.declared.event.Event.TheVariants.{Sweep}
use Rattle.command_core.specs.core_spec.History.{History}
use Rattle.command_core.specs.core_spec.Stands.{queue_trace, store_trace}
use Rattle.command_core.specs.queue_log.declared.queue.QueueLog.{QueueLog}
use Rattle.command_core.specs.queue_log.Queued.{queue_pair, queued}
use Rattle.command_core.specs.core_state.declared.state.CoreState.{CoreState}
use Rattle.command_core.specs.core_state.Changes.{OpeningStays}
use Rattle.command_core.specs.core_state.Moments.{Within, StandsAmid}
use Rattle.command_core.specs.core_state.Seen.{IsSubmitted}
use Rattle.command_core.specs.core_state.StandsFor.{one, history_of}
use Rattle.command_core.specs.core_sweeps.declared.answers.Swept.{Swept}
use Rattle.command_core.specs.core_sweeps.declared.answers.Swept.TheVariants as came_as
use Rattle.command_core.specs.core_sweeps.Sweeps.{SweepAdds, IsSweep, IsStoreFault, SweepWrites}
use Rattle.core_course.specs.Sight.{Sight, Stood, is_down}
use Rattle.core_course.specs.Courses.{DisksGo, Link, Passed, AreOfOneCall, no_event, one_event}
use Rattle.core_ends.proofs.Links.{core_up, written, link_of, same_twice, same_queue_fits}
use Rattle.core_ends.proofs.Records.{none_more, one_more}
use Rattle.command_core.specs.log_spec.Limits.{most_log}

-- the events of an answer
abbrev pub sweep_events : Swept → Kinds → ℤ → History
sweep_events came_as.Ok kinds m = Sweep kinds m ∷ []
sweep_events came_as.StoreFault kinds m = []
sweep_events came_as.StoreDown kinds m = []
sweep_events came_as.Spent kinds m = []
sweep_events came_as.Down kinds m = []
sweep_events came_as.Memory kinds m = []

added : (came : Swept) (kinds : Kinds) (m : ℤ) (old new : History) → SweepAdds came kinds m old new → new ≡ sweep_events came kinds m ++ old
added came_as.Ok kinds m old new h = h
added came_as.StoreFault kinds m old new h = h
added came_as.StoreDown kinds m old new h = h
added came_as.Spent kinds m old new h = h
added came_as.Down kinds m old new h = h
added came_as.Memory kinds m old new h = h

swept_at_once : (came : Swept) (kinds : Kinds) (m : ℤ) → AreOfOneCall (sweep_events came kinds m)
swept_at_once came_as.Ok kinds m = one_event (Sweep kinds m) refl
swept_at_once came_as.StoreFault kinds m = no_event refl
swept_at_once came_as.StoreDown kinds m = no_event refl
swept_at_once came_as.Spent kinds m = no_event refl
swept_at_once came_as.Down kinds m = no_event refl
swept_at_once came_as.Memory kinds m = no_event refl

queues_none : (came : Swept) (kinds : Kinds) (m : ℤ) → queue_trace (sweep_events came kinds m) ≡ []
queues_none came_as.Ok kinds m = refl
queues_none came_as.StoreFault kinds m = refl
queues_none came_as.StoreDown kinds m = refl
queues_none came_as.Spent kinds m = refl
queues_none came_as.Down kinds m = refl
queues_none came_as.Memory kinds m = refl

module _ {D K : Type 0} (w : Sight D K) where
  -- the clauses of a sweep
  pub record SweepSays (came : Swept) (kinds : Kinds) (m : ℤ) (old new : CoreState D K) : Type 0 where
    pub adds : SweepAdds came kinds m old.events.list new.events.list
    pub writes : SweepWrites w.store_tells w.kept w.store_down w.store_size came kinds m old.store new.store
    pub stands : (start : History) → Stood w old start → Stood w new start
    pub any_moment : (start : History) → Stood w old start → is_down w old ≡ false
        → Within w.may_leave w.moment w.left_since w.images w.store_moment w.images_since old new
        (StandsAmid old.tables.ttls (IsSweep kinds m (history_of old start)) (history_of old start) (history_of new start))
    pub submitted : (r : ℕ) (c : Command) → IsSubmitted r c old → IsSubmitted r c new
    pub opening : OpeningStays old new
    pub same_opening : w.store_opened new.store ≡ w.store_opened old.store
    pub bounds : (since : ℕ × ℕ × ℕ) → w.store_within old.store since → w.store_within new.store since
    pub queue : new.queue ≡ old.queue
    pub down : (came ≡ came_as.Down) ↔ (is_down w old ≡ true)
    pub unchanged : came ≡ came_as.Down → new ≡ old
    pub cause : Counts (w.store_faults old.store) (w.store_faults new.store) (IsStoreFault came)

  module _ (kinds : Kinds) (m : ℤ) (old new : CoreState D K) (up : w.store_down new.store ≡ false) (told : IsTrue w.store_tells) (records : List StoreRecord) (is : w.kept old.store ≡ Some records) where
    stores : (came : Swept) (upto : History) → SweepWrites w.store_tells w.kept w.store_down w.store_size came kinds m old.store new.store → w.kept new.store ≡ Some (records ++ store_trace upto (sweep_events came kinds m))
    stores came_as.Ok upto h = one_more (w.kept old.store) (w.kept new.store) (store.Swept kinds m) records (h.1 told) is
    stores came_as.StoreFault upto h = none_more (w.kept old.store) (w.kept new.store) records (h.1 up told) is
    stores came_as.StoreDown upto h = none_more (w.kept old.store) (w.kept new.store) records (h.1 up told) is
    stores came_as.Spent upto h = none_more (w.kept old.store) (w.kept new.store) records (h.1 up told) is
    stores came_as.Down upto h = none_more (w.kept old.store) (w.kept new.store) records (h.1 up told) is
    stores came_as.Memory upto h = none_more (w.kept old.store) (w.kept new.store) records (h.1 up told) is

  fits : (came : Swept) (kinds : Kinds) (m : ℤ) (old new : K) → SweepWrites w.store_tells w.kept w.store_down w.store_size came kinds m old new → w.store_size old ≤ most_log → w.store_size new ≤ most_log
  fits came_as.Ok kinds m old new h short = h.2
  fits came_as.StoreFault kinds m old new h short = let same = h.0 in omega (arith, same, short)
  fits came_as.StoreDown kinds m old new h short = let same = h.0 in omega (arith, same, short)
  fits came_as.Spent kinds m old new h short = let same = h.0 in omega (arith, same, short)
  fits came_as.Down kinds m old new h short = let same = h.0 in omega (arith, same, short)
  fits came_as.Memory kinds m old new h short = let same = h.0 in omega (arith, same, short)

  module _ (came : Swept) (kinds : Kinds) (m : ℤ) (old new : CoreState D K) (says : SweepSays came kinds m old new) where
    still_down : is_down w old ≡ true → is_down w new ≡ true
    still_down down = ap (is_down w) (says.unchanged (says.down.1 down)) ∙ down

    pub sweep_passes : Passed w (sweep_events came kinds m) old new
    sweep_passes = record {
      events = added came kinds m old.events.list new.events.list says.adds;
      stands = says.stands;
      submitted = says.submitted;
      opening = record {
        found = says.opening.found;
        opened_a = says.opening.opened_a;
        opened_b = says.opening.opened_b;
        lifetimes = says.opening.lifetimes;
        store_opened = says.same_opening;
        store_within = says.bounds;
      };
      counts =
          let a = ap (λ (l : QueueLog D). w.faults (disk_a (queue_pair l))) says.queue in
          let b = ap (λ (l : QueueLog D). w.faults (disk_b (queue_pair l))) says.queue in
          record { queue_a = omega (arith, a); queue_b = omega (arith, b); store = says.cause.later };
      stays_down = still_down;
      queue_twice = same_twice w old new says.queue;
      queue_fits = same_queue_fits w old new says.queue;
      store_fits = fits came kinds m old.store new.store says.writes;
      logs = λ up. record {
        queue = λ told records is.
            none_more (queued w.seen old.queue) (queued w.seen new.queue) records (ap (queued w.seen) says.queue) is
            ∙ ap (λ (xs : List QueueRecord). Some (records ++ xs)) (sym (queues_none came kinds m));
        store = λ start stood told records is. stores kinds m old new (core_up w new up).store told records is came (history_of old start) says.writes;
      };
    }

    sweep_disks : DisksGo w (λ begun. begun ≡ Sweep kinds m ∷ []) old new
    sweep_disks =
        written w (λ start. IsSweep kinds m (history_of old start)) (λ begun. begun ≡ Sweep kinds m ∷ []) old new (λ start upto begun is. (one (Sweep kinds m) tt is.1, is.1))
        (λ down. says.unchanged (says.down.1 down)) says.any_moment

    -- the record that it writes is that of the sweep
    pub sweep_link : Link w (λ begun. begun ≡ Sweep kinds m ∷ []) old new
    sweep_link = link_of w (λ begun. begun ≡ Sweep kinds m ∷ []) (sweep_events came kinds m) old new (swept_at_once came kinds m) sweep_passes sweep_disks
