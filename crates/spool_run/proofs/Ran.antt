-- What a core that was opened, and the items that it took in, make of each history that the files stand for.
use Rattle.std.proofs.Common.{◌≡◌, ◌∙◌, inl, inr, ⊎_elim, ℕ, ℤ, ◌+◌, ◌≤◌, List, [], ◌∷◌, ◌++◌, arith, refl, sym, ap, subst, IsTrue, Bool, true, false, ◌||◌, Option, Some, None, IfSome, is_some, if◌then◌else◌, append-nil}
use Rattle.std.proofs.lemmas.List.{append_cancel_right}
use Rattle.spool_text.specs.fleet_ports.Counts.{Rose, RoseBy}
use Rattle.spool_text.specs.fleet_ports.declared.disk.Disks.{Disks}
use Rattle.fleet_hub.specs.fleet_rows.declared.row.Entity.{Entity}
use Rattle.fleet_hub.specs.fleet_rows.declared.settings.Ttls.{Ttls}
use Rattle.fleet_hub.specs.history_spec.Thread.{Item}
use Rattle.fleet_hub.specs.table_spec.Rows.{rows}
use Rattle.program_words.specs.spool_spec.Spool.{End, SpoolOf}
use Rattle.fleet_hub.specs.queue_records.Reading.{queue_at}
use Rattle.fleet_hub.specs.store_records.Reading.{store_at}
use Rattle.fleet_hub.specs.core_spec.declared.event.Event.TheVariants.{Restart}
use Rattle.fleet_hub.specs.core_spec.History.{History, command, trace_of}
use Rattle.fleet_hub.specs.core_spec.Legal.{IsAfterFails, IsLegal}
use Rattle.fleet_hub.specs.core_spec.Pending.{pending_of, NoneIsWornOut}
use Rattle.fleet_hub.specs.core_spec.Thread.{one_thread}
use Rattle.fleet_hub.specs.core_laws.Outcomes.{endings}
use Rattle.fleet_hub.specs.core_laws.Threads.{dropped}
use Rattle.fleet_hub.specs.log_pair.Pair.{is_down_of}
use Rattle.fleet_hub.specs.fleet_keeper.Keeper.{pair_of, faults_of, IsWithin}
use Rattle.fleet_hub.specs.fleet_keeper.Pairs.{records_at}
use Rattle.fleet_hub.specs.queue_log.Queued.{queue_down}
use Rattle.fleet_hub.specs.core_state.Puts as states
use Rattle.fleet_hub.specs.core_state.StandsFor.{StandsAt, history_of}
use Rattle.fleet_hub.specs.core_state.Tallies.{tally_of}
use Rattle.fleet_hub.specs.core_opening.Opened.{LogCore, FilesStand, DisksStand, disks_in}
use Rattle.fleet_hub.specs.core_course.Sight.{Stood, is_down}
use Rattle.fleet_hub.proofs.of_core_drain.Links.{core_up}
use Rattle.fleet_hub.proofs.of_core_course.Stretches.{history_joined}
use Rattle.fleet_hub.proofs.of_core_course.Uses.{all_are_within}
use Rattle.spool_run.specs.Rules.{KeepsRules}
use Rattle.spool_run.specs.Fronts.{AreInFront}
use Rattle.spool_run.specs.Intake.{TookIn, TookAll}
use Rattle.spool_run.specs.Laws.{IsOneThread}
use Rattle.spool_run.proofs.OneThread.{whole_spool_is_one_thread}
use Rattle.calm_commands.specs.Openings.{DiskSight, StandAsRead, OpensTo, StoreRose, StoreRoseTwice}
use Rattle.calm_commands.proofs.Faults.{rose}
use Rattle.fleet_hub.specs.core_drain.Ends as drains
use Rattle.fleet_hub.specs.core_drain.Ends.{RoseBehindFails}
use Rattle.spool_run.proofs.Fails.{fails_fit, together, none_rose}
use Rattle.spool_run.specs.Summary.{summary_text}
use Rattle.spool_run.specs.Runs.{Took, DisksLeft, fail_count, StoreRoseBy, StoreRoseBehind, log_sight, IsSoundCore, RanOn, RanThrough, RanSome, QueueRose, QueueRoseTwice, QueueIsLater}
use Rattle.spool_run.proofs.Effects.{takes_effect}
use Rattle.spool_run.proofs.Printing.{tally_behind}

-- ---- items

whole_is_in_front : (now : ℤ) (end : End) (items : List Item) (o : Option (List ℕ)) → IfSome o (λ b. SpoolOf now b items end) → IfSome o (AreInFront now items)
whole_is_in_front now end items None is = tt
whole_is_in_front now end items (Some b) is = ([], end, subst (λ (its : List Item). SpoolOf now b its end) (sym (append-nil items)) is)

-- ---- a core

module _ {D : Type 0} (w : DiskSight D) (disks : Disks D) (opened : LogCore D) (opens : OpensTo w disks opened) (ended : LogCore D) (sound : IsSoundCore w ended) where
  abbrev after : Disks D
  after = disks_in ended

  -- the opening counted no fault
  opened_a : w.faults (disks_in opened).queue_a ≡ w.faults disks.queue_a
  opened_a = (opens.queue_counts.calm (λ never. never)).0

  opened_b : w.faults (disks_in opened).queue_b ≡ w.faults disks.queue_b
  opened_b = (opens.queue_counts.calm (λ never. never)).1

  pub queue_rose : drains.QueueRose (log_sight w) opened ended → QueueRose w disks after
  queue_rose (inl first) = inl (subst (λ n. Rose n (w.faults after.queue_a)) opened_a first)
  queue_rose (inr second) = inr (subst (λ n. Rose n (w.faults after.queue_b)) opened_b second)

  rose_twice : states.QueueRoseTwice w.faults opened.queue ended.queue → QueueRoseTwice w disks after
  rose_twice (inl first) = inl (subst (λ n. RoseBy 2 n (w.faults after.queue_a)) opened_a first)
  rose_twice (inr second) = inr (subst (λ n. RoseBy 2 n (w.faults after.queue_b)) opened_b second)

  module _ (now : ℤ) (bytes : Option (List ℕ)) where
    module _ (due : Bool) (items : List Item) (t : TookIn (log_sight w) now bytes due items opened ended) where
      -- a core that is down, but neither by the store nor for want of a Done, is so by the queue
      down_parts : (undone queue store : Bool) → undone ≡ false → store ≡ false → undone || (queue || store) ≡ true → queue ≡ true
      down_parts true queue store done up down = absurd cc
      down_parts false true store done up down = refl
      down_parts false false true done up down = absurd cc
      down_parts false false false done up down = absurd cc

      pub queue_rose_twice : ended.undone ≡ false → is_down_of (pair_of ended.store) ≡ false → is_down (log_sight w) ended ≡ true → QueueRoseTwice w disks after
      queue_rose_twice done up down =
          rose_twice (t.passed.queue_twice (core_up (log_sight w) opened opens.up.up).queue (down_parts ended.undone (queue_down ended.queue) (is_down_of (pair_of ended.store)) done up down))

      bounded : IsWithin w.faults ended.store (0, w.faults disks.store_a, w.faults disks.store_b)
      bounded = t.passed.opening.store_within (0, w.faults disks.store_a, w.faults disks.store_b) opens.start.within

      pub queue_later : QueueIsLater w disks after
      queue_later = (
        subst (λ n. n ≤ w.faults after.queue_a) opened_a t.passed.counts.queue_a,
        subst (λ n. n ≤ w.faults after.queue_b) opened_b t.passed.counts.queue_b,
      )

      pub store_rose : RoseBy 1 (faults_of opened.store) (faults_of ended.store) → StoreRose w disks after
      store_rose up_by =
          let zero = opens.start.faults in
          rose (faults_of ended.store) (w.faults disks.store_a) (w.faults disks.store_b) (w.faults after.store_a) (w.faults after.store_b) (omega (arith, up_by, zero)) bounded.0

      pub store_rose_twice : is_down_of (pair_of ended.store) ≡ true → StoreRoseTwice w disks after
      store_rose_twice down = bounded.1.2 down

      pub tally_is : tally_of ended.events.list ≡ tally_of t.more
      tally_is = ap tally_of (t.passed.events ∙ ap (λ (h : History). t.more ++ h) opens.events) ∙ tally_behind t.more

      -- ---- of a history

      module _ (told : IsTrue w.tells) (ttls : Ttls) (start : History) (files : StandAsRead w disks ttls start) where
        same : opened.tables.ttls ≡ ttls
        same = (opens.stands_for told ttls start files).0

        pub stood : Stood (log_sight w) opened start
        stood = (opens.stands_for told ttls start files).1

        stood_now : Stood (log_sight w) ended start
        stood_now = t.passed.stands start stood

        begun : history_of opened start ≡ Restart ∷ start
        begun = ap (λ (h : History). h ++ start) opens.events

        joined : history_of ended start ≡ t.more ++ history_of opened start
        joined = history_joined t.more opened ended start t.passed.events

        goes_on : history_of ended start ≡ t.more ++ Restart ∷ start
        goes_on = joined ∙ ap (λ (h : History). t.more ++ h) begun

        same_now : ended.tables.ttls ≡ ttls
        same_now = t.passed.opening.lifetimes ∙ same

        pub took_now : Took ttls due items start t.more
        took_now = record {
          legal = subst (λ (lives : Ttls). IsLegal lives (t.more ++ Restart ∷ start)) same_now (subst (λ (h : History). IsLegal ended.tables.ttls h) goes_on stood_now.holds.says.plain.legal);
          items_are = t.items_are;
          no_restart = t.no_restart;
          rules = subst (λ (h : History). KeepsRules due h t.more) begun (t.rules start stood);
        }

        after_fails : IsAfterFails (faults_of ended.store) (t.more ++ Restart ∷ start)
        after_fails = subst (λ (h : History). IsAfterFails (faults_of ended.store) h) goes_on stood_now.holds.says.after_fails

        fails_now : StoreRoseBy (fail_count t.more) w disks after
        fails_now =
            together (fail_count t.more) (faults_of ended.store) (w.faults disks.store_a) (w.faults disks.store_b) (w.faults after.store_a) (w.faults after.store_b)
            (fails_fit ttls start t.more (faults_of ended.store) t.no_restart took_now.legal after_fails) bounded.0

        stands_so : (qa qb sa sb : List ℕ) (from to : History) → from ≡ to → StandsAt ended.tables.ttls (records_at queue_at qa qb) (records_at store_at sa sb) from → FilesStand ttls qa qb sa sb to
        stands_so qa qb sa sb from to is at =
            subst (λ (lives : Ttls). StandsAt lives (records_at queue_at qa qb) (records_at store_at sa sb) to) same_now
            (subst (λ (h : History). StandsAt ended.tables.ttls (records_at queue_at qa qb) (records_at store_at sa sb) h) is at)

        pub left_now : (down : Bool) → is_down (log_sight w) ended ≡ down → DisksLeft w ttls down after (t.more ++ Restart ∷ start)
        left_now down is =
            let images = stood_now.disks in
            record {
              begun = images.begun;
              of_one = images.of_one;
              each = λ qa qb sa sb ia ib ja jb.
                  ⊎_elim (λ here. inl (stands_so qa qb sa sb (history_of ended start) (t.more ++ Restart ∷ start) goes_on here))
                  (λ amid. inr (sym is ∙ amid.0, stands_so qa qb sa sb (images.begun ++ history_of ended start) (images.begun ++ (t.more ++ Restart ∷ start)) (ap (λ (h : History). images.begun ++ h) goes_on) amid.1))
                  (images.each (records_at queue_at qa qb) (records_at store_at sa sb) (qa, qb, ia, ib, refl) (sa, sb, ja, jb, refl));
            }

        pub stands_now : is_down (log_sight w) ended ≡ false → DisksStand w.may_leave ttls after (t.more ++ Restart ∷ start)
        stands_now calm qa qb sa sb ia ib ja jb =
            ⊎_elim (λ here. here) (λ amid. absurd (let apart : false ≡ true = amid.0 in cc)) ((left_now false calm).each qa qb sa sb ia ib ja jb)

        pub few_at_first : NoneIsWornOut (pending_of (Restart ∷ start))
        few_at_first = subst (λ (h : History). NoneIsWornOut (pending_of h)) begun stood.holds.says.plain.few

        pub none_waits : ended.pending ≡ [] → pending_of (t.more ++ Restart ∷ start) ≡ []
        none_waits none = subst (λ (h : History). pending_of h ≡ []) goes_on (sym stood_now.holds.says.pending ∙ none)

        -- what one thread makes of them
        module _ (one : IsOneThread items opened ended start) where
          same_more : one.more ≡ t.more
          same_more = append_cancel_right one.more t.more (history_of opened start) (sym one.goes_on ∙ joined)

          pub one_thread_now : (entity : Entity) → rows entity ttls (trace_of (t.more ++ Restart ∷ start)) ≡ rows entity ttls (one_thread (Restart ∷ start) items (dropped t.more))
          one_thread_now entity =
              subst (λ (lives : Ttls). rows entity lives (trace_of (t.more ++ Restart ∷ start)) ≡ rows entity lives (one_thread (Restart ∷ start) items (dropped t.more))) same
              (subst (λ (h : History). rows entity opened.tables.ttls (trace_of h) ≡ rows entity opened.tables.ttls (one_thread (Restart ∷ start) items (dropped t.more))) goes_on
              (subst (λ (h : History). rows entity opened.tables.ttls (trace_of (history_of ended start)) ≡ rows entity opened.tables.ttls (one_thread h items (dropped t.more))) begun
              (subst (λ (h : History). rows entity opened.tables.ttls (trace_of (history_of ended start)) ≡ rows entity opened.tables.ttls (one_thread (history_of opened start) items (dropped h))) same_more
              (one.rows_are entity))))

          pub once_now : (r : ℕ) → endings r (t.more ++ Restart ∷ start) ≡ (if is_some (command r (t.more ++ Restart ∷ start)) then 1 else 0)
          once_now r = subst (λ (h : History). endings r h ≡ (if is_some (command r h) then 1 else 0)) goes_on (one.once r)

      -- ---- the counts of the store

      pub rose_behind : (n : ℕ) → RoseBehindFails (log_sight w) n opened ended → StoreRoseBehind n w disks after t.more
      rose_behind n h = record {
        counted = h.counted;
        fails = λ told ttls start files. subst (λ (x : History). IsAfterFails h.counted x) (goes_on told ttls start files) (h.fails start (stood told ttls start files));
        rose = together (h.counted + n) (faults_of ended.store) (w.faults disks.store_a) (w.faults disks.store_b) (w.faults after.store_a) (w.faults after.store_b) h.rose bounded.0;
      }

      pub ran_on : (down : Bool) → is_down (log_sight w) ended ≡ down → RanOn w now bytes down disks after t.more
      ran_on down is = record {
        opened = opened;
        opens = opens;
        ended = ended;
        passed = t.passed;
        course = t.course;
        whole = all_are_within (log_sight w) opened ended t.course.stops;
        sound = sound;
        fails = fails_now;
        no_fails = λ told ttls start files none.
            none_rose (fail_count t.more) (w.faults disks.store_a) (w.faults disks.store_b) (w.faults after.store_a) (w.faults after.store_b) (fails_now told ttls start files) none;
        down_is = is;
        after_is = refl;
      }

    -- ---- how far it came

    pub through : (end : End) (all : TookAll (log_sight w) now bytes end opened ended) (Writes : List ℕ → Type 0) → Writes (summary_text (tally_of ended.events.list))
        → RanThrough w now end bytes disks after Writes
    through end all Writes wrote =
        let t = all.took in
        record {
          items = all.items;
          spool_is = all.spool;
          more = t.more;
          items_are = t.items_are;
          no_restart = t.no_restart;
          ran = ran_on true all.items t false all.up;
          took = λ told ttls start stand. (let one = whole_spool_is_one_thread (log_sight w) now bytes end opened ended all start (stood true all.items t told ttls start stand) in record {
            took = took_now true all.items t told ttls start stand;
            nothing_waits = none_waits true all.items t told ttls start stand all.nothing;
            ended_once = once_now true all.items t told ttls start stand one;
            rows_are = one_thread_now true all.items t told ttls start stand one;
          });
          take_effect = λ told ttls start stand calm.
              takes_effect ttls start t.more (took_now true all.items t told ttls start stand).legal (none_waits true all.items t told ttls start stand all.nothing)
              (few_at_first true all.items t told ttls start stand) ((ran_on true all.items t false all.up).no_fails told ttls start stand calm);
          leaves = λ told ttls start stand. stands_now true all.items t told ttls start stand all.up;
          summary = subst (λ tally. Writes (summary_text tally)) (tally_is true all.items t) wrote;
        }

    -- and the core that came last is this one
    pub through_open : (end : End) (all : TookAll (log_sight w) now bytes end opened ended) (Writes : List ℕ → Type 0) → Writes (summary_text (tally_of ended.events.list))
        → (ran : RanThrough w now end bytes disks after Writes) × (ended ≡ ran.ran.ended)
    unfolding through ran_on
    through_open end all Writes wrote = (through end all Writes wrote, refl)

    pub some : (due down : Bool) (items : List Item) → IfSome bytes (AreInFront now items) → (t : TookIn (log_sight w) now bytes due items opened ended) → is_down (log_sight w) ended ≡ down
        → (Then : History → List Item → LogCore D → LogCore D → Type 0) → Then t.more items opened ended → RanSome w now due down bytes disks after Then
    unfolding ran_on
    some due down items front t is Then it = record {
      items = items;
      spool_is = front;
      more = t.more;
      items_are = t.items_are;
      no_restart = t.no_restart;
      ran = ran_on due items t down is;
      took = took_now due items t;
      leaves = λ told ttls start stand. left_now due items t told ttls start stand down is;
      holds = it;
    }

    -- all items are some
    pub all_are_some : (end : End) (all : TookAll (log_sight w) now bytes end opened ended) (Then : History → List Item → LogCore D → LogCore D → Type 0) → Then all.took.more all.items opened ended
        → RanSome w now true false bytes disks after Then
    all_are_some end all Then it = some true false all.items (whole_is_in_front now end all.items bytes all.spool) all.took all.up Then it
