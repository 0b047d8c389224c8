-- What each end of a run says.
use Rattle.std.proofs.Common.{◌≡◌, ◌⊎◌, inl, inr, ⊎_elim, ℕ, ℤ, List, ◌∙◌, refl, sym, ap, subst, Bool, true, false, ◌||◌, Option, Some, IfSome, arith}
use Rattle.std.specs.Io.KnownBytes.{Appends, Keeps, IsAtEnd}
use Rattle.spool_text.specs.fleet_ports.Counts.{Counts, RoseBy}
use Rattle.spool_text.specs.fleet_ports.declared.disk.Disks.{Disks}
use Rattle.fleet_hub.specs.history_spec.Thread.{Item}
use Rattle.spool_text.proofs.of_history_laws.Spools.{spools_have_one_reading}
use Rattle.program_words.specs.spool_spec.Spool.{End, whole, bad_at, SpoolOf}
use Rattle.fleet_hub.specs.log_pair.Pair.{is_down_of}
use Rattle.fleet_hub.specs.fleet_keeper.Keeper.{pair_of, faults_of}
use Rattle.fleet_hub.specs.queue_log.Queued.{queue_down}
use Rattle.fleet_hub.specs.core_state.Tallies.{tally_of}
use Rattle.fleet_hub.specs.core_opening.Opened.{LogCore, disks_in}
use Rattle.fleet_hub.specs.core_course.Sight.{is_down}
use Rattle.fleet_hub.specs.core_spec.History.{History}
use Rattle.fleet_hub.specs.core_drain.Ends.{LacksDone, SomethingWaits, IsLeft}
use Rattle.fleet_hub.proofs.of_core_state.of_fleet_keeper.Within.{rose_from}
use Rattle.spool_run.specs.declared.ends.SpoolEnd.{SpoolEnd}
use Rattle.spool_run.specs.declared.ends.SpoolEnd.TheVariants as end
use Rattle.spool_run.specs.Fronts.{AreInFront}
use Rattle.spool_run.specs.Intake.{TookIn, TookAll, EndsSo, IsSpent}
use Rattle.calm_commands.specs.declared.status.Status.{Status}
use Rattle.calm_commands.specs.declared.status.Status.TheVariants as status
use Rattle.calm_commands.specs.Told.{Stream, AppendsLess}
use Rattle.calm_commands.specs.Openings.{DiskSight, OpensTo, IsUnopened, IsOpeningEnd, TellsFiles}
use Rattle.spool_run.specs.Summary.{summary_text, Printed, faulty, starved, Closes}
use Rattle.spool_run.specs.Summary as printed
use Rattle.spool_run.specs.Runs.{log_sight, IsSoundCore, RanSome, NoBatch, CommandComes, CommandIsSpent, CommandWaits, DoneIsLacking, SomethingIsLeft, SweepIsLeft, Anything, RunEnds, IsQuiet, QueueRose, QueueIsLater, HasEnded, NothingFails, IsCalmEnd, IsBadEnd, IsRun, LeavesOpen}
use Rattle.spool_run.proofs.Printing.{keeps, kept, uncounted, other_cause}
use Rattle.spool_run.proofs.Ran.{queue_rose, queue_rose_twice, queue_later, store_rose, store_rose_twice, rose_behind, through, through_open, some, all_are_some}

-- ---- tests of statuses

abbrev IsOpenedEnd : Status → Type 0
IsOpenedEnd (status.Damaged file at) = ⊥
IsOpenedEnd _ = Unit {0}

abbrev IsNoReadFault : Status → Type 0
IsNoReadFault status.ReadFault = ⊥
IsNoReadFault _ = Unit {0}

abbrev IsNoWriteFault : Status → Type 0
IsNoWriteFault status.WriteFault = ⊥
IsNoWriteFault _ = Unit {0}

abbrev IsNoQueueFault : Status → Type 0
IsNoQueueFault status.QueueFault = ⊥
IsNoQueueFault _ = Unit {0}

abbrev IsNoStoreDown : Status → Type 0
IsNoStoreDown status.StoreDown = ⊥
IsNoStoreDown _ = Unit {0}

abbrev IsNoStoreFault : Status → Type 0
IsNoStoreFault status.StoreFault = ⊥
IsNoStoreFault _ = Unit {0}

-- no fault of a disk, and no damage
abbrev IsCalm : Status → Type 0
IsCalm answer = IsOpenedEnd answer × IsNoQueueFault answer × IsNoStoreDown answer × IsNoStoreFault answer

abbrev IsNoReadEnd : SpoolEnd → Type 0
IsNoReadEnd end.ReadFault = ⊥
IsNoReadEnd _ = Unit {0}

-- a keeper that is down takes the core down
down_by_keeper : (u q k : Bool) → k ≡ true → (u || (q || k)) ≡ true
down_by_keeper true q k is = refl
down_by_keeper false true k is = refl
down_by_keeper false false k is = is

module _ {D : Type 0} (w : DiskSight D) (now : ℤ) (spool spool_after out out_after : Stream) (disks : Disks D) where
  -- ---- no core

  module _ (after : Disks D) (answer : Status) (is : IsUnopened w disks after answer) where
    unopened_ends : (s : Status) → IsOpeningEnd s → IsUnopened w disks after s → RunEnds s w now spool spool out out disks after
    unopened_ends status.QueueFault ends it = inl (it, refl)
    unopened_ends status.StoreFault ends it = inl (it, refl)
    unopened_ends (status.Damaged file at) ends it = (it, refl)
    unopened_ends status.Memory ends it = inl (it, refl)
    unopened_ends status.Spent ends it = inl (it, refl)
    unopened_ends _ ends it = absurd ends

    unopened_run : HasEnded w now spool spool out out disks after answer
    unopened_run = record {
      ends = unopened_ends answer is.ends is;
      files = is.files;
      silent = λ quiet. keeps out.bytes;
      read_cause = uncounted spool spool (answer ≡ status.ReadFault) (λ fault. subst IsOpeningEnd fault is.ends) refl;
      write_cause = uncounted out out (answer ≡ status.WriteFault) (λ fault. subst IsOpeningEnd fault is.ends) refl;
      queue_later = (is.queue_counts.later_a, is.queue_counts.later_b);
      queue_cause = is.queue_counts.cause;
      store_cause = ⊎_elim (λ fault. is.store_counts.cause fault) (λ down. absurd (subst IsOpeningEnd down is.ends));
      store_twice = λ down. absurd (subst IsOpeningEnd down is.ends);
    }

  -- ---- a core

  module _ (opened : LogCore D) (opens : OpensTo w disks opened) (ended : LogCore D) (sound : IsSoundCore w ended) where
    abbrev after : Disks D
    after = disks_in ended

    files_so : (answer : Status) → IsOpenedEnd answer → TellsFiles w disks answer
    files_so answer ends = record {
      damaged = λ told file at is. absurd (subst IsOpenedEnd is ends);
      told = λ told file at damage. absurd (opens.undamaged told file at damage);
      never = λ told ttls history files file at is. subst IsOpenedEnd is ends;
      spent = λ told lacks. absurd (opens.roomy told lacks);
    }

    -- an end without a fault of a disk
    calm_run : (answer : Status) → IsCalm answer → QueueIsLater w disks after → RunEnds answer w now spool spool_after out out_after disks after → (IsQuiet answer → Keeps out.bytes out_after.bytes)
        → Counts spool.faults spool_after.faults (answer ≡ status.ReadFault) → Counts out.faults out_after.faults (answer ≡ status.WriteFault) → HasEnded w now spool spool_after out out_after disks after answer
    calm_run answer calm queue ends silent read write = record {
      ends = ends;
      files = files_so answer calm.0;
      silent = silent;
      read_cause = read;
      write_cause = write;
      queue_later = queue;
      queue_cause = λ is. absurd (subst IsNoQueueFault is calm.1);
      store_cause = ⊎_elim (λ is. absurd (subst IsNoStoreFault is calm.3)) (λ is. absurd (subst IsNoStoreDown is calm.2));
      store_twice = λ is. absurd (subst IsNoStoreDown is calm.2);
    }

    module _ (read : Counts spool.faults spool_after.faults ⊥) where
      read_so : (answer : Status) → IsNoReadFault answer → Counts spool.faults spool_after.faults (answer ≡ status.ReadFault)
      read_so answer none = other_cause spool.faults spool_after.faults ⊥ (answer ≡ status.ReadFault) (λ e. e) (λ is. subst IsNoReadFault is none) read

      write_so : (answer : Status) → IsNoWriteFault answer → out_after ≡ out → Counts out.faults out_after.faults (answer ≡ status.WriteFault)
      write_so answer none same = uncounted out out_after (answer ≡ status.WriteFault) (λ is. subst IsNoWriteFault is none) same

      -- the spool was read to its end
      module _ (to : End) (all : TookAll (log_sight w) now spool.bytes to opened ended) (reads : to ≡ whole → IsAtEnd spool_after.bytes) where
        queue : QueueIsLater w disks after
        queue = queue_later w disks opened opens ended sound now spool.bytes true all.items all.took

        starved_run : out_after ≡ out → HasEnded w now spool spool_after out out_after disks after status.Memory
        starved_run same =
            calm_run status.Memory (tt, tt, tt, tt) queue (inr (all_are_some w disks opened opens ended sound now spool.bytes to all Anything tt)) (λ quiet. kept out out_after same)
            (read_so status.Memory tt) (write_so status.Memory tt same)

        faulty_run : AppendsLess (summary_text (tally_of ended.events.list)) out.bytes out_after.bytes → Counts out.faults out_after.faults (status.WriteFault ≡ status.WriteFault)
            → HasEnded w now spool spool_after out out_after disks after status.WriteFault
        faulty_run less counts =
            calm_run status.WriteFault (tt, tt, tt, tt) queue (to, through w disks opened opens ended sound now spool.bytes to all (λ text. AppendsLess text out.bytes out_after.bytes) less, reads) (λ quiet. absurd quiet)
            (read_so status.WriteFault tt) counts

        printed_run : (wanted : Status) → (Appends out.bytes out_after.bytes (summary_text (tally_of ended.events.list)) → Counts out.faults out_after.faults ⊥ → HasEnded w now spool spool_after out out_after disks after wanted)
            → (answer : Status) → Printed (summary_text (tally_of ended.events.list)) wanted out out_after answer → HasEnded w now spool spool_after out out_after disks after answer
        printed_run wanted run answer (printed.whole is text calm) =
            subst (λ (s : Status). HasEnded w now spool spool_after out out_after disks after s) (sym is)
            (run text (subst (λ n. Counts out.faults n ⊥) (sym calm) (uncounted out out ⊥ (λ e. e) refl)))
        printed_run wanted run answer (faulty is less later rose) =
            subst (λ (s : Status). HasEnded w now spool spool_after out out_after disks after s) (sym is)
            (faulty_run less (record { later = later; cause = λ same. rose; calm = λ none. absurd (none refl) }))
        printed_run wanted run answer (starved is same) =
            subst (λ (s : Status). HasEnded w now spool spool_after out out_after disks after s) (sym is) (starved_run same)

      -- some of it came in
      module _ (due : Bool) (items : List Item) (front : IfSome spool.bytes (AreInFront now items)) (t : TookIn (log_sight w) now spool.bytes due items opened ended) (same : out_after ≡ out) where
        came_in : (down : Bool) → is_down (log_sight w) ended ≡ down → (Then : History → List Item → LogCore D → LogCore D → Type 0) → Then t.more items opened ended → RanSome w now due down spool.bytes disks after Then
        came_in down is Then it = some w disks opened opens ended sound now spool.bytes due down items front t is Then it

        still : QueueIsLater w disks after
        still = queue_later w disks opened opens ended sound now spool.bytes due items t

        queue_run : RunEnds status.QueueFault w now spool spool_after out out_after disks after → QueueRose w disks after
            → HasEnded w now spool spool_after out out_after disks after status.QueueFault
        queue_run ends up = record {
          ends = ends;
          files = files_so status.QueueFault tt;
          silent = λ quiet. kept out out_after same;
          read_cause = read_so status.QueueFault tt;
          write_cause = write_so status.QueueFault tt same;
          queue_later = still;
          queue_cause = λ is. up;
          store_cause = ⊎_elim (λ is. absurd (subst IsNoStoreFault is tt)) (λ is. absurd (subst IsNoStoreDown is tt));
          store_twice = λ is. absurd (subst IsNoStoreDown is tt);
        }

        down_run : RanSome w now true true spool.bytes disks after (SomethingIsLeft w now spool.bytes disks after) → RoseBy 2 (faults_of opened.store) (faults_of ended.store) → is_down_of (pair_of ended.store) ≡ true
            → HasEnded w now spool spool_after out out_after disks after status.StoreDown
        down_run ends up_by down = record {
          ends = ends;
          files = files_so status.StoreDown tt;
          silent = λ quiet. kept out out_after same;
          read_cause = read_so status.StoreDown tt;
          write_cause = write_so status.StoreDown tt same;
          queue_later = still;
          queue_cause = λ is. absurd (subst IsNoQueueFault is tt);
          store_cause = λ is. store_rose w disks opened opens ended sound now spool.bytes due items t (omega (arith, up_by));
          store_twice = λ is. store_rose_twice w disks opened opens ended sound now spool.bytes due items t down;
        }

        fault_run : RunEnds status.StoreFault w now spool spool_after out out_after disks after → RoseBy 1 (faults_of opened.store) (faults_of ended.store)
            → HasEnded w now spool spool_after out out_after disks after status.StoreFault
        fault_run ends up_by = record {
          ends = ends;
          files = files_so status.StoreFault tt;
          silent = λ quiet. kept out out_after same;
          read_cause = read_so status.StoreFault tt;
          write_cause = write_so status.StoreFault tt same;
          queue_later = still;
          queue_cause = λ is. absurd (subst IsNoQueueFault is tt);
          store_cause = λ is. store_rose w disks opened opens ended sound now spool.bytes due items t up_by;
          store_twice = λ is. absurd (subst IsNoStoreDown is tt);
        }

        spent_run : RunEnds status.Spent w now spool spool_after out out_after disks after → HasEnded w now spool spool_after out out_after disks after status.Spent
        spent_run ends =
            calm_run status.Spent (tt, tt, tt, tt) still ends (λ quiet. kept out out_after same) (read_so status.Spent tt) (write_so status.Spent tt same)

        memory_run : RunEnds status.Memory w now spool spool_after out out_after disks after → HasEnded w now spool spool_after out out_after disks after status.Memory
        memory_run ends =
            calm_run status.Memory (tt, tt, tt, tt) still ends (λ quiet. kept out out_after same) (read_so status.Memory tt) (write_so status.Memory tt same)

      -- a fault of the queue, as what waits is settled
      queue_left : (items : List Item) → IfSome spool.bytes (AreInFront now items) → TookIn (log_sight w) now spool.bytes true items opened ended → out_after ≡ out
          → is_down_of (pair_of ended.store) ≡ false → LacksDone (log_sight w) opened ended ⊎ IsLeft (log_sight w) opened ended
          → RunEnds status.QueueFault w now spool spool_after out out_after disks after
      queue_left items front t same up (inl lacks) =
          inr (inr (inl (came_in true items front t same true (ap (λ (b : Bool). b || (queue_down ended.queue || is_down_of (pair_of ended.store))) lacks.undone) (DoneIsLacking w) (lacks, up))))
      queue_left items front t same up (inr left) =
          inr (inr (inr (
            is_down (log_sight w) ended,
            queue_rose_twice w disks opened opens ended sound now spool.bytes true items t left.0 up,
            came_in true items front t same (is_down (log_sight w) ended) refl (CommandWaits w) (left.1, left.2, (left.0, up)),
          )))

    -- ---- the intake's ends

    no_read : (e : SpoolEnd) → IsNoReadEnd e → Counts spool.faults spool_after.faults (e ≡ end.ReadFault) → Counts spool.faults spool_after.faults ⊥
    no_read e none read = other_cause spool.faults spool_after.faults (e ≡ end.ReadFault) ⊥ (λ is. subst IsNoReadEnd is none) (λ never. never) read

    at_end : (wanted answer : Status) → answer ≡ wanted → HasEnded w now spool spool_after out out_after disks after wanted → HasEnded w now spool spool_after out out_after disks after answer
    at_end wanted answer is run = subst (λ (s : Status). HasEnded w now spool spool_after out out_after disks after s) (sym is) run

    abbrev summary : List ℕ
    summary = summary_text (tally_of ended.events.list)

    closed_run : (e : SpoolEnd) → EndsSo (log_sight w) now e spool.bytes spool_after.bytes opened ended → Counts spool.faults spool_after.faults (e ≡ end.ReadFault)
        → (answer : Status) → Closes e summary out out_after answer → HasEnded w now spool spool_after out out_after disks after answer
    closed_run end.Done ends read answer closes =
        let calm = no_read end.Done tt read in
        printed_run calm whole ends.0 (λ same. ends.1) status.Done
        (λ text counts. calm_run status.Done (tt, tt, tt, tt) (queue_later w disks opened opens ended sound now spool.bytes true ends.0.items ends.0.took) (through w disks opened opens ended sound now spool.bytes whole ends.0 (Appends out.bytes out_after.bytes) text, ends.1) (λ quiet. absurd quiet)
        (read_so calm status.Done tt) (other_cause out.faults out_after.faults ⊥ (status.Done ≡ status.WriteFault) (λ e. e) (λ is. subst IsNoWriteFault is tt) counts))
        answer closes
    closed_run (end.Bad at) ends read answer closes =
        let calm = no_read (end.Bad at) tt read in
        printed_run calm (bad_at at) ends (λ same. absurd (let apart : bad_at at ≡ whole = same in cc)) (status.SpoolBad at)
        (λ text counts. calm_run (status.SpoolBad at) (tt, tt, tt, tt) (queue_later w disks opened opens ended sound now spool.bytes true ends.items ends.took) (through w disks opened opens ended sound now spool.bytes (bad_at at) ends (Appends out.bytes out_after.bytes) text) (λ quiet. absurd quiet)
        (read_so calm (status.SpoolBad at) tt) (other_cause out.faults out_after.faults ⊥ (status.SpoolBad at ≡ status.WriteFault) (λ e. e) (λ is. subst IsNoWriteFault is tt) counts))
        answer closes
    closed_run end.ReadFault ends read answer closes =
        at_end status.ReadFault answer closes.0
        (calm_run status.ReadFault (tt, tt, tt, tt) (queue_later w disks opened opens ended sound now spool.bytes false ends.items ends.took) (some w disks opened opens ended sound now spool.bytes false false ends.items ends.spool ends.took ends.after.0 (NoBatch now spool.bytes spool_after.bytes) (ends.after.1, ends.after.2))
        (λ quiet. kept out out_after closes.1)
        (record { later = read.later; cause = λ is. read.cause refl; calm = λ none. absurd (none refl) }) (uncounted out out_after (status.ReadFault ≡ status.WriteFault) (λ is. subst IsNoWriteFault is tt) closes.1))
    closed_run end.QueueFault (inl ends) read answer closes =
        let calm = no_read end.QueueFault tt read in
        let it = ends.after in
        at_end status.QueueFault answer closes.0
        (queue_run calm false ends.items ends.spool ends.took closes.1
        (inr (inl (
          is_down (log_sight w) ended,
          queue_rose_twice w disks opened opens ended sound now spool.bytes false ends.items ends.took it.2 it.1,
          came_in calm false ends.items ends.spool ends.took closes.1 (is_down (log_sight w) ended) refl (CommandComes w now spool.bytes) (it.3, it.4, it.5, it.6, (it.2, it.1), it.7),
        )))
        (queue_rose w disks opened opens ended sound it.0))
    closed_run end.QueueFault (inr ends) read answer closes =
        let calm = no_read end.QueueFault tt read in
        at_end status.QueueFault answer closes.0
        (queue_run calm true ends.items ends.spool ends.took closes.1
        (queue_left calm ends.items ends.spool ends.took closes.1 ends.after.1 ends.after.2)
        (queue_rose w disks opened opens ended sound ends.after.0))
    closed_run end.StoreDown ends read answer closes =
        let calm = no_read end.StoreDown tt read in
        at_end status.StoreDown answer closes.0
        (down_run calm true ends.items ends.spool ends.took closes.1
        (came_in calm true ends.items ends.spool ends.took closes.1 true (down_by_keeper ended.undone (queue_down ended.queue) (is_down_of (pair_of ended.store)) ends.after.1) (SomethingIsLeft w now spool.bytes disks after)
        (rose_behind w disks opened opens ended sound now spool.bytes true ends.items ends.took 2 ends.after.0, ends.after.1, ends.after.2))
        (rose_from 2 (faults_of opened.store) ends.after.0.counted (faults_of ended.store) ends.after.0.later ends.after.0.rose) ends.after.1)
    closed_run end.StoreFault ends read answer closes =
        let calm = no_read end.StoreFault tt read in
        at_end status.StoreFault answer closes.0
        (fault_run calm true ends.items ends.spool ends.took closes.1
        (inr (came_in calm true ends.items ends.spool ends.took closes.1 false ends.after.1 (SweepIsLeft w now spool.bytes disks after)
        (rose_behind w disks opened opens ended sound now spool.bytes true ends.items ends.took 1 ends.after.0, ends.after.2)))
        (rose_from 1 (faults_of opened.store) ends.after.0.counted (faults_of ended.store) ends.after.0.later ends.after.0.rose))
    closed_run end.Spent (inl ends) read answer closes =
        let calm = no_read end.Spent tt read in
        at_end status.Spent answer closes.0
        (spent_run calm false ends.items ends.spool ends.took closes.1
        (inr (inl (came_in calm false ends.items ends.spool ends.took closes.1 false ends.after.0 (CommandIsSpent now spool.bytes) (ends.after.1, ends.after.2)))))
    closed_run end.Spent (inr ends) read answer closes =
        let calm = no_read end.Spent tt read in
        at_end status.Spent answer closes.0
        (spent_run calm true ends.items ends.spool ends.took closes.1
        (inr (inr (came_in calm true ends.items ends.spool ends.took closes.1 false ends.after.0 (λ more its old new. IsSpent (log_sight w) now spool.bytes old new its) ends.after.1))))
    closed_run end.Memory ends read answer closes =
        let calm = no_read end.Memory tt read in
        at_end status.Memory answer closes.0
        (memory_run calm true ends.items ends.spool ends.took closes.1
        (inr (came_in calm true ends.items ends.spool ends.took closes.1 false ends.after Anything tt)))

-- ---- where nothing fails

one_end : (now : ℤ) (bytes : List ℕ) (items others : List Item) (to from : End) (told : Option (List ℕ)) → told ≡ Some bytes → SpoolOf now bytes items to → IfSome told (λ b. SpoolOf now b others from) → to ≡ from
one_end now bytes items others to from told is spool there =
    let here : SpoolOf now bytes others from = subst (λ (o : Option (List ℕ)). IfSome o (λ b. SpoolOf now b others from)) is there in
    (spools_have_one_reading now bytes items others to from spool here).1

abbrev place_of : End → ℕ
place_of whole = 0
place_of (bad_at at) = at

module _ {D : Type 0} (w : DiskSight D) (now : ℤ) (spool spool_after out out_after : Stream) (disks after : Disks D) where
  calm_end : NothingFails w now whole spool spool_after out out_after disks after → (s : Status) → HasEnded w now spool spool_after out out_after disks after s → IsCalmEnd s
  calm_end calm status.Done h = tt
  calm_end calm status.Spent h = tt
  calm_end calm status.Memory h = tt
  calm_end calm (status.SpoolBad at) h = let apart : whole ≡ bad_at at = one_end now calm.bytes calm.items h.ends.items whole (bad_at at) spool.bytes calm.bytes_are calm.spool_is h.ends.spool_is in cc
  calm_end calm status.ReadFault h = calm.no_read (h.read_cause.cause refl)
  calm_end calm status.WriteFault h = calm.no_write (h.write_cause.cause refl)
  calm_end calm status.QueueFault h = calm.no_queue (h.queue_cause refl)
  calm_end calm status.StoreDown h = calm.no_store (h.store_cause (inr refl))
  calm_end calm status.StoreFault h = calm.no_store (h.store_cause (inl refl))
  calm_end calm (status.Damaged file at) h = h.files.never calm.tells calm.ttls calm.start calm.files file at refl
  calm_end calm _ h = h.ends

  bad_end : (at : ℕ) → NothingFails w now (bad_at at) spool spool_after out out_after disks after → (s : Status) → HasEnded w now spool spool_after out out_after disks after s → IsBadEnd at s
  bad_end at calm status.Done h =
      let apart : bad_at at ≡ whole = one_end now calm.bytes calm.items h.ends.0.items (bad_at at) whole spool.bytes calm.bytes_are calm.spool_is h.ends.0.spool_is in cc
  bad_end at calm status.Spent h = tt
  bad_end at calm status.Memory h = tt
  bad_end at calm (status.SpoolBad place) h =
      sym (ap place_of (one_end now calm.bytes calm.items h.ends.items (bad_at at) (bad_at place) spool.bytes calm.bytes_are calm.spool_is h.ends.spool_is))
  bad_end at calm status.ReadFault h = calm.no_read (h.read_cause.cause refl)
  bad_end at calm status.WriteFault h = calm.no_write (h.write_cause.cause refl)
  bad_end at calm status.QueueFault h = calm.no_queue (h.queue_cause refl)
  bad_end at calm status.StoreDown h = calm.no_store (h.store_cause (inr refl))
  bad_end at calm status.StoreFault h = calm.no_store (h.store_cause (inl refl))
  bad_end at calm (status.Damaged file place) h = h.files.never calm.tells calm.ttls calm.start calm.files file place refl
  bad_end at calm _ h = h.ends

  whole_run : (answer : Status) → HasEnded w now spool spool_after out out_after disks after answer → IsRun w now spool spool_after out out_after disks after answer
  whole_run answer h = record { ended = h; complete = λ calm. calm_end calm answer h; complete_bad = λ at calm. bad_end at calm answer h }

pub run_of_unopened : {D : Type 0} (w : DiskSight D) (now : ℤ) (spool out : Stream) (disks after : Disks D) (answer : Status) → IsUnopened w disks after answer → IsRun w now spool spool out out disks after answer
run_of_unopened w now spool out disks after answer is = whole_run w now spool spool out out disks after answer (unopened_run w now spool spool out out disks after answer is)

pub run_of_opened : {D : Type 0} (w : DiskSight D) (now : ℤ) (spool spool_after out out_after : Stream) (disks : Disks D) (opened : LogCore D) → OpensTo w disks opened → (ended : LogCore D) → IsSoundCore w ended
    → (e : SpoolEnd) → EndsSo (log_sight w) now e spool.bytes spool_after.bytes opened ended → Counts spool.faults spool_after.faults (e ≡ end.ReadFault)
    → (answer : Status) → Closes e (summary_text (tally_of ended.events.list)) out out_after answer → IsRun w now spool spool_after out out_after disks (disks_in ended) answer
run_of_opened w now spool spool_after out out_after disks opened opens ended sound e ends read answer closes =
    whole_run w now spool spool_after out out_after disks (disks_in ended) answer (closed_run w now spool spool_after out out_after disks opened opens ended sound e ends read answer closes)

-- a run never answers that the words are none
pub never_usage : {D : Type 0} (w : DiskSight D) (now : ℤ) (spool spool_after out out_after : Stream) (disks after : Disks D) (answer : Status) → IsRun w now spool spool_after out out_after disks after answer
    → answer ≡ status.Usage → ⊥
never_usage w now spool spool_after out out_after disks after answer run is = subst (λ (s : Status). RunEnds s w now spool spool_after out out_after disks after) is run.ended.ends

-- ---- Done

module _ {D : Type 0} (w : DiskSight D) (now : ℤ) (spool out out_after : Stream) (disks : Disks D) (opened : LogCore D) (opens : OpensTo w disks opened) (ended : LogCore D) (sound : IsSoundCore w ended) where
  left_open : (all : TookAll (log_sight w) now spool.bytes whole opened ended) → Appends out.bytes out_after.bytes (summary_text (tally_of ended.events.list)) → LeavesOpen w now spool out out_after disks ended
  left_open all text =
      let it = through_open w disks opened opens ended sound now spool.bytes whole all (Appends out.bytes out_after.bytes) text in
      record { ran = it.0; left_is = it.1 }

  -- the text was printed whole
  printed_whole : (all : TookAll (log_sight w) now spool.bytes whole opened ended) (answer : Status) → Printed (summary_text (tally_of ended.events.list)) status.Done out out_after answer → answer ≡ status.Done
      → LeavesOpen w now spool out out_after disks ended
  printed_whole all answer (printed.whole is text calm) done = left_open all text
  printed_whole all answer (faulty is less later rose) done = (let apart : status.WriteFault ≡ status.Done = sym is ∙ done in absurd (cc))
  printed_whole all answer (starved is same) done = (let apart : status.Memory ≡ status.Done = sym is ∙ done in absurd (cc))

  not_bad : (at : ℕ) (text : List ℕ) (answer : Status) → Printed text (status.SpoolBad at) out out_after answer → answer ≡ status.Done → ⊥
  not_bad at text answer (printed.whole is wrote calm) done = (let apart : status.SpoolBad at ≡ status.Done = sym is ∙ done in cc)
  not_bad at text answer (faulty is less later rose) done = (let apart : status.WriteFault ≡ status.Done = sym is ∙ done in cc)
  not_bad at text answer (starved is same) done = (let apart : status.Memory ≡ status.Done = sym is ∙ done in cc)

  -- Done is told only where the spool came in whole and the summary is out
  pub leaves_open : (rest : Option (List ℕ)) (e : SpoolEnd) → EndsSo (log_sight w) now e spool.bytes rest opened ended → (answer : Status) → Closes e (summary_text (tally_of ended.events.list)) out out_after answer → answer ≡ status.Done
      → LeavesOpen w now spool out out_after disks ended
  leaves_open rest end.Done ends answer closes done = printed_whole ends.0 answer closes done
  leaves_open rest (end.Bad at) ends answer closes done = absurd (not_bad at (summary_text (tally_of ended.events.list)) answer closes done)
  leaves_open rest end.ReadFault ends answer closes done = (let apart : status.ReadFault ≡ status.Done = sym closes.0 ∙ done in absurd (cc))
  leaves_open rest end.QueueFault ends answer closes done = (let apart : status.QueueFault ≡ status.Done = sym closes.0 ∙ done in absurd (cc))
  leaves_open rest end.StoreDown ends answer closes done = (let apart : status.StoreDown ≡ status.Done = sym closes.0 ∙ done in absurd (cc))
  leaves_open rest end.StoreFault ends answer closes done = (let apart : status.StoreFault ≡ status.Done = sym closes.0 ∙ done in absurd (cc))
  leaves_open rest end.Spent ends answer closes done = (let apart : status.Spent ≡ status.Done = sym closes.0 ∙ done in absurd (cc))
  leaves_open rest end.Memory ends answer closes done = (let apart : status.Memory ≡ status.Done = sym closes.0 ∙ done in absurd (cc))
