-- A sweep over a core that was just opened.
use Rattle.std.proofs.Common.{◌≡◌, ◌∙◌, ◌⊎◌, inl, inr, ⊎_elim, ℕ, ℤ, ◌≤◌, List, [], ◌∷◌, ◌++◌, length, length-append, arith, refl, sym, ap, subst, Bool, true, false, Option}
use Rattle.query_answer.specs.fleet_ports.Counts.{Counts}
use Rattle.query_answer.specs.fleet_ports.declared.disk.Disks.{Disks}
use Rattle.query_answer.specs.fleet_rows.declared.settings.Kinds.{Kinds}
use Rattle.query_answer.specs.fleet_rows.declared.settings.Ttls.{Ttls}
use Rattle.command_core.specs.log_pair.Open.{PairCounts}
use Rattle.command_core.specs.log_pair.Pair.{disk_a, disk_b, is_down_of, size_of_pair}
use Rattle.command_core.specs.record_spec.declared.queue.QueueRecord.{QueueRecord}
use Rattle.command_core.specs.record_spec.declared.store.StoreRecord.{StoreRecord}
use Rattle.command_core.specs.record_spec.declared.store.StoreRecord.TheVariants as store
use Rattle.command_core.specs.record_spec.Store.{store_text}
use Rattle.command_core.specs.queue_records.Reading.{queue_at}
use Rattle.command_core.specs.store_records.Reading.{store_at}
use Rattle.command_core.specs.core_spec.declared.event.Event.{Event}
use Rattle.command_core.specs.core_spec.declared.event.Event.TheVariants.{Sweep, Restart}
use Rattle.command_core.specs.core_spec.History.{History}
use Rattle.command_core.specs.fleet_keeper.declared.log_keeper.LogKeeper.{LogKeeper}
use Rattle.command_core.specs.fleet_keeper.Keeper.{pair_of, faults_of, IsWithin}
use Rattle.command_core.specs.fleet_keeper.Limits.{IsPast}
use Rattle.command_core.specs.fleet_keeper.Pairs.{records_at, PairImages, PairSince}
use Rattle.command_core.specs.queue_log.declared.queue.QueueLog.{QueueLog}
use Rattle.command_core.specs.queue_log.Queued.{queue_pair}
use Rattle.command_core.specs.core_state.Changes.{CoreStays}
use Rattle.command_core.specs.core_state.Moments.{Within, StandsAmid}
use Rattle.command_core.specs.core_state.Seen.{down_of}
use Rattle.command_core.specs.core_state.StandsFor.{StandsAt, history_of}
use Rattle.command_core.specs.core_sweeps.Sweeps.{SweepAdds, IsCalm, IsSweep, IsStoreFault}
use Rattle.command_core.specs.core_sweeps.declared.answers.Swept.{Swept}
use Rattle.command_core.specs.core_sweeps.declared.answers.Swept.TheVariants as came
use Rattle.command_core.specs.core_opening.declared.faults.FileName.{FileName}
use Rattle.command_core.specs.core_opening.Opened.{LogCore, LogCoreStands, FilesStand, DisksStand, disks_in}
use Rattle.calm_commands.specs.declared.status.Status.{Status}
use Rattle.calm_commands.specs.declared.status.Status.TheVariants as status
use Rattle.calm_commands.specs.Openings.{DiskSight, ForEachHistory, OpensSo, OpensTo, IsUnopened, IsOpeningEnd}
use Rattle.calm_commands.proofs.Faults.{rose}
use Rattle.calm_commands.specs.Calm.{IsSweepEnd, StandBeforeOrSwept, SweepLeaves, SweepsOn, SweepsWithin, IsSweepRun}
use Rattle.calm_commands.specs.Ends.{sweep_status}

-- ---- histories between two

pub upto_is : (old now upto : History) (e : Event) (a b : History) → (now ≡ old) ⊎ (now ≡ e ∷ old) → upto ≡ a ++ old → now ≡ b ++ upto → (upto ≡ old) ⊎ (upto ≡ e ∷ old)
upto_is old now upto e [] b adds from to = inl from
upto_is old now upto e (x ∷ a) [] (inl same) from to = inl (sym to ∙ same)
upto_is old now upto e (x ∷ a) [] (inr more) from to = inr (sym to ∙ more)
upto_is old now upto e (x ∷ a) (y ∷ b) (inl same) from to =
    let first = ap length from in
    let second = ap length to in
    let third = ap length same in
    absurd (omega (arith, first, second, third, length-append a old, length-append b upto))
upto_is old now upto e (x ∷ a) (y ∷ b) (inr more) from to =
    let first = ap length from in
    let second = ap length to in
    let third = ap length more in
    absurd (omega (arith, first, second, third, length-append a old, length-append b upto))

adds_one : (a : Swept) (kinds : Kinds) (m : ℤ) (old new : History) → SweepAdds a kinds m old new → (new ≡ old) ⊎ (new ≡ Sweep kinds m ∷ old)
adds_one came.Ok kinds m old new adds = inr adds
adds_one came.StoreFault kinds m old new adds = inl adds
adds_one came.StoreDown kinds m old new adds = inl adds
adds_one came.Spent kinds m old new adds = inl adds
adds_one came.Down kinds m old new adds = inl adds
adds_one came.Memory kinds m old new adds = inl adds

-- ---- what the disks stand for

abbrev CoreWithin : {D : Type 0} → DiskSight D → LogCore D → LogCore D → (Option (List QueueRecord) → Option (List StoreRecord) → Type 0) → Type 0
CoreWithin {D} w old new P =
    Within w.may_leave w.moment w.left_since (λ (k : LogKeeper D). PairImages store_at w.may_leave (pair_of k)) (λ k. (w.moment (disk_a (pair_of k)), w.moment (disk_b (pair_of k)))) (λ k. PairSince store_at w.left_since (pair_of k)) old new P

abbrev is_down : {D : Type 0} → LogCore D → Bool
is_down {D} core = down_of (λ (k : LogKeeper D). is_down_of (pair_of k)) core

module _ {D : Type 0} (w : DiskSight D) (counts_now : (d : D) (t : ℕ) (c : List ℕ) → t ≤ w.moment d → w.may_leave d c → w.left_since d t c) (only_now : (d : D) (c : List ℕ) → w.left_since d (w.moment d) c → w.may_leave d c)
    (kinds : Kinds) (m : ℤ) (disks : Disks D) where
  -- ---- an opening that failed

  module _ (after : Disks D) (answer : Status) (is : IsUnopened w disks after answer) where
    nothing_leaves : (s : Status) → IsOpeningEnd s → (ttls : Ttls) (history : History) → DisksStand w.may_leave ttls after (Restart ∷ history) → SweepLeaves s w kinds m after ttls history
    nothing_leaves status.QueueFault ends ttls history all = all
    nothing_leaves status.StoreFault ends ttls history all = all
    nothing_leaves (status.Damaged file at) ends ttls history all = all
    nothing_leaves status.Memory ends ttls history all = all
    nothing_leaves status.Spent ends ttls history all = all
    nothing_leaves _ ends ttls history all = absurd ends

    nothing_ends : (s : Status) → IsOpeningEnd s → IsSweepEnd s
    nothing_ends status.QueueFault ends = tt
    nothing_ends status.StoreFault ends = tt
    nothing_ends (status.Damaged file at) ends = tt
    nothing_ends status.Memory ends = tt
    nothing_ends status.Spent ends = tt
    nothing_ends _ ends = absurd ends

    not_fault : (s : Status) → (s ≡ status.Memory) ⊎ (s ≡ status.Spent) → s ≡ status.StoreFault → ⊥
    not_fault s (inl memory) fault = let apart : status.Memory ≡ status.StoreFault = sym memory ∙ fault in cc
    not_fault s (inr spent) fault = let apart : status.Spent ≡ status.StoreFault = sym spent ∙ fault in cc

    pub unopened_run : IsSweepRun w kinds m disks after answer
    unopened_run = record {
      ends = nothing_ends answer is.ends;
      files = is.files;
      full = λ told spent. inl (is.full told spent);
      roomy = λ no_spent no_memory. inl is;
      any_moment = λ told ttls history all. record {
        opened = after;
        opening = is.any_moment told ttls history all;
        sweeps = record {
          queue_a = refl;
          queue_b = refl;
          sweeping = λ qa qb sa sb ia ib la lb. inl (is.leaves told ttls history all qa qb sa sb ia ib (only_now after.store_a sa la) (only_now after.store_b sb lb));
        };
      };
      each_moment = inl is;
      leaves = λ told ttls history all. nothing_leaves answer is.ends ttls history (is.leaves told ttls history all);
      left = inl is;
      untouched = λ file at damaged. is.untouched (λ fault. (let apart : status.Damaged file at ≡ status.QueueFault = sym damaged ∙ fault in cc));
      queue_counts = is.queue_counts;
      store_cause = ⊎_elim (λ fault. is.store_counts.cause fault) (λ down. absurd (subst IsOpeningEnd down is.ends));
      store_twice = λ down. absurd (subst IsOpeningEnd down is.ends);
      store_calm = λ why. record {
        later_a = is.store_counts.later_a;
        later_b = is.store_counts.later_b;
        cause = λ f. absurd f;
        calm = λ none. is.store_counts.calm (not_fault answer why);
      };
    }

  -- ---- a core

  module _ (core new : LogCore D) (opens : OpensTo w disks core) (answer : Swept) (up : answer ≡ came.Down → ⊥)
      (adds : SweepAdds answer kinds m core.events.list new.events.list) (queue : new.queue ≡ core.queue) (lifetimes : new.tables.ttls ≡ core.tables.ttls)
      (stands : (start : History) → LogCoreStands w.tells w.seen w.may_leave core start → LogCoreStands w.tells w.seen w.may_leave new start)
      (moments : (start : History) → LogCoreStands w.tells w.seen w.may_leave core start → is_down core ≡ false
      → CoreWithin w core new (StandsAmid core.tables.ttls (IsSweep kinds m (history_of core start)) (history_of core start) (history_of new start)))
      (stays_up : (answer ≡ came.StoreDown → ⊥) → is_down new ≡ is_down core)
      (full : answer ≡ came.Spent → IsPast (size_of_pair (pair_of core.store)) (store_text (store.Swept kinds m)))
      (roomless : is_down core ≡ false → IsPast (size_of_pair (pair_of core.store)) (store_text (store.Swept kinds m)) → (answer ≡ came.Spent) ⊎ (answer ≡ came.Memory))
      (cause : Counts (faults_of core.store) (faults_of new.store) (IsStoreFault answer))
      (went : answer ≡ came.StoreDown → is_down_of (pair_of new.store) ≡ true)
      (within : (since : ℕ × ℕ × ℕ) → IsWithin w.faults core.store since → IsWithin w.faults new.store since)
      (stays : IsCalm answer → CoreStays core new) where
    abbrev after : Disks D
    after = disks_in new

    module _ (ttls : Ttls) (history : History) (is : core.tables.ttls ≡ ttls) (on : LogCoreStands w.tells w.seen w.may_leave core history) where
      abbrev old : History
      old = history_of core history

      begun_at : old ≡ Restart ∷ history
      begun_at = ap (λ (h : History). h ++ history) opens.events

      now_is : (history_of new history ≡ old) ⊎ (history_of new history ≡ Sweep kinds m ∷ old)
      now_is = ⊎_elim (λ same. inl (ap (λ (h : History). h ++ history) same)) (λ more. inr (ap (λ (h : History). h ++ history) more)) (adds_one answer kinds m core.events.list new.events.list adds)

      -- an image within the call
      module _ (qa qb sa sb : List ℕ) (amid : StandsAmid core.tables.ttls (IsSweep kinds m old) old (history_of new history) (records_at queue_at qa qb) (records_at store_at sa sb)) where
        history_is : (amid.begun ≡ []) ⊎ IsSweep kinds m old amid.upto amid.begun → (amid.begun ++ amid.upto ≡ old) ⊎ (amid.begun ++ amid.upto ≡ Sweep kinds m ∷ old)
        history_is (inl none) =
            let whole : amid.begun ++ amid.upto ≡ amid.upto = ap (λ (h : History). h ++ amid.upto) none in
            ⊎_elim (λ same. inl (whole ∙ same)) (λ more. inr (whole ∙ more)) (upto_is old (history_of new history) amid.upto (Sweep kinds m) amid.from_old.0 amid.to_new.0 now_is amid.from_old.1 amid.to_new.1)
        history_is (inr one) = inr (λ i. one.1 i ++ one.0 i)

        to_stand : (g : History) → amid.begun ++ amid.upto ≡ g → FilesStand ttls qa qb sa sb g
        to_stand g same =
            subst (λ (t : Ttls). StandsAt t (records_at queue_at qa qb) (records_at store_at sa sb) g) is
            (subst (λ (h : History). StandsAt core.tables.ttls (records_at queue_at qa qb) (records_at store_at sa sb) h) same amid.stands)

        by : (amid.begun ++ amid.upto ≡ old) ⊎ (amid.begun ++ amid.upto ≡ Sweep kinds m ∷ old) → StandBeforeOrSwept ttls kinds m qa qb sa sb history
        by (inl same) = inl (to_stand (Restart ∷ history) (same ∙ begun_at))
        by (inr more) = inr (to_stand (Sweep kinds m ∷ Restart ∷ history) (more ∙ ap (λ (h : History). Sweep kinds m ∷ h) begun_at))

        either : StandBeforeOrSwept ttls kinds m qa qb sa sb history
        either = by (history_is amid.begins)

      -- every image at the end, where the core is up
      up_now : is_down new ≡ false → (g : History) → history_of new history ≡ g → DisksStand w.may_leave ttls after g
      up_now calm g at qa qb sa sb ia ib ja jb =
          let each = (stands history on).disks.each (records_at queue_at qa qb) (records_at store_at sa sb) (qa, qb, ia, ib, refl) (sa, sb, ja, jb, refl) in
          let same : new.tables.ttls ≡ ttls = lifetimes ∙ is in
          subst (λ (t : Ttls). StandsAt t (records_at queue_at qa qb) (records_at store_at sa sb) g) same
          (subst (λ (h : History). StandsAt new.tables.ttls (records_at queue_at qa qb) (records_at store_at sa sb) h) at
          (⊎_elim (λ here. here) (λ down. absurd (let apart : true ≡ false = sym down.0 ∙ calm in cc)) each))

      calm_now : (answer ≡ came.StoreDown → ⊥) → is_down new ≡ false
      calm_now not = stays_up not ∙ opens.up.up

      down_now : (qa qb sa sb : List ℕ) → w.may_leave after.queue_a qa → w.may_leave after.queue_b qb → w.may_leave after.store_a sa → w.may_leave after.store_b sb → StandBeforeOrSwept ttls kinds m qa qb sa sb history
      down_now qa qb sa sb ia ib ja jb =
          let same_a = ap (λ (q : QueueLog D). w.moment (disk_a (queue_pair q))) queue in
          let same_b = ap (λ (q : QueueLog D). w.moment (disk_b (queue_pair q))) queue in
          either qa qb sa sb ((moments history on opens.up.up).then_queue (records_at queue_at qa qb) (records_at store_at sa sb)
          (qa, qb, counts_now after.queue_a (w.moment (disk_a (queue_pair core.queue))) qa (omega (arith, same_a)) ia, counts_now after.queue_b (w.moment (disk_b (queue_pair core.queue))) qb (omega (arith, same_b)) ib, refl)
          (sa, sb, ja, jb, refl))

      leaves_so : (a : Swept) → a ≡ answer → SweepLeaves (sweep_status a) w kinds m after ttls history
      leaves_so came.Ok e = up_now (calm_now (λ down. (let apart = e ∙ down in absurd (cc)))) (Sweep kinds m ∷ Restart ∷ history)
          (ap (λ (h : History). h ++ history) (subst (λ b. SweepAdds b kinds m core.events.list new.events.list) (sym e) adds) ∙ ap (λ (h : History). Sweep kinds m ∷ h) begun_at)
      leaves_so came.StoreFault e = up_now (calm_now (λ down. (let apart = e ∙ down in absurd (cc)))) (Restart ∷ history) (ap (λ (h : History). h ++ history) (subst (λ b. SweepAdds b kinds m core.events.list new.events.list) (sym e) adds) ∙ begun_at)
      leaves_so came.StoreDown e = down_now
      leaves_so came.Spent e = up_now (calm_now (λ down. (let apart = e ∙ down in absurd (cc)))) (Restart ∷ history) (ap (λ (h : History). h ++ history) (subst (λ b. SweepAdds b kinds m core.events.list new.events.list) (sym e) adds) ∙ begun_at)
      leaves_so came.Down e = absurd (up (sym e))
      leaves_so came.Memory e = up_now (calm_now (λ down. (let apart = e ∙ down in absurd (cc)))) (Restart ∷ history) (ap (λ (h : History). h ++ history) (subst (λ b. SweepAdds b kinds m core.events.list new.events.list) (sym e) adds) ∙ begun_at)

      sweeps_on : SweepsOn w kinds m (disks_in core) after ttls history
      sweeps_on = record {
        queue_a = ap (λ (q : QueueLog D). disk_a (queue_pair q)) queue;
        queue_b = ap (λ (q : QueueLog D). disk_b (queue_pair q)) queue;
        sweeping = λ qa qb sa sb ia ib la lb. either qa qb sa sb ((moments history on opens.up.up).store_first (records_at queue_at qa qb) (records_at store_at sa sb) (qa, qb, ia, ib, refl) (sa, sb, la, lb, refl));
      }

      sweeps_within : OpensSo w disks (disks_in core) ttls history → SweepsWithin w kinds m disks after ttls history
      sweeps_within opening = record { opened = disks_in core; opening = opening; sweeps = sweeps_on }

    -- ---- what is answered

    ends_so : (a : Swept) → IsSweepEnd (sweep_status a)
    ends_so came.Ok = tt
    ends_so came.StoreFault = tt
    ends_so came.StoreDown = tt
    ends_so came.Spent = tt
    ends_so came.Down = tt
    ends_so came.Memory = tt

    not_damaged : (a : Swept) (file : FileName) (at : ℕ) → sweep_status a ≡ status.Damaged file at → ⊥
    not_damaged came.Ok file at is = absurd (cc)
    not_damaged came.StoreFault file at is = absurd (cc)
    not_damaged came.StoreDown file at is = absurd (cc)
    not_damaged came.Spent file at is = absurd (cc)
    not_damaged came.Down file at is = absurd (cc)
    not_damaged came.Memory file at is = absurd (cc)

    not_queue : (a : Swept) → sweep_status a ≡ status.QueueFault → ⊥
    not_queue came.Ok is = absurd (cc)
    not_queue came.StoreFault is = absurd (cc)
    not_queue came.StoreDown is = absurd (cc)
    not_queue came.Spent is = absurd (cc)
    not_queue came.Down is = absurd (cc)
    not_queue came.Memory is = absurd (cc)

    is_spent : (a : Swept) → sweep_status a ≡ status.Spent → a ≡ came.Spent
    is_spent came.Ok is = absurd (cc)
    is_spent came.StoreFault is = absurd (cc)
    is_spent came.StoreDown is = absurd (cc)
    is_spent came.Spent is = refl
    is_spent came.Down is = absurd (cc)
    is_spent came.Memory is = absurd (cc)

    is_down_answer : (a : Swept) → sweep_status a ≡ status.StoreDown → a ≡ came.StoreDown
    is_down_answer came.Ok is = absurd (cc)
    is_down_answer came.StoreFault is = absurd (cc)
    is_down_answer came.StoreDown is = refl
    is_down_answer came.Spent is = absurd (cc)
    is_down_answer came.Down is = absurd (cc)
    is_down_answer came.Memory is = absurd (cc)

    is_fault : (a : Swept) → (sweep_status a ≡ status.StoreFault) ⊎ (sweep_status a ≡ status.StoreDown) → IsStoreFault a
    is_fault came.Ok (inl is) = absurd (cc)
    is_fault came.Ok (inr is) = absurd (cc)
    is_fault came.StoreFault is = tt
    is_fault came.StoreDown is = tt
    is_fault came.Spent (inl is) = absurd (cc)
    is_fault came.Spent (inr is) = absurd (cc)
    is_fault came.Down (inl is) = absurd (cc)
    is_fault came.Down (inr is) = absurd (cc)
    is_fault came.Memory (inl is) = absurd (cc)
    is_fault came.Memory (inr is) = absurd (cc)

    is_calm : (a : Swept) → (sweep_status a ≡ status.Memory) ⊎ (sweep_status a ≡ status.Spent) → IsCalm a
    is_calm came.Ok (inl is) = absurd (cc)
    is_calm came.Ok (inr is) = absurd (cc)
    is_calm came.StoreFault (inl is) = absurd (cc)
    is_calm came.StoreFault (inr is) = absurd (cc)
    is_calm came.StoreDown (inl is) = absurd (cc)
    is_calm came.StoreDown (inr is) = absurd (cc)
    is_calm came.Spent is = tt
    is_calm came.Down is = tt
    is_calm came.Memory is = tt

    bounded : IsWithin w.faults new.store (0, w.faults disks.store_a, w.faults disks.store_b)
    bounded = within (0, w.faults disks.store_a, w.faults disks.store_b) opens.start.within

    leaves_read : ForEachHistory w disks (SweepLeaves (sweep_status answer) w kinds m after)
    leaves_read told ttls history files = let on = opens.stands_for told ttls history files in leaves_so ttls history on.0 on.1 answer refl

    pub swept_run : IsSweepRun w kinds m disks after (sweep_status answer)
    swept_run = record {
      ends = ends_so answer;
      files = record {
        damaged = λ told file at is. absurd (not_damaged answer file at is);
        told = λ told file at damage. absurd (opens.undamaged told file at damage);
        never = λ told ttls history files file at is. not_damaged answer file at is;
        spent = λ told lacks. absurd (opens.roomy told lacks);
      };
      full = λ told is. inr (core, opens, full (is_spent answer is));
      roomy = λ no_spent no_memory.
          inr (core, opens, λ past. ⊎_elim (λ spent. no_spent (ap sweep_status spent)) (λ memory. no_memory (ap sweep_status memory)) (roomless opens.up.up past));
      any_moment = λ told ttls history all. (let on = opens.stands_for told ttls history (opens.read told ttls history all) in sweeps_within ttls history on.0 on.1 (opens.any_moment told ttls history all));
      each_moment = inr (core, opens, λ told ttls history files. (let on = opens.stands_for told ttls history files in sweeps_on ttls history on.0 on.1));
      leaves = λ told ttls history all. leaves_read told ttls history (opens.read told ttls history all);
      left = inr leaves_read;
      untouched = λ file at is. absurd (not_damaged answer file at is);
      queue_counts =
          let same_a = ap (λ (q : QueueLog D). w.faults (disk_a (queue_pair q))) queue in
          let same_b = ap (λ (q : QueueLog D). w.faults (disk_b (queue_pair q))) queue in
          let was = opens.queue_counts.calm (λ e. e) in
          record {
            later_a = omega (arith, same_a, was.0);
            later_b = omega (arith, same_b, was.1);
            cause = λ is. absurd (not_queue answer is);
            calm = λ none. (same_a ∙ was.0, same_b ∙ was.1);
          };
      store_cause = λ is.
          let up_by = cause.cause (is_fault answer is) in
          let zero = opens.start.faults in
          rose (faults_of new.store) (w.faults disks.store_a) (w.faults disks.store_b) (w.faults after.store_a) (w.faults after.store_b) (omega (arith, up_by, zero)) bounded.0;
      store_twice = λ is. bounded.1.2 (went (is_down_answer answer is));
      store_calm = λ why.
          subst (λ (k : LogKeeper D). PairCounts (w.faults disks.store_a) (w.faults (disk_a (pair_of k))) (w.faults disks.store_b) (w.faults (disk_b (pair_of k))) ⊥)
          (sym (stays (is_calm answer why)).store) opens.store_counts;
    }
