-- A command that is settled.
use Rattle.std.proofs.Common.{◌≡◌, ◌∙◌, ◌↔◌, inl, inr, ℕ, ◌≤◌, Bool, true, false, List, [], ◌∷◌, ◌++◌, Option, Some, None, Result, Ok, IsTrue, arith, sym, ap, subst}
use Rattle.std.specs.Option.{option_map}
use Rattle.command_decode.specs.fleet_rows.declared.change.Change.{Change}
use Rattle.command_decode.specs.fleet_rows.declared.command.Command.{Command}
use Rattle.command_decode.specs.fleet_rows.declared.refusal.Cause.TheVariants as cause
use Rattle.command_decode.specs.fleet_rows.declared.refusal.Refusal.{Refusal}
use Rattle.command_core.specs.record_spec.declared.queue.QueueRecord.{QueueRecord}
use Rattle.command_core.specs.record_spec.declared.queue.QueueRecord.TheVariants as queue
use Rattle.command_core.specs.record_spec.declared.store.StoreRecord.{StoreRecord}
use Rattle.command_core.specs.record_spec.declared.store.StoreRecord.TheVariants as store
use Rattle.command_core.specs.core_spec.declared.event.Event.TheVariants.{Apply, Fail, Discard}
use Rattle.command_core.specs.core_spec.Commands.{answer_of}
use Rattle.command_core.specs.core_spec.History.{History, command}
use Rattle.command_core.specs.core_spec.Stands.{change_part, queue_trace, store_trace}
use Rattle.command_core.specs.core_laws.Threads.{MomentsAreKept}
use Rattle.command_core.specs.queue_log.declared.queue.QueueLog.{QueueLog}
use Rattle.command_core.specs.queue_log.Queued.{queued, queue_down, queue_size}
use Rattle.command_core.specs.core_claims.declared.job.Job.{Job}
use Rattle.command_core.specs.core_state.declared.state.CoreState.{CoreState}
use Rattle.command_core.specs.core_state.Changes.{OpeningStays}
use Rattle.command_core.specs.core_state.Moments.{Within, StandsAmid}
use Rattle.command_core.specs.core_state.Puts.{QueueCounts, QueueRoseTwice}
use Rattle.command_core.specs.core_state.Seen.{IsSubmitted}
use Rattle.command_core.specs.core_state.StandsFor.{AreOfOneRecord, one, sixteenth, history_of}
use Rattle.command_core.proofs.of_core_state.Submissions.{submitted_command}
use Rattle.command_core.specs.core_settles.declared.answers.Settled.{Settled}
use Rattle.command_core.specs.core_settles.declared.answers.Settled.TheVariants as settled
use Rattle.command_core.specs.core_settles.declared.answers.Verdict.{Verdict}
use Rattle.command_core.specs.core_settles.declared.answers.Verdict.TheVariants as verdict
use Rattle.command_core.specs.core_settles.Settles.{IsVerdictOf, IsSettling, settled_events, SettleLeaves, queue_record, QueueWrites, StoreWrites, is_applied}
use Rattle.core_course.specs.Sight.{Sight, Stood, is_down}
use Rattle.core_course.specs.Courses.{DisksGo, SameOpening, LogsGrow, Passed}
use Rattle.core_course.specs.Work.{IsWork, KeepsMoments, Worked}
use Rattle.core_ends.proofs.Links.{core_up, written, queue_counts, work_course, went_twice}
use Rattle.core_ends.proofs.OneCalls.{settled_at_once}
use Rattle.core_ends.proofs.Records.{none_more, one_more}
use Rattle.command_core.specs.log_spec.Limits.{most_log}

-- ---- its events

pub settled_work : (came : Settled) (job : Job) (v : Verdict) (before now : ℕ) (undone down : Bool) → IsWork (settled_events came job v before now undone down)
settled_work settled.Applied job v before now undone down = tt
settled_work settled.Discarded job (verdict.Change change) before now undone down = tt
settled_work settled.Discarded job (verdict.Refused refusal) before now undone down = tt
settled_work (settled.Failed attempts) job v before now undone down = tt
settled_work settled.StoreDown job v before now undone down = tt
settled_work settled.QueueFault job v before now true down = tt
settled_work settled.QueueFault job v before now false true = tt
settled_work settled.QueueFault job v before now false false = tt
settled_work settled.NotClaimed job v before now undone down = tt
settled_work settled.Spent job v before now undone down = tt
settled_work settled.Down job v before now undone down = tt
settled_work (settled.Memory given u) job v before now undone down = tt

moment_kept : (c : Command) (r : ℕ) (was : History) → command r was ≡ Some c → MomentsAreKept was (Apply r (Some c.received) ∷ [])
moment_kept c r was is = (sym (ap (option_map (λ (x : Command). x.received)) is), tt)

settled_moments : (came : Settled) (job : Job) (v : Verdict) (before now : ℕ) (undone down : Bool) (was : History) → command job.receipt was ≡ Some job.command
    → MomentsAreKept was (settled_events came job v before now undone down)
settled_moments settled.Applied job v before now undone down was is = moment_kept job.command job.receipt was is
settled_moments settled.Discarded job (verdict.Change change) before now undone down was is = tt
settled_moments settled.Discarded job (verdict.Refused refusal) before now undone down was is = tt
settled_moments (settled.Failed attempts) job v before now undone down was is = tt
settled_moments settled.StoreDown job v before now undone down was is = tt
settled_moments settled.QueueFault job v before now true down was is = moment_kept job.command job.receipt was is
settled_moments settled.QueueFault job v before now false true was is = tt
settled_moments settled.QueueFault job v before now false false was is = tt
settled_moments settled.NotClaimed job v before now undone down was is = tt
settled_moments settled.Spent job v before now undone down was is = tt
settled_moments settled.Down job v before now undone down was is = tt
settled_moments (settled.Memory given u) job v before now undone down was is = tt

of_one : (job : Job) (v : Verdict) (before now : ℕ) (upto begun : History) → IsSettling job v before now upto begun → AreOfOneRecord begun × IsWork begun
of_one job (verdict.Change change) before now upto begun (inl is) = (one (Apply job.receipt (Some job.command.received)) tt is, subst IsWork (sym is) tt)
of_one job (verdict.Change change) before now upto begun (inr (inl is)) = (one (Fail job.receipt before now) tt is, subst IsWork (sym is) tt)
of_one job (verdict.Change change) before now upto begun (inr (inr is)) = (sixteenth job.receipt before now is, subst IsWork (sym is) tt)
of_one job (verdict.Refused refusal) before now upto begun is = (one (Discard job.receipt (cause.Refused refusal)) tt is, subst IsWork (sym is) tt)

-- ---- its records, where the core is up

abbrev up_events : Settled → Job → Verdict → ℕ → ℕ → History
up_events came job v before now = settled_events came job v before now false false

module _ {D : Type 0} (tells : Bool) (seen : D → List ℕ) (job : Job) (before now : ℕ) (old new : QueueLog D) (up : queue_down new ≡ false) (told : IsTrue tells) (records : List QueueRecord)
    (is : queued seen old ≡ Some records) where
  abbrev Grown : Settled → Verdict → Type 0
  Grown came v = queued seen new ≡ Some (records ++ queue_trace (up_events came job v before now))

  same_queue : (queue_down new ≡ false → IsTrue tells → queued seen new ≡ queued seen old) → queued seen new ≡ Some (records ++ [])
  same_queue h = none_more (queued seen old) (queued seen new) records (h up told) is

  queue_grows : (came : Settled) (v : Verdict) → QueueWrites tells seen (queue_record came job v before now) old new → Grown came v
  queue_grows settled.Applied v h = one_more (queued seen old) (queued seen new) (queue.Done job.receipt) records (h.1 told) is
  queue_grows settled.Discarded (verdict.Change change) h = one_more (queued seen old) (queued seen new) (queue.Fail job.receipt before now) records (h.1 told) is
  queue_grows settled.Discarded (verdict.Refused refusal) h = one_more (queued seen old) (queued seen new) (queue.Refused job.receipt refusal) records (h.1 told) is
  queue_grows (settled.Failed attempts) v h = one_more (queued seen old) (queued seen new) (queue.Fail job.receipt before now) records (h.1 told) is
  queue_grows settled.StoreDown v h = same_queue h.1
  queue_grows settled.QueueFault v h = same_queue h.1
  queue_grows settled.NotClaimed v h = same_queue h.1
  queue_grows settled.Spent v h = same_queue h.1
  queue_grows settled.Down v h = same_queue h.1
  queue_grows (settled.Memory given u) v h = same_queue h.1

module _ {K : Type 0} (tells : Bool) (kept : K → Option (List StoreRecord)) (down : K → Bool) (size : K → ℕ) (job : Job) (before now : ℕ) (old new : K) (up : down new ≡ false) (told : IsTrue tells)
    (records : List StoreRecord) (is : kept old ≡ Some records) (was : History) (command_is : command job.receipt was ≡ Some job.command) where
  abbrev Kept : Settled → Verdict → Type 0
  Kept came v = kept new ≡ Some (records ++ store_trace was (up_events came job v before now))

  same_store : (down new ≡ false → IsTrue tells → kept new ≡ kept old) → kept new ≡ Some (records ++ [])
  same_store h = none_more (kept old) (kept new) records (h up told) is

  part_is : (change : Change) → answer_of job.command ≡ Ok change → store.Received job.receipt (Some job.command.received) change ∷ [] ≡ store_trace was (Apply job.receipt (Some job.command.received) ∷ [])
  part_is change decodes =
      sym (ap (change_part job.receipt (Some job.command.received)) (ap (option_map answer_of) command_is ∙ ap (λ (b : Result Change Refusal). Some b) decodes))

  store_grows : (came : Settled) (v : Verdict) → IsVerdictOf v job.command → StoreWrites tells kept down size (is_applied came false) job v old new → Kept came v
  store_grows settled.Applied (verdict.Change change) decodes h =
      one_more (kept old) (kept new) (store.Received job.receipt (Some job.command.received) change) records (h.1 told) is
      ∙ ap (λ (xs : List StoreRecord). Some (records ++ xs)) (part_is change decodes)
  store_grows settled.Applied (verdict.Refused refusal) decodes h = absurd h
  store_grows settled.Discarded (verdict.Change change) decodes h = same_store h.1
  store_grows settled.Discarded (verdict.Refused refusal) decodes h = same_store h.1
  store_grows (settled.Failed attempts) v decodes h = same_store h.1
  store_grows settled.StoreDown v decodes h = same_store h.1
  store_grows settled.QueueFault v decodes h = same_store h.1
  store_grows settled.NotClaimed v decodes h = same_store h.1
  store_grows settled.Spent v decodes h = same_store h.1
  store_grows settled.Down v decodes h = same_store h.1
  store_grows (settled.Memory given u) v decodes h = same_store h.1

-- ---- its sizes

queue_short : {D : Type 0} (tells : Bool) (seen : D → List ℕ) (rec : Option QueueRecord) (old new : QueueLog D) → QueueWrites tells seen rec old new → queue_size old ≤ most_log → queue_size new ≤ most_log
queue_short tells seen (Some rec) old new h short = h.2
queue_short tells seen None old new h short = let same = h.0 in omega (arith, same, short)

store_short : {K : Type 0} (tells : Bool) (kept : K → Option (List StoreRecord)) (down : K → Bool) (size : K → ℕ) (stored : Bool) (job : Job) (v : Verdict) (old new : K)
    → StoreWrites tells kept down size stored job v old new → size old ≤ most_log → size new ≤ most_log
store_short tells kept down size true job (verdict.Change change) old new h short = h.2
store_short tells kept down size true job (verdict.Refused refusal) old new h short = absurd h
store_short tells kept down size false job v old new h short = let same = h.0 in omega (arith, same, short)

-- ---- the call

module _ {D K : Type 0} (w : Sight D K) where
  -- the clauses of a settle that matter to a stretch
  pub record SettleSays (came : Settled) (job : Job) (v : Verdict) (old new : CoreState D K) : Type 0 where
    pub adds : new.events.list ≡ settled_events came job v (w.store_faults old.store) (w.store_faults new.store) new.undone (is_down w new) ++ old.events.list
    pub queue_writes : QueueWrites w.tells w.seen (queue_record came job v (w.store_faults old.store) (w.store_faults new.store)) old.queue new.queue
    pub store_writes : StoreWrites w.store_tells w.kept w.store_down w.store_size (is_applied came new.undone) job v old.store new.store
    pub stands : (start : History) → Stood w old start → Stood w new start
    pub any_moment : (start : History) → Stood w old start → is_down w old ≡ false
        → Within w.may_leave w.moment w.left_since w.images w.store_moment w.images_since old new
        (StandsAmid old.tables.ttls (IsSettling job v (w.store_faults old.store) (w.store_faults new.store)) (history_of old start) (history_of new start))
    pub kept_submitted : (r : ℕ) (c : Command) → IsSubmitted r c old → IsSubmitted r c new
    pub opening : OpeningStays old new
    pub same_opening : w.store_opened new.store ≡ w.store_opened old.store
    pub bounds : (since : ℕ × ℕ × ℕ) → w.store_within old.store since → w.store_within new.store since
    pub down : (came ≡ settled.Down) ↔ (is_down w old ≡ true)
    pub leaves : SettleLeaves w.store_size came job v old new
    pub cause : QueueCounts w.faults old.queue new.queue (came ≡ settled.QueueFault)
    pub twice : is_down w old ≡ false → queue_down new.queue ≡ true → QueueRoseTwice w.faults old.queue new.queue
    pub store_later : w.store_faults old.store ≤ w.store_faults new.store

  module _ (came : Settled) (job : Job) (v : Verdict) (old new : CoreState D K) (submitted : IsSubmitted job.receipt job.command old) (decodes : IsVerdictOf v job.command)
      (says : SettleSays came job v old new) where
    abbrev before : ℕ
    before = w.store_faults old.store

    abbrev now : ℕ
    now = w.store_faults new.store

    -- the events that it adds
    abbrev pub settle_events : History
    settle_events = settled_events came job v before now new.undone (is_down w new)

    pub settle_command : (start : History) → Stood w old start → command job.receipt (history_of old start) ≡ Some job.command
    settle_command start stood =
        submitted_command job.receipt job.command old.tables.ttls old.found.queue.value old.found.store.value old.events.list start stood.holds.found stood.holds.says.plain.legal submitted

    opening_is : SameOpening w old new
    opening_is = record {
      found = says.opening.found;
      opened_a = says.opening.opened_a;
      opened_b = says.opening.opened_b;
      lifetimes = says.opening.lifetimes;
      store_opened = says.same_opening;
      store_within = says.bounds;
    }

    unchanged : is_down w old ≡ true → new ≡ old
    unchanged down = subst (λ (x : Settled). SettleLeaves w.store_size x job v old new) (says.down.1 down) says.leaves

    still_down : is_down w old ≡ true → is_down w new ≡ true
    still_down down = ap (is_down w) (unchanged down) ∙ down

    up_logs : is_down w new ≡ false → LogsGrow w (up_events came job v before now) old new
    up_logs up =
        let parts = core_up w new up in
        record {
          queue = λ told records is. queue_grows w.tells w.seen job before now old.queue new.queue parts.queue told records is came v says.queue_writes;
          store = λ start stood told records is.
              store_grows w.store_tells w.kept w.store_down w.store_size job before now old.store new.store parts.store told records is (history_of old start) (settle_command start stood) came v decodes
              (subst (λ (b : Bool). StoreWrites w.store_tells w.kept w.store_down w.store_size (is_applied came b) job v old.store new.store) parts.done says.store_writes);
        }

    pub events_up : is_down w new ≡ false → up_events came job v before now ≡ settle_events
    events_up up =
        ap (λ (b : Bool). settled_events came job v before now b false) (sym (core_up w new up).done)
        ∙ ap (settled_events came job v before now new.undone) (sym up)

    pub settle_passes : Passed w settle_events old new
    settle_passes = record {
      events = says.adds;
      stands = says.stands;
      submitted = says.kept_submitted;
      opening = opening_is;
      counts = queue_counts w (came ≡ settled.QueueFault) old new says.cause says.store_later;
      stays_down = still_down;
      queue_twice = went_twice w old new unchanged says.twice;
      queue_fits = queue_short w.tells w.seen (queue_record came job v before now) old.queue new.queue says.queue_writes;
      store_fits = store_short w.store_tells w.kept w.store_down w.store_size (is_applied came new.undone) job v old.store new.store says.store_writes;
      logs = λ up. subst (λ (more : History). LogsGrow w more old new) (events_up up) (up_logs up);
    }

    settle_disks : DisksGo w IsWork old new
    settle_disks = written w (λ start. IsSettling job v before now) IsWork old new (λ start. of_one job v before now) unchanged says.any_moment

    settle_moments : KeepsMoments w settle_events old
    settle_moments start stood = settled_moments came job v before now new.undone (is_down w new) (history_of old start) (settle_command start stood)

    pub settle_works : Worked w old new
    settle_works = record {
      more = settle_events;
      only = settled_work came job v before now new.undone (is_down w new);
      passed = settle_passes;
      moments = settle_moments;
      course = work_course w settle_events old new (settled_at_once came job v before now new.undone (is_down w new)) settle_passes settle_disks;
    }
