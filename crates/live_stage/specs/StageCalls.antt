-- The calls of threads at a stage: what each appends, and what it does at the core.
use Rattle.std.specs.Prelude.{◌≡◌, ℕ, ℤ, false, List, [], ◌∷◌, ◌++◌, Option, Some, None, Result, IfSome, OnOk, length, drop}
use mathlib.Core.List.{IsPrefix}
use Rattle.turn_lock.specs.Holds.{total}
use Rattle.turn_lock.specs.Seen.{PassView}
use Rattle.lock_calls.specs.Calls.{KnowsCalls, OneCall}
use Rattle.fleet_rows.specs.declared.submitted.Submitted.{Submitted}
use Rattle.fleet_rows.specs.declared.submitted.Submitted.TheVariants as submitted
use Rattle.core_ends.specs.fleet_rows.declared.command.Command.{Command}
use Rattle.core_ends.specs.fleet_rows.declared.settings.Kinds.{Kinds}
use Rattle.core_ends.specs.core_spec.declared.event.Event.TheVariants.{Submit, Sweep}
use Rattle.core_ends.specs.core_spec.History.{History}
use Rattle.core_ends.specs.core_state.declared.state.CoreState.{CoreState}
use Rattle.core_ends.specs.core_state.Seen.{IsFit}
use Rattle.core_ends.specs.core_claims.declared.answers.Claimed.{Claimed}
use Rattle.core_ends.specs.core_claims.declared.answers.Claimed.TheVariants as claimed
use Rattle.core_ends.specs.core_claims.declared.job.Job.{Job}
use Rattle.core_ends.specs.core_settles.declared.answers.Settled.{Settled}
use Rattle.core_ends.specs.core_settles.declared.answers.Verdict.{Verdict}
use Rattle.core_ends.specs.core_sweeps.declared.answers.Swept.{Swept}
use Rattle.core_ends.specs.core_sweeps.declared.answers.Swept.TheVariants as swept
use Rattle.core_ends.specs.core_course.Sight.{Sight}
use Rattle.core_ends.specs.core_course.Work.{IsWork}
use Rattle.hub_calls.specs.declared.entry.Entry.TheVariants.{Happened}
use Rattle.hub_work.specs.Ends.{claimed_job, returned_job}
use Rattle.hub_calls.specs.Calls.{SubmitDoes, ClaimDoes, ReleaseDoes, SettleDoes, SweepDoes}
use Rattle.hub_calls.specs.Entries.{WasSubmitted}
use Rattle.hub_calls.specs.Follows.{Follows}
use Rattle.live_stage.specs.declared.note.Staged.{Staged}
use Rattle.live_stage.specs.declared.note.Staged.TheVariants.{Core, Noted}
use Rattle.live_stage.specs.declared.note.Refused.{Refused}
use Rattle.live_stage.specs.declared.note.Refused.TheVariants.{QueueFault, QueueDown, StoreFault, StoreDown, CoreDown}
use Rattle.live_stage.specs.Notes.{StageView, list_of, happened, core_entries}
use Rattle.live_stage.specs.Trace.{SnapshotView, live_of}
use Rattle.live_stage.specs.Causes.{AreNoted}

-- A call with its answer. A look, a submit and a sweep have the length of the live trace when the hold ended; work has the events
-- that it added, newest first.
pub data StageCall : Type 0 where
  looked : ℕ → StageCall
  was_submitted : Command → Submitted → ℕ → StageCall
  was_swept : Kinds → ℤ → Swept → ℕ → StageCall
  was_claimed : Claimed → History → StageCall
  was_settled : Job → Verdict → Settled → History → StageCall
  was_released : Job → History → StageCall

-- why a refused command or sweep is noted, if it is
abbrev pub submit_note : Submitted → Command → Option (Refused Command)
submit_note (submitted.Receipt r) c = None
submit_note submitted.Full c = None
submit_note submitted.QueueFault c = Some (QueueFault c)
submit_note submitted.Spent c = None
submit_note submitted.Down c = Some QueueDown
submit_note submitted.Memory c = None

abbrev pub sweep_note : Swept → Kinds → ℤ → Option (Refused Command)
sweep_note swept.Ok kinds m = None
sweep_note swept.StoreFault kinds m = Some StoreFault
sweep_note swept.StoreDown kinds m = Some (StoreDown kinds m)
sweep_note swept.Spent kinds m = None
sweep_note swept.Down kinds m = Some CoreDown
sweep_note swept.Memory kinds m = None

module _ {D K : Type 0} where
  abbrev pub note_entry : Option (Refused Command) → List (Staged D K)
  note_entry None = []
  note_entry (Some what) = Noted what ∷ []

  -- a command with a receipt is an event of the core
  abbrev pub submit_adds : Submitted → Command → List (Staged D K)
  submit_adds (submitted.Receipt r) c = Core (Happened (Submit r c)) ∷ []
  submit_adds came c = note_entry (submit_note came c)

  abbrev pub sweep_adds : Swept → Kinds → ℤ → List (Staged D K)
  sweep_adds swept.Ok kinds m = Core (Happened (Sweep kinds m)) ∷ []
  sweep_adds came kinds m = note_entry (sweep_note came kinds m)

  -- what the call appends
  abbrev pub added : StageCall → List (Staged D K)
  added (looked n) = []
  added (was_submitted c came n) = submit_adds came c
  added (was_swept kinds m came n) = sweep_adds came kinds m
  added (was_claimed came events) = happened events
  added (was_settled job v came events) = happened events
  added (was_released job events) = happened events

-- One call of a worker, from the job at hand to the job at hand after it. Without a job it claims. With a job it settles that job or
-- queues it again; a settle without memory hands the job back.
abbrev pub IsTurn : Option Job → StageCall → Option Job → Type 0
IsTurn None (was_claimed came events) hand = IsWork events × (hand ≡ claimed_job came)
IsTurn (Some job) (was_settled settled v came events) hand = (settled ≡ job) × IsWork events × (hand ≡ returned_job came)
IsTurn (Some job) (was_released released events) hand = (released ≡ job) × IsWork events × (hand ≡ None)
IsTurn _ _ hand = ⊥

abbrev pub AreTurns : Option Job → List StageCall → Option Job → Type 0
AreTurns held [] hand = hand ≡ held
AreTurns held (call ∷ calls) hand = (next : Option Job) × IsTurn held call next × AreTurns next calls hand

module _ {D K : Type 0} (w : Sight D K) (generation : K → ℕ) where
  -- The call led from a stage with the list found to one with what was appended. Earlier calls led to the core found, and each note
  -- has its cause.
  pub record Leads (Did : CoreState D K → CoreState D K → Type 0) (adds found : List (Staged D K)) : Type 0 where
    pub before : StageView D K
    pub after : StageView D K
    pub found_is : found ≡ list_of before
    pub left_is : found ++ adds ≡ list_of after
    pub start : after.start ≡ before.start
    pub follows : Follows w false before.start before.core
    pub did : Did before.core after.core
    pub causes : AreNoted w after

  -- what the call did at the core
  abbrev pub DoesAtCore : StageCall → CoreState D K → CoreState D K → Type 0
  DoesAtCore (looked n) old new = (new ≡ old) × (n ≡ live_of new)
  DoesAtCore (was_submitted c came n) old new = SubmitDoes w came c old new × (n ≡ live_of new)
  DoesAtCore (was_swept kinds m came n) old new = SweepDoes w generation came kinds m old new × (n ≡ live_of new)
  DoesAtCore (was_claimed came events) old new = ClaimDoes w came old new × (new.events.list ≡ events ++ old.events.list) × IsWork events
  DoesAtCore (was_settled job v came events) old new = SettleDoes w generation came job v old new × (new.events.list ≡ events ++ old.events.list) × IsWork events
  DoesAtCore (was_released job events) old new = ReleaseDoes w job old new × (new.events.list ≡ events ++ old.events.list) × IsWork events

  abbrev pub StageDoes : StageCall → List (Staged D K) → Type 0
  StageDoes call found = Leads (DoesAtCore call) (added call) found

  -- one hold with this call
  abbrev pub OneStageCall : StageCall → PassView (Staged D K) → PassView (Staged D K) → Type 0
  OneStageCall call before after = OneCall added StageDoes call before after

  abbrev pub KnowsStageCalls : PassView (Staged D K) → List StageCall → Type 0
  KnowsStageCalls pass calls = KnowsCalls added StageDoes pass calls

  -- One hold with a look. It answers the length of the live trace, which the tables that are then kept have; without memory none
  -- is told.
  abbrev pub OneLook : {A B : Type 0} → Option SnapshotView → Result A B → PassView (Staged D K) → PassView (Staged D K) → Type 0
  OneLook kept answer before after = (n : ℕ) × OneStageCall (looked n) before after × OnOk answer (IfSome kept (λ s. s.seen ≡ n))

  -- one hold with a call that is work
  abbrev pub OneClaim : Claimed → PassView (Staged D K) → PassView (Staged D K) → Type 0
  OneClaim came before after = (events : History) × IsWork events × OneStageCall (was_claimed came events) before after

  abbrev pub OneSettle : Job → Verdict → Settled → PassView (Staged D K) → PassView (Staged D K) → Type 0
  OneSettle job v came before after = (events : History) × IsWork events × OneStageCall (was_settled job v came events) before after

  abbrev pub OneRelease : Job → PassView (Staged D K) → PassView (Staged D K) → Type 0
  OneRelease job before after = (events : History) × IsWork events × OneStageCall (was_released job events) before after

  -- The pass goes on by turns of a worker, from the job at hand to the job at hand after them.
  abbrev pub WorksOn : Option Job → PassView (Staged D K) → Option Job → PassView (Staged D K) → Type 0
  WorksOn held before hand after =
      (calls : List StageCall) → KnowsStageCalls before calls → (more : List StageCall) × AreTurns held more hand × KnowsStageCalls after (calls ++ more)

-- a core as it comes under the lock
abbrev pub fresh : {D K : Type 0} → CoreState D K → StageView D K
fresh core = record { start = core; core = core; notes = [] }

-- The calls of all passes led from the core that came under the lock to the closed one, and each note has its cause. Each entry since
-- then is of one call of the pass that has all holds.
pub record ClosedFrom {D K : Type 0} (w : Sight D K) (generation : K → ℕ) (start : CoreState D K) (pass : PassView (Staged D K)) (closed : CoreState D K) : Type 0 where
  pub stage : StageView D K
  pub start_is : stage.start ≡ start
  pub core_is : stage.core ≡ closed
  pub follows : Follows w false start closed
  pub causes : AreNoted w stage
  pub begins : IsPrefix (list_of (fresh start)) (list_of stage)
  pub seen : IsPrefix pass.seen (list_of stage)
  pub calls : (calls : List StageCall) → KnowsStageCalls w generation pass calls
      → (weight : Staged D K → ℕ) → total (λ call. total weight (added call)) calls ≡ total weight (drop (length (list_of (fresh start))) (list_of stage))

-- the same of whichever core the lock was opened with
abbrev pub ClosesFrom : {D K : Type 0} → Sight D K → (K → ℕ) → List (Staged D K) → PassView (Staged D K) → CoreState D K → Type 0
ClosesFrom {D} {K} w generation opening pass closed = (start : CoreState D K) → opening ≡ list_of (fresh start) → ClosedFrom w generation start pass closed

-- the events that were added, as entries behind the list
pub record AddsWork {D K : Type 0} (old new : StageView D K) : Type 0 where
  pub events : History
  pub only : IsWork events
  pub events_are : new.core.events.list ≡ events ++ old.core.events.list
  pub list : list_of new ≡ list_of old ++ happened events

-- a claimed job can be settled: what was seen shows that it was submitted
abbrev pub HasStageJob : {D K : Type 0} → Claimed → List (Staged D K) → Type 0
HasStageJob (claimed.Job job) seen = WasSubmitted job.receipt job.command (core_entries seen) × IsFit job.command
HasStageJob _ seen = Unit {0}
