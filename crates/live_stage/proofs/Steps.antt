-- Each call of a core, as a call of its stage.
use Rattle.std.proofs.Common.{◌≡◌, ◌∙◌, inl, inr, ℕ, ◌+◌, ◌≤◌, ◌%◌, ◌^◌, ◌<◌, Bool, true, false, ℤ, List, [], ◌∷◌, ◌++◌, length, refl, sym, ap, subst, arith, length-append}
use Rattle.core_ends.specs.fleet_rows.declared.command.Command.{Command}
use Rattle.core_ends.specs.fleet_rows.declared.settings.Kinds.{Kinds}
use Rattle.fleet_rows.specs.declared.submitted.Submitted.{Submitted}
use Rattle.fleet_rows.specs.declared.submitted.Submitted.TheVariants as submitted
use Rattle.core_ends.specs.core_spec.declared.event.Event.TheVariants.{Submit, Sweep}
use Rattle.core_ends.specs.core_spec.History.{History}
use Rattle.core_ends.specs.core_machine.Claims.{is_claimed}
use Rattle.core_ends.specs.core_state.declared.state.CoreState.{CoreState}
use Rattle.core_ends.specs.core_submits.Submits.{SubmitAdds}
use Rattle.core_ends.specs.core_claims.declared.answers.Claimed.{Claimed}
use Rattle.core_ends.specs.core_claims.declared.answers.Claimed.TheVariants as claimed
use Rattle.core_ends.specs.core_claims.declared.job.Job.{Job}
use Rattle.core_ends.specs.core_settles.declared.answers.Settled.{Settled}
use Rattle.core_ends.specs.core_settles.declared.answers.Settled.TheVariants as settled
use Rattle.core_ends.specs.core_settles.declared.answers.Verdict.{Verdict}
use Rattle.core_ends.specs.core_settles.declared.answers.Verdict.TheVariants as verdict
use Rattle.core_ends.specs.core_settles.Settles.{settled_events}
use Rattle.core_ends.specs.core_sweeps.declared.answers.Swept.{Swept}
use Rattle.core_ends.specs.core_sweeps.declared.answers.Swept.TheVariants as swept
use Rattle.core_ends.specs.core_sweeps.Sweeps.{SweepAdds}
use Rattle.core_ends.specs.core_course.Sight.{Sight, is_down}
use Rattle.hub_calls.specs.declared.entry.Entry.{Entry}
use Rattle.hub_calls.specs.Calls.{SubmitDoes, ReleaseDoes, SweepDoes}
use Rattle.hub_calls.specs.Entries.{entries, WasSubmitted}
use Rattle.hub_calls.specs.Seen.{HasJob}
use Rattle.hub_calls.specs.Follows.{Follows}
use Rattle.live_stage.specs.declared.note.Staged.{Staged}
use Rattle.live_stage.specs.Notes.{NoteView, StageView, with_note, notes_in, with_notes, happened, core_entries, list_of, IsWithin}
use Rattle.live_stage.specs.Trace.{applied_count, sweep_count, swept_number, applied_then}
use Rattle.live_stage.specs.Causes.{IsCounted}
use Rattle.live_stage.specs.StageCalls.{submit_note, sweep_note, submit_adds, sweep_adds, AddsWork, HasStageJob}
use Rattle.hub_calls.proofs.Steps.{submit_follows, sweep_follows, follows_on}
use Rattle.live_stage.proofs.Lists.{events_listed, note_listed, within_later, noted_within, noted_length}
use Rattle.live_stage.proofs.Counts.{word_more, word_same, no_sweeps, submits_apply_none, submits_sweep_none, sweeps_apply_none, sweeps_counted}
use Rattle.live_stage.proofs.Caused.{all_still_noted, noted_more, submit_cause, sweep_cause}

module _ {D K : Type 0} (start : CoreState D K) (notes : List NoteView) (old new : History) (within : IsWithin notes (length old)) where
  -- what a submit appends to the list
  pub submit_listed : (came : Submitted) (c : Command) (last : ℕ) → SubmitAdds came c last old new
      → with_notes (with_note (length old) (submit_note came c) notes) (entries start new) ≡ with_notes notes (entries start old) ++ submit_adds came c
  submit_listed (submitted.Receipt r) c last is = events_listed start notes (Submit r c ∷ []) old new is.1 within
  submit_listed submitted.Full c last is = note_listed start notes (submit_note submitted.Full c) old new is
  submit_listed submitted.QueueFault c last is = note_listed start notes (submit_note submitted.QueueFault c) old new is
  submit_listed submitted.Spent c last is = note_listed start notes (submit_note submitted.Spent c) old new is
  submit_listed submitted.Down c last is = note_listed start notes (submit_note submitted.Down c) old new is
  submit_listed submitted.Memory c last is = note_listed start notes (submit_note submitted.Memory c) old new is

  -- what a sweep appends to the list
  pub sweep_listed : (came : Swept) (kinds : Kinds) (m : ℤ) → SweepAdds came kinds m old new
      → with_notes (with_note (length old) (sweep_note came kinds m) notes) (entries start new) ≡ with_notes notes (entries start old) ++ sweep_adds came kinds m
  sweep_listed swept.Ok kinds m is = events_listed start notes (Sweep kinds m ∷ []) old new is within
  sweep_listed swept.StoreFault kinds m is = note_listed start notes (sweep_note swept.StoreFault kinds m) old new is
  sweep_listed swept.StoreDown kinds m is = note_listed start notes (sweep_note swept.StoreDown kinds m) old new is
  sweep_listed swept.Spent kinds m is = note_listed start notes (sweep_note swept.Spent kinds m) old new is
  sweep_listed swept.Down kinds m is = note_listed start notes (sweep_note swept.Down kinds m) old new is
  sweep_listed swept.Memory kinds m is = note_listed start notes (sweep_note swept.Memory kinds m) old new is

-- the calls so far, and one more
pub follows_more : {D K : Type 0} (w : Sight D K) (start later old new : CoreState D K) → later ≡ start → Follows w false start old → Follows w false old new → Follows w false later new
follows_more {D} {K} w start later old new same before step = subst (λ (core : CoreState D K). Follows w false core new) (sym same) (follows_on w false start old new before step)

-- more events than before
pub longer : (more old new : History) → new ≡ more ++ old → length old ≤ length new
longer more old new is = let e : length new ≡ length more + length old = ap (λ (es : History). length es) is ∙ length-append more old in omega arith

-- ---- the calls, at a stage

module _ {D K : Type 0} (w : Sight D K) (start later old new : CoreState D K) (same : later ≡ start) (notes now : List NoteView) (noted sweeps applied : ℕ) where
  abbrev found : StageView D K
  found = record { start = start; core = old; notes = notes }

  abbrev left : StageView D K
  left = record { start = later; core = new; notes = now }

  -- the stage left, by the start and the notes that it has
  at_left : (N S A : ℕ) (is : List NoteView) → now ≡ is → IsCounted w N S A (record { start = start; core = new; notes = is }) → IsCounted w N S A left
  at_left N S A is now_is k =
      subst (λ (s : CoreState D K). IsCounted w N S A (record { start = s; core = new; notes = now })) (sym same)
      (subst (λ (l : List NoteView). IsCounted w N S A (record { start = start; core = new; notes = l })) (sym now_is) k)

  list_left : (is : List NoteView) (list : List (Staged D K)) → now ≡ is → list_of {D = D} {K = K} (record { start = start; core = new; notes = is }) ≡ list → list_of left ≡ list
  list_left is list now_is listed = (λ i. list_of {D = D} {K = K} (record { start = same i; core = new; notes = now_is i })) ∙ listed

  module _ (k : IsCounted w noted sweeps applied found) (follows : Follows w false start old) where
    module _ (came : Submitted) (c : Command) (d : SubmitDoes w came c old new) (now_is : now ≡ with_note (length old.events.list) (submit_note came c) notes) where
      pub submit_keeps : IsCounted w ((noted + notes_in (submit_note came c)) % 2 ^ 64) sweeps applied left
      submit_keeps =
          let step = submit_follows w old new came c d in
          let le = longer step.more old.events.list new.events.list step.passed.events in
          let note = submit_note came c in
          at_left ((noted + notes_in note) % 2 ^ 64) sweeps applied (with_note (length old.events.list) note notes) now_is (
            word_more noted (length notes) (length (with_note (length old.events.list) note notes)) (notes_in note) k.0 (noted_length (length old.events.list) note notes),
            word_same sweeps (sweep_count old.events.list) (sweep_count new.events.list) k.1 (submits_sweep_none came c old.last old.events.list new.events.list d.adds),
            word_same applied (applied_count old.events.list) (applied_count new.events.list) k.2 (submits_apply_none came c old.last old.events.list new.events.list d.adds),
            noted_within (length old.events.list) note notes (length new.events.list) le (within_later notes (length old.events.list) (length new.events.list) le k.3),
            noted_more w start new (length old.events.list) note notes (submit_cause w follows.more start old new follows.passed came c d) (all_still_noted w step.more start old new step.passed notes k.4),
          )

      pub submit_lists : list_of left ≡ list_of found ++ submit_adds came c
      submit_lists =
          list_left (with_note (length old.events.list) (submit_note came c) notes) (list_of found ++ submit_adds came c) now_is
          (submit_listed start notes old.events.list new.events.list k.3 came c old.last d.adds)

    module _ (generation : K → ℕ) (came : Swept) (kinds : Kinds) (m : ℤ) (d : SweepDoes w generation came kinds m old new) (now_is : now ≡ with_note (length old.events.list) (sweep_note came kinds m) notes) where
      pub sweep_keeps : IsCounted w ((noted + notes_in (sweep_note came kinds m)) % 2 ^ 64) ((sweeps + swept_number came) % 2 ^ 64) applied left
      sweep_keeps =
          let step = sweep_follows w old new generation came kinds m d in
          let le = longer step.more old.events.list new.events.list step.passed.events in
          let note = sweep_note came kinds m in
          at_left ((noted + notes_in note) % 2 ^ 64) ((sweeps + swept_number came) % 2 ^ 64) applied (with_note (length old.events.list) note notes) now_is (
            word_more noted (length notes) (length (with_note (length old.events.list) note notes)) (notes_in note) k.0 (noted_length (length old.events.list) note notes),
            word_more sweeps (sweep_count old.events.list) (sweep_count new.events.list) (swept_number came) k.1 (sweeps_counted came kinds m old.events.list new.events.list d.adds),
            word_same applied (applied_count old.events.list) (applied_count new.events.list) k.2 (sweeps_apply_none came kinds m old.events.list new.events.list d.adds),
            noted_within (length old.events.list) note notes (length new.events.list) le (within_later notes (length old.events.list) (length new.events.list) le k.3),
            noted_more w start new (length old.events.list) note notes (sweep_cause w follows.more start old new follows.passed generation came kinds m d) (all_still_noted w step.more start old new step.passed notes k.4),
          )

      pub sweep_lists : list_of left ≡ list_of found ++ sweep_adds came kinds m
      sweep_lists =
          list_left (with_note (length old.events.list) (sweep_note came kinds m) notes) (list_of found ++ sweep_adds came kinds m) now_is
          (sweep_listed start notes old.events.list new.events.list k.3 came kinds m d.adds)

  module _ (k : IsCounted w noted sweeps applied found) (works : Follows w true old new) (now_is : now ≡ notes) where
    pub work_keeps : (word : ℕ) → word ≡ applied_count new.events.list % 2 ^ 64 → IsCounted w noted sweeps word left
    work_keeps word word_is =
        at_left noted sweeps word notes now_is (
          k.0,
          word_same sweeps (sweep_count old.events.list) (sweep_count new.events.list) k.1
              (ap (λ (es : History). sweep_count es) works.passed.events ∙ no_sweeps works.more old.events.list (works.works refl)),
          word_is,
          within_later notes (length old.events.list) (length new.events.list) (longer works.more old.events.list new.events.list works.passed.events) k.3,
          all_still_noted w works.more start old new works.passed notes k.4,
        )

    pub adds_work : AddsWork found left
    adds_work = record {
      events = works.more;
      only = works.works refl;
      events_are = works.passed.events;
      list = list_left notes (list_of found ++ happened works.more) now_is (events_listed start notes works.more old.events.list new.events.list works.passed.events k.3);
    }

-- ---- counts

module _ {D K : Type 0} (w : Sight D K) (old new : CoreState D K) where
  released : (down claimed : Bool) (job : Job) → is_down w old ≡ down → is_claimed job.receipt old.pending ≡ claimed → ReleaseDoes w job old new → applied_count new.events.list ≡ applied_count old.events.list
  released true claimed job down is d = ap (λ (core : CoreState D K). applied_count core.events.list) (d.unchanged (inl down))
  released false true job down is d = ap (λ (es : History). applied_count es) (d.released down is)
  released false false job down is d = ap (λ (core : CoreState D K). applied_count core.events.list) (d.unchanged (inr is))

  pub releases_apply_none : (job : Job) → ReleaseDoes w job old new → applied_count new.events.list ≡ applied_count old.events.list
  releases_apply_none job d = released (is_down w old) (is_claimed job.receipt old.pending) job refl refl d

-- the number of applied commands after a settle, as a word
settle_counts : (came : Settled) (job : Job) (v : Verdict) (before now : ℕ) (undone down : Bool) (old : History) (word result : ℕ) → word ≡ applied_count old % 2 ^ 64
    → result ≡ applied_then came word (settled_events came job v before now undone down ++ old) → result < 2 ^ 64
    → result ≡ applied_count (settled_events came job v before now undone down ++ old) % 2 ^ 64
settle_counts settled.Applied job v before now undone down old word result is said few = omega arith
settle_counts settled.Discarded job (verdict.Change change) before now undone down old word result is said few = said ∙ is
settle_counts settled.Discarded job (verdict.Refused refusal) before now undone down old word result is said few = said ∙ is
settle_counts (settled.Failed attempts) job v before now undone down old word result is said few = said ∙ is
settle_counts settled.StoreDown job v before now undone down old word result is said few = said ∙ is
settle_counts settled.QueueFault job v before now true down old word result is said few = omega arith
settle_counts settled.QueueFault job v before now false true old word result is said few = omega arith
settle_counts settled.QueueFault job v before now false false old word result is said few = omega arith
settle_counts settled.NotClaimed job v before now undone down old word result is said few = said ∙ is
settle_counts settled.Spent job v before now undone down old word result is said few = said ∙ is
settle_counts settled.Down job v before now undone down old word result is said few = said ∙ is
settle_counts (settled.Memory given u) job v before now undone down old word result is said few = said ∙ is

pub settles_counted : (came : Settled) (job : Job) (v : Verdict) (before now : ℕ) (undone down : Bool) (old new : History) (word result : ℕ) → word ≡ applied_count old % 2 ^ 64
    → new ≡ settled_events came job v before now undone down ++ old → result ≡ applied_then came word new → result < 2 ^ 64 → result ≡ applied_count new % 2 ^ 64
settles_counted came job v before now undone down old new word result is adds said few =
    settle_counts came job v before now undone down old word result is (said ∙ ap (λ (es : History). applied_then came word es) adds) few ∙ ap (λ (es : History). applied_count es % 2 ^ 64) (sym adds)

-- a claimed job can be settled, by the list of the stage
pub stage_job : {D K : Type 0} (came : Claimed) (es : List (Entry D K)) (list : List (Staged D K)) → core_entries list ≡ es → HasJob came es → HasStageJob came list
stage_job (claimed.Job job) es list is h = (subst (WasSubmitted job.receipt job.command) (sym is) h.0, h.1)
stage_job claimed.Rest es list is h = tt
stage_job claimed.Done es list is h = tt
stage_job claimed.QueueFault es list is h = tt
stage_job claimed.Spent es list is h = tt
stage_job claimed.Down es list is h = tt
stage_job claimed.Memory es list is h = tt
