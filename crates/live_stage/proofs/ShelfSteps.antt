-- Each call of a core leaves a shelf whose steps lead to the end of the live trace.
use Rattle.std.proofs.Common.{◌≡◌, ◌∙◌, ℕ, ◌+◌, Bool, true, ℤ, List, [], ◌∷◌, ◌++◌, Option, Some, None, IfSome, refl, sym, ap, subst, arith, append_assoc}
use Rattle.core_ends.specs.fleet_rows.declared.settings.Kinds.{Kinds}
use Rattle.core_ends.specs.history_spec.Trace.{applied, applied_as, swept}
use Rattle.core_ends.specs.core_spec.declared.event.Event.TheVariants.{Submit, Claim, Release, Apply, Supersede, Fail, Discard, Sweep, Restart}
use Rattle.core_ends.specs.core_spec.History.{History, command, trace_of}
use Rattle.core_ends.specs.core_claims.declared.job.Job.{Job}
use Rattle.core_ends.specs.fleet_rows.declared.command.Command.{Command}
use Rattle.fleet_rows.specs.declared.submitted.Submitted.{Submitted}
use Rattle.core_ends.specs.core_settles.declared.answers.Settled.{Settled}
use Rattle.core_ends.specs.core_settles.declared.answers.Settled.TheVariants as settled
use Rattle.core_ends.specs.core_settles.declared.answers.Verdict.{Verdict}
use Rattle.core_ends.specs.core_settles.declared.answers.Verdict.TheVariants as verdict
use Rattle.core_ends.specs.core_settles.Settles.{settled_events}
use Rattle.core_ends.specs.core_sweeps.declared.answers.Swept.{Swept}
use Rattle.core_ends.specs.core_sweeps.declared.answers.Swept.TheVariants as swept_answer
use Rattle.core_ends.specs.core_sweeps.Sweeps.{SweepAdds}
use Rattle.core_ends.specs.core_state.declared.state.CoreState.{CoreState}
use Rattle.core_ends.specs.core_course.Sight.{Sight, Stood}
use Rattle.hub_calls.specs.Calls.{SubmitDoes}
use Rattle.hub_calls.specs.Follows.{Follows}
use Rattle.hub_calls.proofs.Steps.{submit_follows}
use Rattle.live_stage.specs.declared.shelf.Step.{Step}
use Rattle.live_stage.specs.declared.shelf.Step.TheVariants as step
use Rattle.live_stage.specs.Shelf.{IsEventOf, IsLawfulStep, LeadsTo, ShelvedBy, SweptBy}
use Rattle.live_stage.specs.Trace.{applied_count, sweep_count, IsShelf}
use Rattle.live_stage.proofs.Counts.{no_sweeps, submits_apply_none, submits_sweep_none}
use Rattle.live_stage.proofs.Shelving.{one_more, leads_newest, leads_none, silent_trace, applied_event}

applied_append : (more old : History) → applied_count (more ++ old) ≡ applied_count more + applied_count old
applied_append [] old = omega arith
applied_append (Apply r t ∷ more) old = let e = applied_append more old in omega arith
applied_append (Sweep kinds m ∷ more) old = applied_append more old
applied_append (Submit r c ∷ more) old = applied_append more old
applied_append (Claim r ∷ more) old = applied_append more old
applied_append (Release r ∷ more) old = applied_append more old
applied_append (Supersede q p ∷ more) old = applied_append more old
applied_append (Fail r before after ∷ more) old = applied_append more old
applied_append (Discard r why ∷ more) old = applied_append more old
applied_append (Restart ∷ more) old = applied_append more old

sweeps_append : (more old : History) → sweep_count (more ++ old) ≡ sweep_count more + sweep_count old
sweeps_append [] old = omega arith
sweeps_append (Sweep kinds m ∷ more) old = let e = sweeps_append more old in omega arith
sweeps_append (Apply r t ∷ more) old = sweeps_append more old
sweeps_append (Submit r c ∷ more) old = sweeps_append more old
sweeps_append (Claim r ∷ more) old = sweeps_append more old
sweeps_append (Release r ∷ more) old = sweeps_append more old
sweeps_append (Supersede q p ∷ more) old = sweeps_append more old
sweeps_append (Fail r before after ∷ more) old = sweeps_append more old
sweeps_append (Discard r why ∷ more) old = sweeps_append more old
sweeps_append (Restart ∷ more) old = sweeps_append more old

silent_events : (more old new h : History) → new ≡ more ++ old → applied_count new ≡ applied_count old → sweep_count new ≡ sweep_count old → trace_of (new ++ h) ≡ trace_of (old ++ h)
silent_events more old new h is a s =
    let none_applied : applied_count more + applied_count old ≡ applied_count old = sym (applied_append more old) ∙ (ap (λ (es : History). applied_count es) (sym is) ∙ a) in
    let none_swept : sweep_count more + sweep_count old ≡ sweep_count old = sym (sweeps_append more old) ∙ (ap (λ (es : History). sweep_count es) (sym is) ∙ s) in
    ap (λ (es : History). trace_of (es ++ h)) is ∙ (ap (λ (es : History). trace_of es) (append_assoc more old h) ∙ silent_trace more (old ++ h) (omega arith) (omega arith))

module _ {D K : Type 0} (w : Sight D K) (start later old new : CoreState D K) (same : later ≡ start) where
  at_start : (h : History) → Stood w later h → Stood w start h
  at_start h stood = subst (λ (core : CoreState D K). Stood w core h) same stood

  -- the trace stays, and so do the steps
  shelf_stays : (steps now : List Step) → now ≡ steps → ((h : History) → trace_of (new.events.list ++ h) ≡ trace_of (old.events.list ++ h)) → IsShelf w start old steps → IsShelf w later new now
  shelf_stays steps now now_is traces is h stood =
      let was = is h (at_start h stood) in (was.0, subst (λ (l : List Step). LeadsTo was.0 l (trace_of (new.events.list ++ h))) (sym now_is) (subst (LeadsTo was.0 steps) (sym (traces h)) was.1))

  pub shelf_silent : (more : History) (steps : List Step) → new.events.list ≡ more ++ old.events.list → applied_count new.events.list ≡ applied_count old.events.list → sweep_count new.events.list ≡ sweep_count old.events.list
      → IsShelf w start old steps → IsShelf w later new steps
  shelf_silent more steps is a s = shelf_stays steps steps refl (λ h. silent_events more old.events.list new.events.list h is a s)

  pub submit_shelf : (came : Submitted) (c : Command) (steps : List Step) → SubmitDoes w came c old new → IsShelf w start old steps → IsShelf w later new steps
  submit_shelf came c steps d =
      let step = submit_follows w old new came c d in
      shelf_silent step.more steps step.passed.events (submits_apply_none came c old.last old.events.list new.events.list d.adds) (submits_sweep_none came c old.last old.events.list new.events.list d.adds)

  pub work_shelf : (steps : List Step) → Follows w true old new → applied_count new.events.list ≡ applied_count old.events.list → IsShelf w start old steps → IsShelf w later new steps
  work_shelf steps works same_count =
      shelf_silent works.more steps works.passed.events same_count (ap (λ (es : History). sweep_count es) works.passed.events ∙ no_sweeps works.more old.events.list (works.works refl))

  pub shelf_swept : (came : Swept) (kinds : Kinds) (m : ℤ) (steps now : List Step) → SweepAdds came kinds m old.events.list new.events.list → SweptBy came (step.Swept kinds m) steps now → IsShelf w start old steps → IsShelf w later new now
  shelf_swept swept_answer.Ok kinds m steps now adds by is = λ h stood.
      let was = is h (at_start h stood) in
      let all = steps ++ step.Swept kinds m ∷ [] in
      let grown : LeadsTo was.0 all (swept kinds m ∷ trace_of (old.events.list ++ h)) = one_more was.0 steps (trace_of (old.events.list ++ h)) (step.Swept kinds m) (swept kinds m) refl was.1 in
      leads_newest all now was.0 (trace_of (new.events.list ++ h)) by (subst (λ (es : History). LeadsTo was.0 all (trace_of (es ++ h))) (sym adds) grown)
  shelf_swept swept_answer.StoreFault kinds m steps now adds by is = shelf_stays steps now by (λ h. ap (λ (es : History). trace_of (es ++ h)) adds) is
  shelf_swept swept_answer.StoreDown kinds m steps now adds by is = shelf_stays steps now by (λ h. ap (λ (es : History). trace_of (es ++ h)) adds) is
  shelf_swept swept_answer.Spent kinds m steps now adds by is = shelf_stays steps now by (λ h. ap (λ (es : History). trace_of (es ++ h)) adds) is
  shelf_swept swept_answer.Down kinds m steps now adds by is = shelf_stays steps now by (λ h. ap (λ (es : History). trace_of (es ++ h)) adds) is
  shelf_swept swept_answer.Memory kinds m steps now adds by is = shelf_stays steps now by (λ h. ap (λ (es : History). trace_of (es ++ h)) adds) is

  module _ (job : Job) (submitted : (h : History) → Stood w start h → command job.receipt (old.events.list ++ h) ≡ Some job.command) (before n : ℕ) (undone down : Bool) where
    applies : (s : Step) (steps now : List Step) → new.events.list ≡ Apply job.receipt (Some job.command.received) ∷ old.events.list → s ≡ step.Applied job.receipt job.command → IsLawfulStep s
        → ShelvedBy settled.Applied (Some s) steps now → IsShelf w start old steps → IsShelf w later new now
    applies s steps now adds s_is lawful by is h stood =
        let there = at_start h stood in
        let was = is h there in
        let all = steps ++ s ∷ [] in
        let change = (subst IsLawfulStep s_is lawful).1 in
        let event = applied (applied_as job.receipt (Some job.command.received) change.0) in
        let makes : IsEventOf s event = subst (λ (x : Step). IsEventOf x event) (sym s_is) (record { change = change.0; decodes = change.1; event = refl }) in
        let grown : LeadsTo was.0 all (event ∷ trace_of (old.events.list ++ h)) = one_more was.0 steps (trace_of (old.events.list ++ h)) s event makes was.1 in
        let trace : trace_of (new.events.list ++ h) ≡ event ∷ trace_of (old.events.list ++ h) =
        ap (λ (es : History). trace_of (es ++ h)) adds ∙ applied_event job.receipt job.command change.0 (old.events.list ++ h) (submitted h there) change.1 in
        leads_newest all now was.0 (trace_of (new.events.list ++ h)) by (subst (LeadsTo was.0 all) (sym trace) grown)

    pub shelf_settled : (came : Settled) (v : Verdict) (s : Option Step) (steps now : List Step) → new.events.list ≡ settled_events came job v before n undone down ++ old.events.list
        → IfSome s (λ x. x ≡ step.Applied job.receipt job.command) → IfSome s IsLawfulStep → ShelvedBy came s steps now → IsShelf w start old steps → IsShelf w later new now
    shelf_settled settled.Applied v (Some s) steps now adds s_is lawful by is = applies s steps now adds s_is lawful by is
    shelf_settled settled.Applied v None steps now adds s_is lawful by is = λ h stood. leads_none now (trace_of (new.events.list ++ h)) by
    shelf_settled settled.QueueFault v s steps now adds s_is lawful by is = λ h stood. leads_none now (trace_of (new.events.list ++ h)) by
    shelf_settled settled.Discarded (verdict.Change change) s steps now adds s_is lawful by is = shelf_stays steps now by (λ h. ap (λ (es : History). trace_of (es ++ h)) adds) is
    shelf_settled settled.Discarded (verdict.Refused refusal) s steps now adds s_is lawful by is = shelf_stays steps now by (λ h. ap (λ (es : History). trace_of (es ++ h)) adds) is
    shelf_settled (settled.Failed attempts) v s steps now adds s_is lawful by is = shelf_stays steps now by (λ h. ap (λ (es : History). trace_of (es ++ h)) adds) is
    shelf_settled settled.StoreDown v s steps now adds s_is lawful by is = shelf_stays steps now by (λ h. ap (λ (es : History). trace_of (es ++ h)) adds) is
    shelf_settled settled.NotClaimed v s steps now adds s_is lawful by is = shelf_stays steps now by (λ h. ap (λ (es : History). trace_of (es ++ h)) adds) is
    shelf_settled settled.Spent v s steps now adds s_is lawful by is = shelf_stays steps now by (λ h. ap (λ (es : History). trace_of (es ++ h)) adds) is
    shelf_settled settled.Down v s steps now adds s_is lawful by is = shelf_stays steps now by (λ h. ap (λ (es : History). trace_of (es ++ h)) adds) is
    shelf_settled (settled.Memory given u) v s steps now adds s_is lawful by is = shelf_stays steps now by (λ h. ap (λ (es : History). trace_of (es ++ h)) adds) is
