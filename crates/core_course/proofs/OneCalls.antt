-- One call moves at most one command.
use Rattle.std.proofs.Common.{◌≡◌, ◌≤◌, [], ◌∷◌, arith, refl, sym, subst}
use Rattle.core_state.specs.core_spec.declared.event.Event.{Event}
use Rattle.core_state.specs.core_spec.declared.event.Event.TheVariants.{Submit, Claim, Release, Apply, Supersede, Fail, Discard, Sweep, Restart}
use Rattle.core_state.specs.core_spec.History.{History}
use Rattle.core_course.specs.Courses.{OnlySupersedes, OnlyReleases, AreOfOneCall, no_event, one_event, gives_up, supersedes, claims, releases}
use Rattle.core_course.specs.Laws.{moved}

superseding_moves : (events : History) → OnlySupersedes events → moved events ≡ 0
superseding_moves [] only = refl
superseding_moves (Submit r c ∷ events) only = absurd only
superseding_moves (Claim r ∷ events) only = absurd only
superseding_moves (Release r ∷ events) only = absurd only
superseding_moves (Apply r t ∷ events) only = absurd only
superseding_moves (Supersede q p ∷ events) only = superseding_moves events only
superseding_moves (Fail r before after ∷ events) only = absurd only
superseding_moves (Discard r why ∷ events) only = absurd only
superseding_moves (Sweep kinds m ∷ events) only = absurd only
superseding_moves (Restart ∷ events) only = absurd only

releasing_moves : (events : History) → OnlyReleases events → moved events ≡ 0
releasing_moves [] only = refl
releasing_moves (Submit r c ∷ events) only = absurd only
releasing_moves (Claim r ∷ events) only = absurd only
releasing_moves (Release r ∷ events) only = releasing_moves events only
releasing_moves (Apply r t ∷ events) only = absurd only
releasing_moves (Supersede q p ∷ events) only = absurd only
releasing_moves (Fail r before after ∷ events) only = absurd only
releasing_moves (Discard r why ∷ events) only = absurd only
releasing_moves (Sweep kinds m ∷ events) only = absurd only
releasing_moves (Restart ∷ events) only = absurd only

event_moves : (e : Event) → moved (e ∷ []) ≤ 1
event_moves (Submit r c) = omega arith
event_moves (Claim r) = omega arith
event_moves (Release r) = omega arith
event_moves (Apply r t) = omega arith
event_moves (Supersede q p) = omega arith
event_moves (Fail r before after) = omega arith
event_moves (Discard r why) = omega arith
event_moves (Sweep kinds m) = omega arith
event_moves Restart = omega arith

pub one_moves : (events : History) → AreOfOneCall events → moved events ≤ 1
one_moves events (no_event is) = subst (λ (h : History). moved h ≤ 1) (sym is) (omega arith)
one_moves events (one_event e is) = subst (λ (h : History). moved h ≤ 1) (sym is) (event_moves e)
one_moves events (gives_up r before after is) = subst (λ (h : History). moved h ≤ 1) (sym is) (omega arith)
one_moves events (supersedes only) = omega (arith, superseding_moves events only)
one_moves events (claims r earlier only is) = subst (λ (h : History). moved h ≤ 1) (sym is) (omega (arith, superseding_moves earlier only))
one_moves events (releases only) = omega (arith, releasing_moves events only)
