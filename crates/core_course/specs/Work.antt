-- What working off pending commands does to a core: claims and settles, without submits.
use Rattle.std.specs.Prelude.{[], ◌∷◌, None}
use Rattle.core_state.specs.core_spec.declared.event.Event.TheVariants.{Submit, Apply, Sweep, Restart}
use Rattle.core_state.specs.core_spec.History.{History}
use Rattle.core_state.specs.core_laws.Threads.{MomentsAreKept}
use Rattle.core_state.specs.declared.state.CoreState.{CoreState}
use Rattle.core_state.specs.StandsFor.{history_of}
use Rattle.core_course.specs.Sight.{Sight, Stood}
use Rattle.core_course.specs.Courses.{Course, Passed}

-- No submit, no sweep, no restart. Each command is applied with a moment, which in a legal history is the one at which it was
-- received.
abbrev pub IsWork : History → Type 0
IsWork [] = Unit {0}
IsWork (Submit r c ∷ events) = ⊥
IsWork (Apply r None ∷ events) = ⊥
IsWork (Sweep kinds m ∷ events) = ⊥
IsWork (Restart ∷ events) = ⊥
IsWork (_ ∷ events) = IsWork events

-- each command is applied with the moment at which it was received
abbrev pub KeepsMoments : {D K : Type 0} → Sight D K → History → CoreState D K → Type 0
KeepsMoments w more old = (start : History) → Stood w old start → MomentsAreKept (history_of old start) more

-- Commands were claimed, released, superseded and settled, and no other record was written.
pub record Worked {D K : Type 0} (w : Sight D K) (old new : CoreState D K) : Type 0 where
  pub more : History
  pub only : IsWork more
  pub passed : Passed w more old new
  pub moments : KeepsMoments w more old
  pub course : Course w (λ core begun. IsWork begun) old new
