-- Notes keep their cause, and a new note has one.
use Rattle.std.proofs.Common.{◌≡◌, ◌∙◌, inl, inr, ℕ, ◌≤◌, ℤ, Bool, true, false, ◌||◌, List, [], ◌∷◌, Option, Some, None, refl, sym, ap, subst, arith}
use Rattle.std.specs.List.{AllByRecursion}
use Rattle.core_ends.specs.fleet_ports.Counts.{RoseBy}
use Rattle.core_ends.specs.Ends.{QueueRose}
use Rattle.core_ends.specs.fleet_rows.declared.command.Command.{Command}
use Rattle.core_ends.specs.fleet_rows.declared.settings.Kinds.{Kinds}
use Rattle.fleet_rows.specs.declared.submitted.Submitted.{Submitted}
use Rattle.fleet_rows.specs.declared.submitted.Submitted.TheVariants as submitted
use Rattle.core_ends.specs.core_sweeps.declared.answers.Swept.{Swept}
use Rattle.core_ends.specs.core_sweeps.declared.answers.Swept.TheVariants as swept
use Rattle.core_ends.specs.core_state.declared.state.CoreState.{CoreState}
use Rattle.core_ends.specs.core_course.Sight.{Sight, is_down}
use Rattle.core_ends.specs.core_course.Courses.{Passed}
use Rattle.core_ends.specs.core_spec.History.{History}
use Rattle.core_ends.specs.queue_log.Queued.{queue_down}
use Rattle.hub_calls.specs.Calls.{SubmitDoes, SweepDoes}
use Rattle.core_ends.proofs.Later.{queue_rose_later}
use Rattle.core_ends.proofs.of_core_state.of_fleet_keeper.Within.{rose_from}
use Rattle.core_ends.proofs.of_core_state.of_plain_laws.Booleans.{or_right}
use Rattle.live_stage.specs.declared.note.Refused.{Refused}
use Rattle.live_stage.specs.declared.note.Refused.TheVariants.{QueueFault, QueueDown, StoreFault, StoreDown, CoreDown}
use Rattle.live_stage.specs.Notes.{NoteView, with_note}
use Rattle.live_stage.specs.Causes.{IsNoted}
use Rattle.live_stage.specs.StageCalls.{submit_note, sweep_note}

-- a count that rose by then is above the start later, too
rose_on : (n before old new : ℕ) → RoseBy n before old → old ≤ new → RoseBy n before new
rose_on n before old new rose later = omega (arith, rose, later)

-- what an option has
abbrev some_of : Refused Command → Option (Refused Command) → Refused Command
some_of d None = d
some_of d (Some what) = what

not_down : swept.StoreDown ≡ swept.Down → ⊥
not_down is = absurd cc

module _ {D K : Type 0} (w : Sight D K) where
  abbrev Noted : CoreState D K → CoreState D K → List NoteView → Type 0
  Noted start core notes = AllByRecursion (λ (note : NoteView). IsNoted w start core note.what) notes

  module _ (more : History) (start old new : CoreState D K) (p : Passed w more old new) where
    queue_on : QueueRose w start old → QueueRose w start new
    queue_on (inl first) = inl (rose_on 1 _ _ _ first p.counts.queue_a)
    queue_on (inr second) = inr (rose_on 1 _ _ _ second p.counts.queue_b)

    still_noted : (what : Refused Command) → IsNoted w start old what → IsNoted w start new what
    still_noted (QueueFault c) is = queue_on is
    still_noted QueueDown is = p.stays_down is
    still_noted StoreFault is = rose_on 1 _ _ _ is p.counts.store
    still_noted (StoreDown kinds m) is = (rose_on 2 _ _ _ is.0 p.counts.store, p.stays_down is.1)
    still_noted CoreDown is = p.stays_down is

    pub all_still_noted : (notes : List NoteView) → Noted start old notes → Noted start new notes
    all_still_noted [] all = tt
    all_still_noted (note ∷ earlier) all = (still_noted note.what all.0, all_still_noted earlier all.1)

  -- one note more, if there is one
  pub noted_more : (start core : CoreState D K) (before : ℕ) (refused : Option (Refused Command)) (notes : List NoteView) → ((what : Refused Command) → refused ≡ Some what → IsNoted w start core what) → Noted start core notes
      → Noted start core (with_note before refused notes)
  noted_more start core before None notes cause all = all
  noted_more start core before (Some what) notes cause all = (cause what refl, all)

  -- ---- the cause of a new note

  no_note : {A : Type 0} (what : A) → None ≡ Some what → ⊥
  no_note what is = absurd cc

  module _ (more : History) (start old new : CoreState D K) (p : Passed w more start old) where
    pub submit_cause : (came : Submitted) (c : Command) → SubmitDoes w came c old new → (what : Refused Command) → submit_note came c ≡ Some what → IsNoted w start new what
    submit_cause submitted.QueueFault c d what is = subst (IsNoted w start new) (λ i. some_of (QueueFault c) (is i)) (queue_rose_later w more start old new p (d.cause.cause refl))
    submit_cause submitted.Down c d what is = subst (IsNoted w start new) (λ i. some_of QueueDown (is i)) (ap (is_down w) (d.unchanged refl) ∙ d.down.0 refl)
    submit_cause (submitted.Receipt r) c d what is = absurd (no_note what is)
    submit_cause submitted.Full c d what is = absurd (no_note what is)
    submit_cause submitted.Spent c d what is = absurd (no_note what is)
    submit_cause submitted.Memory c d what is = absurd (no_note what is)

    -- a sweep at which the store went down leaves the core down
    goes_down : (was : Bool) → is_down w old ≡ was → (generation : K → ℕ) (kinds : Kinds) (m : ℤ) → SweepDoes w generation swept.StoreDown kinds m old new → is_down w new ≡ true
    goes_down true is generation kinds m d = absurd (not_down (d.down.1 is))
    goes_down false is generation kinds m d = or_right new.undone (queue_down new.queue || w.store_down new.store) (or_right (queue_down new.queue) (w.store_down new.store) ((d.store_down is).1 refl))

    pub sweep_cause : (generation : K → ℕ) (came : Swept) (kinds : Kinds) (m : ℤ) → SweepDoes w generation came kinds m old new → (what : Refused Command) → sweep_note came kinds m ≡ Some what → IsNoted w start new what
    sweep_cause generation swept.StoreFault kinds m d what is = subst (IsNoted w start new) (λ i. some_of StoreFault (is i)) (rose_from 1 _ _ _ p.counts.store (d.cause.cause tt))
    sweep_cause generation swept.StoreDown kinds m d what is =
        subst (IsNoted w start new) (λ i. some_of (StoreDown kinds m) (is i)) (rose_from 2 _ _ _ p.counts.store (d.twice refl), goes_down (is_down w old) refl generation kinds m d)
    sweep_cause generation swept.Down kinds m d what is = subst (IsNoted w start new) (λ i. some_of CoreDown (is i)) (ap (is_down w) (d.unchanged refl) ∙ d.down.0 refl)
    sweep_cause generation swept.Ok kinds m d what is = absurd (no_note what is)
    sweep_cause generation swept.Spent kinds m d what is = absurd (no_note what is)
    sweep_cause generation swept.Memory kinds m d what is = absurd (no_note what is)

  -- no note, no cause
  pub none_noted : (start core : CoreState D K) (notes : List NoteView) → notes ≡ [] → Noted start core notes
  none_noted start core notes none = subst (Noted start core) (sym none) tt
