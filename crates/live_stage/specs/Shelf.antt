-- The newest events of the live trace, as a thread applies them to its own tables.
use Rattle.std.specs.Prelude.{◌≡◌, ℕ, List, [], ◌∷◌, ◌++◌, drop, Option, Some, None, Ok}
use Rattle.core_ends.specs.fleet_rows.declared.change.Change.{Change}
use Rattle.core_ends.specs.fleet_rows.declared.command.Command.{Command}
use Rattle.core_ends.specs.history_spec.Lawful.{HasStamp}
use Rattle.core_ends.specs.history_spec.Trace.{Trace, TraceEvent, IsTrace, applied, applied_as, swept}
use Rattle.core_ends.specs.core_spec.Commands.{answer_of}
use Rattle.core_ends.specs.core_state.Seen.{IsFit}
use Rattle.core_ends.specs.fleet_tables.Stands.{Stands}
use Rattle.core_ends.specs.table_machine.Table.{Table}
use Rattle.core_ends.specs.core_settles.declared.answers.Settled.{Settled}
use Rattle.core_ends.specs.core_settles.declared.answers.Settled.TheVariants as settled
use Rattle.core_ends.specs.core_sweeps.declared.answers.Swept.{Swept}
use Rattle.core_ends.specs.core_sweeps.declared.answers.Swept.TheVariants as swept_answer
use Rattle.live_stage.specs.declared.shelf.Step.{Step}
use Rattle.live_stage.specs.declared.shelf.Step.TheVariants as step

-- the command decodes to this change, and the event applies it
pub record AppliesAs (r : ℕ) (c : Command) (e : TraceEvent) : Type 0 where
  pub change : Change
  pub decodes : answer_of c ≡ Ok change
  pub event : e ≡ applied (applied_as r (Some c.received) change)

-- the event that a step stands for
abbrev pub IsEventOf : Step → TraceEvent → Type 0
IsEventOf (step.Applied r c) e = AppliesAs r c e
IsEventOf (step.Swept kinds m) e = e ≡ swept kinds m

-- a command with a change, or a moment that a stamp can express
abbrev pub HasChange : Command → Type 0
HasChange c = (change : Change) × (answer_of c ≡ Ok change)

abbrev pub IsLawfulStep : Step → Type 0
IsLawfulStep (step.Applied r c) = IsFit c × HasChange c
IsLawfulStep (step.Swept kinds m) = HasStamp m

-- The steps, oldest first, lead from one trace to another.
abbrev pub LeadsTo : Trace → List Step → Trace → Type 0
LeadsTo base [] whole = whole ≡ base
LeadsTo base (s ∷ steps) whole = (e : TraceEvent) × IsEventOf s e × LeadsTo (e ∷ base) steps whole

-- some of the oldest are forgotten
abbrev pub KeepsNewest : List Step → List Step → Type 0
KeepsNewest all kept = (n : ℕ) × (kept ≡ drop n all)

-- what a step makes of tables
abbrev pub StepMakes : Step → Table → Table → Type 0
StepMakes s old new = (base : Trace) (e : TraceEvent) → Stands old base → IsEventOf s e → IsTrace (e ∷ base) → Stands new (e ∷ base)

-- and the first of some, if there is one
abbrev pub FirstMakes : List Step → Table → Table → Type 0
FirstMakes [] old new = new ≡ old
FirstMakes (s ∷ later) old new = StepMakes s old new

-- Tables with steps behind them become others with fewer steps, which have the same trace.
abbrev pub GoesOn : Table → List Step → Table → List Step → Type 0
GoesOn old steps new rest = (trace base : Trace) → IsTrace trace → Stands old base → LeadsTo base steps trace → (now : Trace) × Stands new now × LeadsTo now rest trace

-- The steps that are kept after a settle. Where the queue failed they are forgotten, since the command may be applied.
abbrev pub ShelvedBy : Settled → Option Step → List Step → List Step → Type 0
ShelvedBy settled.Applied (Some s) old new = KeepsNewest (old ++ s ∷ []) new
ShelvedBy settled.Applied None old new = new ≡ []
ShelvedBy settled.QueueFault s old new = new ≡ []
ShelvedBy _ s old new = new ≡ old

-- and after a sweep
abbrev pub SweptBy : Swept → Step → List Step → List Step → Type 0
SweptBy swept_answer.Ok s old new = KeepsNewest (old ++ s ∷ []) new
SweptBy _ s old new = new ≡ old
