-- The live trace: the commands that were applied since the core's opening, and the sweeps.
use Rattle.std.specs.Prelude.{◌≡◌, ℕ, suc, ◌+◌, ◌-◌, ◌%◌, ◌^◌, ◌≤◌, List, [], ◌∷◌, ◌++◌, length, drop}
use Rattle.core_ends.specs.history_spec.Trace.{Trace, IsTrace}
use Rattle.core_ends.specs.core_spec.declared.event.Event.TheVariants.{Apply, Sweep}
use Rattle.core_ends.specs.core_spec.History.{History, trace_of}
use Rattle.core_ends.specs.core_state.declared.state.CoreState.{CoreState}
use Rattle.core_ends.specs.core_settles.declared.answers.Settled.{Settled}
use Rattle.core_ends.specs.core_settles.declared.answers.Settled.TheVariants as settled
use Rattle.core_ends.specs.core_sweeps.declared.answers.Swept.{Swept}
use Rattle.core_ends.specs.core_sweeps.declared.answers.Swept.TheVariants as swept
use Rattle.core_ends.specs.core_course.Sight.{Sight, Stood}
use Rattle.core_ends.specs.fleet_tables.Stands.{Stands}
use Rattle.core_ends.specs.table_machine.Table.{Table}
use Rattle.live_stage.specs.declared.note.Staged.{Staged}
use Rattle.live_stage.specs.declared.shelf.Step.{Step}
use Rattle.live_stage.specs.Notes.{StageView, list_of}
use Rattle.live_stage.specs.Shelf.{LeadsTo}

-- how many of the events are of the live trace
abbrev pub applied_count : History → ℕ
applied_count [] = 0
applied_count (Apply r t ∷ earlier) = suc (applied_count earlier)
applied_count (_ ∷ earlier) = applied_count earlier

abbrev pub sweep_count : History → ℕ
sweep_count [] = 0
sweep_count (Sweep kinds m ∷ earlier) = suc (sweep_count earlier)
sweep_count (_ ∷ earlier) = sweep_count earlier

abbrev pub live_count : History → ℕ
live_count events = applied_count events + sweep_count events

abbrev pub live_of : {D K : Type 0} → CoreState D K → ℕ
live_of core = live_count core.events.list

-- how many sweeps an answer tells of
abbrev pub swept_number : Swept → ℕ
swept_number swept.Ok = 1
swept_number swept.StoreFault = 0
swept_number swept.StoreDown = 0
swept_number swept.Spent = 0
swept_number swept.Down = 0
swept_number swept.Memory = 0

-- the number of applied commands after a settle, modulo 2^64: one more, or counted anew among these events, or the same
abbrev pub applied_then : Settled → ℕ → History → ℕ
applied_then settled.Applied n events = (n + 1) % 2 ^ 64
applied_then settled.QueueFault n events = applied_count events
applied_then settled.Discarded n events = n
applied_then (settled.Failed attempts) n events = n
applied_then settled.StoreDown n events = n
applied_then settled.NotClaimed n events = n
applied_then settled.Spent n events = n
applied_then settled.Down n events = n
applied_then (settled.Memory job v) n events = n

-- the first n of a list whose last element stands first
abbrev pub oldest : {T : Type 0} → ℕ → List T → List T
oldest n xs = drop (length xs - n) xs

-- the trace of the history at the opening, and then the first n of the live trace
abbrev pub trace_at : History → History → ℕ → Trace
trace_at start events n = oldest (length (trace_of start) + n) (trace_of (events ++ start))

-- A lane's own tables, the steps that they lack, oldest first, and how many of the live trace they have with these.
pub record SnapshotView : Type 0 where
  pub seen : ℕ
  pub tables : Table
  pub behind : List Step

abbrev pub snapshot : ℕ → Table → List Step → SnapshotView
snapshot seen tables behind = record { seen = seen; tables = tables; behind = behind }

-- with the steps, the tables have this trace
abbrev pub HasTrace : SnapshotView → Trace → Type 0
HasTrace s trace = IsTrace trace × ((base : Trace) × Stands s.tables base × LeadsTo base s.behind trace)

module _ {D K : Type 0} (w : Sight D K) where
  -- The tables have the core's lifetimes. They have the first `seen` of the live trace, for each history that the core was opened
  -- with.
  pub record HasFirst (stage : StageView D K) (s : SnapshotView) : Type 0 where
    pub lifetimes : s.tables.ttls ≡ stage.start.tables.ttls
    pub seen : s.seen ≤ live_of stage.core
    pub tables : (start : History) → Stood w stage.start start → HasTrace s (trace_at start stage.core.events.list s.seen)

  -- all of the live trace
  abbrev pub HasAll : StageView D K → SnapshotView → Type 0
  HasAll stage s = (s.seen ≡ live_of stage.core) × HasFirst stage s

  -- The steps lead to the live trace's end, from some part of it, for each history that the core was opened with.
  abbrev pub IsShelf : CoreState D K → CoreState D K → List Step → Type 0
  IsShelf begun core steps = (start : History) → Stood w begun start → (base : Trace) × LeadsTo base steps (trace_of (core.events.list ++ start))

  -- the same of a list: of each stage that has it
  abbrev pub HasFirstIn : SnapshotView → List (Staged D K) → Type 0
  HasFirstIn s list = (stage : StageView D K) → list ≡ list_of stage → HasFirst stage s
