-- Statements on one thread that takes items one at a time.
use Rattle.std.specs.Prelude.{◌≡◌, ◌↔◌, ℕ, ◌≤◌, Bool, false, not, ◌==◌, List, [], ◌∷◌, ◌++◌, filter}
use Rattle.std.specs.List.{AllByRecursion, list_any}
use Rattle.spool_spec.specs.fleet_rows.declared.command.Command.{Command}
use Rattle.spool_spec.specs.history_spec.Trace.{Trace, IsTrace, receipts}
use Rattle.spool_spec.specs.history_spec.Thread.{Item, command, sweep, IsItem, OneThread, Arrival, received, asked, numbered, waiting, ThreadOf}
use Rattle.history_laws.specs.OrderLaws.{AreDistinct}

-- every list of items has a history
abbrev pub ItemsHaveSomeHistory : Type 0
ItemsHaveSomeHistory = (items : List Item) → (history : Trace) × OneThread items history

-- a list of items has at most one history
abbrev pub ItemsHaveOneHistory : Type 0
ItemsHaveOneHistory = (items : List Item) (history other : Trace) → OneThread items history → OneThread items other → history ≡ other

-- the history is a trace: its changes meet their rules, its moments have stamps, its receipts count from 1 and are distinct
abbrev pub OneThreadMakesATrace : Type 0
OneThreadMakesATrace =
    (items : List Item) (history : Trace) → AllByRecursion IsItem items → OneThread items history → IsTrace history

-- ---- threads from any history

-- OneThread is ThreadOf from an empty history: nothing pending, receipts from 1, nothing dropped
abbrev pub OneThreadIsAThread : Type 0
OneThreadIsAThread = (items : List Item) (history : Trace) → OneThread items history ↔ ThreadOf [] [] (numbered 1 items) [] history

abbrev pub ThreadsHaveSomeHistory : Type 0
ThreadsHaveSomeHistory =
    (start : Trace) (pending : List (ℕ × Command)) (arrivals : List Arrival) (dropped : List ℕ) → (history : Trace) × ThreadOf start pending arrivals dropped history

abbrev pub ThreadsHaveOneHistory : Type 0
ThreadsHaveOneHistory =
    (start : Trace) (pending : List (ℕ × Command)) (arrivals : List Arrival) (dropped : List ℕ) (history other : Trace)
    → ThreadOf start pending arrivals dropped history → ThreadOf start pending arrivals dropped other → history ≡ other

abbrev pub is_dropped : List ℕ → Arrival → Bool
is_dropped dropped (received receipt c) = list_any (λ r. r == receipt) dropped
is_dropped dropped (asked kinds m) = false

-- pending commands come first, and a dropped command has no effect
abbrev pub DroppedCommandsSayNothing : Type 0
DroppedCommandsSayNothing =
    (start : Trace) (pending : List (ℕ × Command)) (arrivals : List Arrival) (dropped : List ℕ) (history : Trace)
    → ThreadOf start pending arrivals dropped history
    ↔ ThreadOf start [] (filter (λ a. not (is_dropped dropped a)) (waiting pending ++ arrivals)) [] history

-- an arrival that meets its rules
abbrev pub IsArrival : Arrival → Type 0
IsArrival (received receipt c) = (1 ≤ receipt) × IsItem (command c)
IsArrival (asked kinds m) = IsItem (sweep kinds m)

-- the receipts of the commands that arrive
abbrev pub arrived : List Arrival → List ℕ
arrived [] = []
arrived (received receipt c ∷ arrivals) = receipt ∷ arrived arrivals
arrived (asked kinds m ∷ arrivals) = arrived arrivals

-- a thread extends a trace to a trace, if the new receipts are distinct from each other and from the trace's
abbrev pub ThreadsMakeATrace : Type 0
ThreadsMakeATrace =
    (start : Trace) (pending : List (ℕ × Command)) (arrivals : List Arrival) (dropped : List ℕ) (history : Trace)
    → IsTrace start → AllByRecursion IsArrival (waiting pending ++ arrivals) → AreDistinct (arrived (waiting pending ++ arrivals) ++ receipts start)
    → ThreadOf start pending arrivals dropped history → IsTrace history
