-- The tables of a settled run are those of one thread.
use Rattle.std.specs.Prelude.{◌≡◌, ℕ, suc, ℤ, List, [], ◌∷◌, ◌++◌, true, Option, map}
use Rattle.std.specs.Option.{option_map}
use Rattle.core_machine.specs.fleet_rows.declared.command.Command.{Command}
use Rattle.core_machine.specs.fleet_rows.declared.row.Entity.{Entity}
use Rattle.core_machine.specs.fleet_rows.declared.settings.Ttls.{Ttls}
use Rattle.core_machine.specs.history_spec.Thread as thread
use Rattle.core_machine.specs.history_spec.Thread.{Item, numbered, ThreadOf}
use Rattle.core_machine.specs.history_spec.Trace.{Trace}
use Rattle.core_machine.specs.table_spec.Rows.{rows}
use Rattle.checkpoint_spec.specs.table_machine.Table.{table_of}
use Rattle.core_machine.specs.core_spec.declared.entry.Entry.{Entry}
use Rattle.core_machine.specs.core_spec.declared.event.Event.TheVariants.{Submit, Apply, Discard, Sweep}
use Rattle.core_machine.specs.core_spec.History.{History, last_receipt, command, trace_of}
use Rattle.core_machine.specs.core_spec.Legal.{IsLegal}
use Rattle.core_machine.specs.core_spec.Pending.{pending_of}
use Rattle.core_machine.specs.core_spec.Thread.{one_thread}

-- ---- facts about a run, which is the list of events after a history

-- what came in, in order
abbrev pub items_of : History → List Item
items_of [] = []
items_of (Submit r c ∷ earlier) = items_of earlier ++ thread.command c ∷ []
items_of (Sweep kinds m ∷ earlier) = items_of earlier ++ thread.sweep kinds m ∷ []
items_of (_ ∷ earlier) = items_of earlier

-- the receipts of the discarded commands
abbrev pub dropped : History → List ℕ
dropped [] = []
dropped (Discard r cause ∷ earlier) = r ∷ dropped earlier
dropped (_ ∷ earlier) = dropped earlier

-- at each purge of the run nothing is pending
abbrev pub PurgesAreDrained : History → History → Type 0
PurgesAreDrained start [] = Unit {0}
PurgesAreDrained start (Sweep kinds m ∷ earlier) = (kinds.purge ≡ true → pending_of (earlier ++ start) ≡ []) × PurgesAreDrained start earlier
PurgesAreDrained start (_ ∷ earlier) = PurgesAreDrained start earlier

-- the moment at which the command of a receipt was received
abbrev pub received : ℕ → History → Option ℤ
received r history = option_map (λ (c : Command). c.received) (command r history)

-- each command of the run is applied with the moment at which it was received
abbrev pub MomentsAreKept : History → History → Type 0
MomentsAreKept start [] = Unit {0}
MomentsAreKept start (Apply r t ∷ earlier) = (t ≡ received r (earlier ++ start)) × MomentsAreKept start earlier
MomentsAreKept start (_ ∷ earlier) = MomentsAreKept start earlier

-- a run that settles all that came in, in any order, and before each purge all that was pending
pub record IsSettled (ttls : Ttls) (start run : History) : Type 0 where
  pub legal : IsLegal ttls (run ++ start)
  pub moments : MomentsAreKept start run
  pub purges : PurgesAreDrained start run
  pub all : pending_of (run ++ start) ≡ []

-- ---- the tables of a run

-- the receipts and commands that are pending, by receipt
abbrev pub waiting_in : History → List (ℕ × Command)
waiting_in history = map (λ (e : Entry). (e.receipt, e.command)) (pending_of history)

-- one thread takes the pending commands, and then the items, under the receipts that follow
abbrev pub OneThreadIsAThread : Type 0
OneThreadIsAThread =
    (start : History) (items : List Item) (dropped : List ℕ)
    → ThreadOf (trace_of start) (waiting_in start) (numbered (suc (last_receipt start)) items) dropped (one_thread start items dropped)

-- no thread makes another trace of them
abbrev pub NoThreadMakesAnother : Type 0
NoThreadMakesAnother =
    (start : History) (items : List Item) (dropped : List ℕ) (history : Trace)
    → ThreadOf (trace_of start) (waiting_in start) (numbered (suc (last_receipt start)) items) dropped history → history ≡ one_thread start items dropped

-- The rows of a settled run are those of one thread over the commands pending at its start and what came in. The discarded
-- commands are left out.
abbrev pub RowsAreThoseOfOneThread : Type 0
RowsAreThoseOfOneThread =
    (entity : Entity) (ttls : Ttls) (start run : History) → IsSettled ttls start run
    → rows entity ttls (trace_of (run ++ start)) ≡ rows entity ttls (one_thread start (items_of run) (dropped run))

-- the tables are equal too, so further events have the same effect
abbrev pub TheTableIsThatOfOneThread : Type 0
TheTableIsThatOfOneThread =
    (ttls : Ttls) (start run : History) → IsSettled ttls start run
    → table_of ttls (trace_of (run ++ start)) ≡ table_of ttls (one_thread start (items_of run) (dropped run))
