-- A history of the core, newest event first, and what it says about each command.
use Rattle.std.specs.Prelude.{ℕ, suc, ◌==◌, ℤ, List, [], ◌∷◌, if◌then◌else◌, Option, Some, None, Result, Ok, Err}
use Rattle.std.specs.Option.{option_map, option_and_then}
use Rattle.table_spec.specs.fleet_rows.declared.change.Change.{Change}
use Rattle.table_spec.specs.fleet_rows.declared.command.Command.{Command}
use Rattle.table_spec.specs.fleet_rows.declared.refusal.Cause.{Cause}
use Rattle.table_spec.specs.fleet_rows.declared.refusal.Refusal.{Refusal}
use Rattle.table_spec.specs.history_spec.Trace.{Trace, applied_as, swept}
use Rattle.table_spec.specs.history_spec.Trace as trace
use Rattle.core_spec.specs.declared.event.Event.{Event}
use Rattle.core_spec.specs.declared.event.Event.TheVariants.{Submit, Claim, Release, Apply, Supersede, Fail, Discard, Sweep, Restart}
use Rattle.core_spec.specs.Commands.{answer_of, Key, key_of}

abbrev pub History : Type 0
History = List Event

-- ---- receipts and their commands

-- the greatest receipt so far, or 0. Receipts count from 1
abbrev pub last_receipt : History → ℕ
last_receipt [] = 0
last_receipt (Submit r c ∷ earlier) = r
last_receipt (_ ∷ earlier) = last_receipt earlier

-- the command that was submitted under this receipt
abbrev pub command : ℕ → History → Option Command
command r [] = None
command r (Submit q c ∷ earlier) = if q == r then Some c else command r earlier
command r (_ ∷ earlier) = command r earlier

-- what the command of this receipt decodes to
abbrev pub answer : ℕ → History → Option (Result Change Refusal)
answer r history = option_map answer_of (command r history)

-- the group and the producer timestamp of the command of this receipt
abbrev pub key : ℕ → History → Option Key
key r history = option_and_then key_of (command r history)

-- ---- the state of a command

pub data Standing : Type 0 where
  unknown : Standing
  queued : Standing
  claimed : Standing
  applied : Standing
  superseded : ℕ → Standing
  discarded : Cause → Standing

abbrev pub requeued : Standing → Standing
requeued claimed = queued
requeued s = s

-- the state after the last event that names the receipt. A restart queues claimed commands again
abbrev pub standing : ℕ → History → Standing
standing r [] = unknown
standing r (Submit q c ∷ earlier) = if q == r then queued else standing r earlier
standing r (Claim q ∷ earlier) = if q == r then claimed else standing r earlier
standing r (Release q ∷ earlier) = if q == r then queued else standing r earlier
standing r (Apply q t ∷ earlier) = if q == r then applied else standing r earlier
standing r (Supersede q p ∷ earlier) = if q == r then superseded p else standing r earlier
standing r (Fail q before after ∷ earlier) = if q == r then queued else standing r earlier
standing r (Discard q cause ∷ earlier) = if q == r then discarded cause else standing r earlier
standing r (Sweep kinds m ∷ earlier) = standing r earlier
standing r (Restart ∷ earlier) = requeued (standing r earlier)

-- the number of times that the store failed at the command
abbrev pub fails : ℕ → History → ℕ
fails r [] = 0
fails r (Fail q before after ∷ earlier) = if q == r then suc (fails r earlier) else fails r earlier
fails r (_ ∷ earlier) = fails r earlier

-- ---- what was applied and swept

-- adds the change of an applied command, with the moment at which it was received, if the event tells it
abbrev pub with_applied : ℕ → Option ℤ → Option (Result Change Refusal) → Trace → Trace
with_applied r t None earlier = earlier
with_applied r t (Some (Err refusal)) earlier = earlier
with_applied r t (Some (Ok change)) earlier = trace.applied (applied_as r t change) ∷ earlier

abbrev pub trace_of : History → Trace
trace_of [] = []
trace_of (Apply r t ∷ earlier) = with_applied r t (answer r earlier) (trace_of earlier)
trace_of (Sweep kinds m ∷ earlier) = swept kinds m ∷ trace_of earlier
trace_of (_ ∷ earlier) = trace_of earlier
