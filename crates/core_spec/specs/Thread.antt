-- What one thread makes of the pending commands of a history and of further items.
use Rattle.std.specs.Prelude.{ℕ, suc, List, [], ◌∷◌}
use Rattle.table_spec.specs.fleet_rows.declared.command.Command.{Command}
use Rattle.table_spec.specs.history_spec.Trace.{Trace, swept}
use Rattle.table_spec.specs.history_spec.Thread as thread
use Rattle.table_spec.specs.history_spec.Thread.{Item, with_arrival}
use Rattle.core_spec.specs.declared.entry.Entry.{Entry}
use Rattle.core_spec.specs.Commands.{answer_of}
use Rattle.core_spec.specs.History.{History, last_receipt, trace_of}
use Rattle.core_spec.specs.Pending.{pending_of}

-- applies the command, unless its receipt is among the dropped ones or it is refused
abbrev pub with_command : List ℕ → ℕ → Command → Trace → Trace
with_command dropped r c trace = with_arrival dropped r c (answer_of c) trace

abbrev pub with_entries : List ℕ → List Entry → Trace → Trace
with_entries dropped [] trace = trace
with_entries dropped (e ∷ es) trace = with_entries dropped es (with_command dropped e.receipt e.command trace)

abbrev pub with_items : List ℕ → ℕ → List Item → Trace → Trace
with_items dropped r [] trace = trace
with_items dropped r (thread.command c ∷ items) trace = with_items dropped (suc r) items (with_command dropped r c trace)
with_items dropped r (thread.sweep kinds m ∷ items) trace = with_items dropped r items (swept kinds m ∷ trace)

-- applies the pending commands, and then the items, in order: no queue, no claims, no superseding
abbrev pub one_thread : History → List Item → List ℕ → Trace
one_thread earlier items dropped = with_items dropped (suc (last_receipt earlier)) items (with_entries dropped (pending_of earlier) (trace_of earlier))
