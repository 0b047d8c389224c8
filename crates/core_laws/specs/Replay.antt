-- The replay of the logs: what each record tells, in the order in which the records were written.
use Rattle.std.specs.Prelude.{ℕ, suc, ◌==◌, List, [], ◌∷◌, ◌++◌, flat_map, nat_lt, false, if◌then◌else◌, None}
use Rattle.core_machine.specs.fleet_rows.declared.command.Command.{Command}
use Rattle.core_machine.specs.fleet_rows.declared.refusal.Cause.{Cause}
use Rattle.core_machine.specs.fleet_rows.declared.refusal.Cause.TheVariants.{Refused, Failures}
use Rattle.core_machine.specs.history_spec.Trace.{applied, applied_as, swept, Trace}
use Rattle.core_machine.specs.record_spec.declared.queue.QueueRecord.{QueueRecord}
use Rattle.core_machine.specs.record_spec.declared.queue.QueueRecord.TheVariants as queue
use Rattle.core_machine.specs.record_spec.declared.store.StoreRecord.{StoreRecord}
use Rattle.core_machine.specs.record_spec.declared.store.StoreRecord.TheVariants as store
use Rattle.core_machine.specs.core_spec.declared.dead.Dead.{Dead}
use Rattle.core_machine.specs.core_spec.declared.entry.Entry.{Entry}
use Rattle.core_machine.specs.core_spec.Commands.{key_of}
use Rattle.core_machine.specs.core_spec.Discards.{put_dead}
use Rattle.core_machine.specs.Steps.{marked, failed, at_receipt, new_entry}

-- ---- the pending commands

-- the entry, queued again, if the store failed at it fewer than sixteen times
abbrev pub if_few : Entry → List Entry
if_few e = if nat_lt e.attempts 16 then marked false e ∷ [] else []

abbrev pub held_entry : ℕ → ℕ → Command → Entry
held_entry r n c = record { receipt = r; command = c; group = key_of c; attempts = n; claimed = false }

-- what a record does to the pending commands
abbrev pub pending_by : QueueRecord → List Entry → List Entry
pending_by (queue.Base last) es = es
pending_by (queue.Held r n c) es = es ++ if_few (held_entry r n c)
pending_by (queue.Dead r c why) es = es
pending_by (queue.Submit r c) es = es ++ new_entry r c ∷ []
pending_by (queue.Done r) es = flat_map (at_receipt r (λ e. [])) es
pending_by (queue.Superseded r p) es = flat_map (at_receipt r (λ e. [])) es
pending_by (queue.Refused r refusal) es = flat_map (at_receipt r (λ e. [])) es
pending_by (queue.Fail r before after) es = flat_map (at_receipt r (λ e. if_few (failed e))) es

abbrev pub pending_after : List QueueRecord → List Entry → List Entry
pending_after [] es = es
pending_after (x ∷ xs) es = pending_after xs (pending_by x es)

-- ---- the commands that were discarded

-- applies `put` to the pending entry of the receipt, if there is one
abbrev pub at_entry : ℕ → (Entry → List Dead → List Dead) → List Entry → List Dead → List Dead
at_entry r put [] ds = ds
at_entry r put (e ∷ es) ds = if r == e.receipt then put e ds else at_entry r put es ds

abbrev pub given_up : Cause → Entry → List Dead → List Dead
given_up cause e ds = put_dead (record { receipt = e.receipt; command = e.command; cause = cause }) ds

-- a sixteenth failure discards the command
abbrev pub if_worn_out : Entry → List Dead → List Dead
if_worn_out e ds = if nat_lt (suc e.attempts) 16 then ds else given_up Failures e ds

-- what a record does to the discarded commands, given the pending ones
abbrev pub dead_by : QueueRecord → List Entry → List Dead → List Dead
dead_by (queue.Base last) es ds = ds
dead_by (queue.Held r n c) es ds = ds
dead_by (queue.Dead r c why) es ds = put_dead (record { receipt = r; command = c; cause = why }) ds
dead_by (queue.Submit r c) es ds = ds
dead_by (queue.Done r) es ds = ds
dead_by (queue.Superseded r p) es ds = ds
dead_by (queue.Refused r refusal) es ds = at_entry r (given_up (Refused refusal)) es ds
dead_by (queue.Fail r before after) es ds = at_entry r if_worn_out es ds

abbrev pub dead_after : List QueueRecord → List Entry → List Dead → List Dead
dead_after [] es ds = ds
dead_after (x ∷ xs) es ds = dead_after xs (pending_by x es) (dead_by x es ds)

-- ---- the last receipt

abbrev pub last_by : QueueRecord → ℕ → ℕ
last_by (queue.Base last) n = last
last_by (queue.Submit r c) n = r
last_by _ n = n

abbrev pub last_after : List QueueRecord → ℕ → ℕ
last_after [] n = n
last_after (x ∷ xs) n = last_after xs (last_by x n)

-- ---- what was applied and swept

abbrev pub trace_by : StoreRecord → Trace → Trace
trace_by (store.Applied r change) trace = applied (applied_as r None change) ∷ trace
trace_by (store.Received r t change) trace = applied (applied_as r t change) ∷ trace
trace_by (store.Swept kinds m) trace = swept kinds m ∷ trace
trace_by _ trace = trace

abbrev pub trace_after : List StoreRecord → Trace → Trace
trace_after [] trace = trace
trace_after (x ∷ xs) trace = trace_after xs (trace_by x trace)
