-- The summary, and how a run ends.
use Rattle.std.specs.Prelude.{◌≡◌, ℕ, ◌≤◌, List, [], ◌∷◌, ◌++◌, codes, decimal}
use Rattle.std.specs.Io.KnownBytes.{Appends}
use Rattle.spool_text.specs.fleet_ports.Counts.{Rose}
use Rattle.fleet_hub.specs.core_state.declared.tally.Tally.{Tally}
use Rattle.calm_commands.specs.declared.status.Status.{Status}
use Rattle.calm_commands.specs.declared.status.Status.TheVariants as status
use Rattle.calm_commands.specs.Told.{Stream, AppendsLess}
use Rattle.spool_run.specs.declared.ends.SpoolEnd.{SpoolEnd}
use Rattle.spool_run.specs.declared.ends.SpoolEnd.TheVariants as end

abbrev pub summary_line : List ℕ → ℕ → List ℕ
summary_line word number = word ++ (decimal number ++ 10 ∷ [])

-- four lines: how many commands came in, and how many ended in each way
abbrev pub summary_text : Tally → List ℕ
summary_text t =
    summary_line (codes "received ") t.received ++ (summary_line (codes "applied ") t.applied
    ++ (summary_line (codes "superseded ") t.superseded ++ summary_line (codes "discarded ") t.discarded))

-- The text was printed, and the wanted status is answered. Or less than all was printed, at a fault; or nothing, without memory.
pub data Printed (text : List ℕ) (wanted : Status) (before after : Stream) (answer : Status) : Type 0 where
  whole : answer ≡ wanted → Appends before.bytes after.bytes text → after.faults ≡ before.faults → Printed text wanted before after answer
  faulty : answer ≡ status.WriteFault → AppendsLess text before.bytes after.bytes → before.faults ≤ after.faults → Rose before.faults after.faults → Printed text wanted before after answer
  starved : answer ≡ status.Memory → after ≡ before → Printed text wanted before after answer

-- nothing was printed
abbrev pub PrintedNothing : Status → Stream → Stream → Status → Type 0
PrintedNothing wanted before after answer = (answer ≡ wanted) × (after ≡ before)

-- what is answered and printed when taking a spool ends
abbrev pub Closes : SpoolEnd → List ℕ → Stream → Stream → Status → Type 0
Closes end.Done text = Printed text status.Done
Closes (end.Bad at) text = Printed text (status.SpoolBad at)
Closes end.ReadFault text = PrintedNothing status.ReadFault
Closes end.QueueFault text = PrintedNothing status.QueueFault
Closes end.StoreDown text = PrintedNothing status.StoreDown
Closes end.StoreFault text = PrintedNothing status.StoreFault
Closes end.Spent text = PrintedNothing status.Spent
Closes end.Memory text = PrintedNothing status.Memory
