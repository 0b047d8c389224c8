-- What may be asked of pending entries sorted by receipt.
use Rattle.std.specs.Prelude.{ℕ, suc, ◌+◌, ◌-◌, ◌^◌, ◌==◌, ◌<◌, List, [], ◌∷◌, ◌++◌, length, if◌then◌else◌, Option, Some, None}
use Rattle.std.specs.List.{AllByRecursion}
use Rattle.core_machine.specs.core_spec.declared.entry.Entry.{Entry}
use Rattle.core_machine.specs.Steps.{marked}
use Rattle.entry_tree.specs.declared.waiting.Change.{Change}
use Rattle.entry_tree.specs.declared.waiting.Change.TheVariants.{Claimed, Failed, Candidate}
use Rattle.entry_tree.specs.declared.waiting.Waiting.{Waiting}

-- receipts rise strictly
abbrev pub Rises : List Waiting → Type 0
Rises [] = Unit {0}
Rises (w ∷ ws) = AllByRecursion (λ (v : Waiting). w.entry.receipt < v.entry.receipt) ws × Rises ws

-- the number of candidates
abbrev pub candidate_number : List Waiting → ℕ
candidate_number [] = 0
candidate_number (w ∷ ws) = (if w.candidate then 1 else 0) + candidate_number ws

-- the number of entries that aren't claimed
abbrev pub unclaimed_number : List Waiting → ℕ
unclaimed_number [] = 0
unclaimed_number (w ∷ ws) = (if w.entry.claimed then 0 else 1) + unclaimed_number ws

-- the bytes of the payloads
abbrev pub bytes_in : List Waiting → ℕ
bytes_in [] = 0
bytes_in (w ∷ ws) = length w.entry.command.payload + bytes_in ws

-- the receipt of the first candidate
abbrev pub first_marked : List Waiting → Option ℕ
first_marked [] = None
first_marked (w ∷ ws) = if w.candidate then Some w.entry.receipt else first_marked ws

-- the entry of this receipt
abbrev pub found : ℕ → List Waiting → Option Waiting
found r [] = None
found r (w ∷ ws) = if r == w.entry.receipt then Some w else found r ws

-- replaces the entry of this receipt, and keeps the others
abbrev pub edited : ℕ → (Waiting → List Waiting) → List Waiting → List Waiting
edited r f [] = []
edited r f (w ∷ ws) = (if r == w.entry.receipt then f w else w ∷ []) ++ edited r f ws

abbrev pub MayChange : Change → Waiting → Type 0
MayChange (Claimed b) w = Unit {0}
MayChange Failed w = w.entry.attempts < 2 ^ 32 - 1
MayChange (Candidate b) w = Unit {0}

-- the entry with one more failure
abbrev pub failed_once : Entry → Entry
failed_once e = record { receipt = e.receipt; command = e.command; group = e.group; attempts = suc e.attempts; claimed = e.claimed }

abbrev pub changed_by : Change → Waiting → Waiting
changed_by (Claimed b) w = record { entry = marked b w.entry; key = w.key; candidate = w.candidate }
changed_by Failed w = record { entry = failed_once w.entry; key = w.key; candidate = w.candidate }
changed_by (Candidate b) w = record { entry = w.entry; key = w.key; candidate = b }
