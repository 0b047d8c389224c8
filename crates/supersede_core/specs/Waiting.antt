-- What may be asked of the pending commands, and how one of them changes.
use Rattle.std.specs.Prelude.{◌≡◌, ℕ, suc, ◌+◌, ◌==◌, ◌<◌, List, [], ◌∷◌, ◌++◌, length, Bool, false, not, ◌&&◌, if◌then◌else◌, Option, Some, None}
use Rattle.std.specs.List.{AllByRecursion, flat_map, list_any}
use Rattle.entry_tree.specs.fleet_rows.declared.command.Command.{Command}
use Rattle.entry_tree.specs.core_spec.declared.entry.Entry.{Entry}
use Rattle.entry_tree.specs.core_spec.Commands.{Key}
use Rattle.entry_tree.specs.core_machine.Steps.{marked, failed, at_receipt}

-- receipts rise strictly
abbrev pub Rises : List Entry → Type 0
Rises [] = Unit {0}
Rises (e ∷ es) = AllByRecursion (λ (f : Entry). e.receipt < f.receipt) es × Rises es

-- the entry of this receipt
abbrev pub entry_of : ℕ → List Entry → Option Entry
entry_of r [] = None
entry_of r (e ∷ es) = if r == e.receipt then Some e else entry_of r es

-- the command of this receipt is pending
abbrev pub stands : ℕ → List Entry → Bool
stands r es = list_any (λ (e : Entry). r == e.receipt) es

-- the command of this receipt is pending and not claimed
abbrev pub is_queued : ℕ → List Entry → Bool
is_queued r es = list_any (λ (e : Entry). r == e.receipt && not e.claimed) es

-- the number of commands that aren't claimed
abbrev pub queued_number : List Entry → ℕ
queued_number [] = 0
queued_number (e ∷ es) = (if e.claimed then 0 else 1) + queued_number es

-- the bytes of their payloads
abbrev pub payload_bytes : List Entry → ℕ
payload_bytes [] = 0
payload_bytes (e ∷ es) = length e.command.payload + payload_bytes es

-- each receipt is below n
abbrev pub AreBelow : ℕ → List Entry → Type 0
AreBelow n = AllByRecursion (λ (e : Entry). e.receipt < n)

-- a new entry, which is queued
abbrev pub queued_entry : ℕ → Command → Option Key → ℕ → Entry
queued_entry r c group n = record { receipt = r; command = c; group = group; attempts = n; claimed = false }

-- the entry with one more failure, claimed or queued as before
abbrev pub counted : Entry → Entry
counted e = record { receipt = e.receipt; command = e.command; group = e.group; attempts = suc e.attempts; claimed = e.claimed }

-- ---- two calls in sequence

-- taking the added entry out gives the list before
abbrev pub AddIsUndone : Type 0
AddIsUndone = (es : List Entry) (x : Entry) → AreBelow x.receipt es
    → flat_map (at_receipt x.receipt (λ e. [])) (es ++ x ∷ []) ≡ es

-- counting a failure and then queueing the command again is the step of a failure
abbrev pub FailureIsCounted : Type 0
FailureIsCounted = (r : ℕ) (es : List Entry)
    → flat_map (at_receipt r (λ e. marked false e ∷ [])) (flat_map (at_receipt r (λ e. counted e ∷ [])) es)
    ≡ flat_map (at_receipt r (λ e. failed e ∷ [])) es
