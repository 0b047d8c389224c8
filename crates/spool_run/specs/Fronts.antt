-- How much of a spool has been read.
use Rattle.std.specs.Prelude.{◌≡◌, ℕ, ◌+◌, ◌≤◌, ℤ, List, [], ◌∷◌, ◌++◌, length, Option, Some, None, IfSome}
use Rattle.std.specs.Io.KnownBytes.{Consumes}
use Rattle.fleet_hub.specs.history_spec.Thread.{Item}
use Rattle.program_words.specs.spool_spec.Spool.{End, IsItemText, BeginsWithItem, SpoolOf}
use Rattle.program_words.specs.spool_spec.Limits.{most_spool}
use Rattle.spool_text.specs.Next.{IsOpen}

-- the items are a prefix of the spool's items
abbrev pub AreInFront : ℤ → List Item → List ℕ → Type 0
AreInFront now items bytes = (more : List Item) × (end : End) × SpoolOf now bytes (items ++ more) end

-- this item comes next after these
abbrev pub ComesNext : ℤ → Option (List ℕ) → List Item → Item → Type 0
ComesNext now bytes items item = IfSome bytes (AreInFront now (items ++ item ∷ []))

-- the bytes from offset p on are these items, and from offset q on the rest
abbrev pub StandFrom : ℤ → ℕ → List ℕ → List Item → ℕ → List ℕ → Type 0
StandFrom now p bytes [] q rest = (p ≡ q) × (bytes ≡ rest)
StandFrom now p bytes (item ∷ items) q rest =
    (text : List ℕ) × (behind : List ℕ) × IsItemText now item text × (bytes ≡ text ++ behind)
    × (p + length text ≤ most_spool) × StandFrom now (p + length text) behind items q rest

-- the same for bytes that a source tells
abbrev pub IsReadTo : ℤ → Option (List ℕ) → List Item → ℕ → Option (List ℕ) → Type 0
IsReadTo now None items q rest = Unit {0}
IsReadTo now (Some bytes) items q None = ⊥
IsReadTo now (Some bytes) items q (Some rest) = StandFrom now 0 bytes items q rest

-- The items are those of the bytes that were read, which `rest` follows. Behind them no further item stood whole, and no malformed
-- first line.
abbrev pub WereRead : ℤ → Option (List ℕ) → Option (List ℕ) → List Item → Type 0
WereRead now bytes rest items =
    IfSome bytes (λ all. (front : List ℕ) × Consumes (Some all) rest front
    × (q : ℕ) × (part : List ℕ) × StandFrom now 0 front items q part × (¬ BeginsWithItem now q part) × IsOpen now q part)
