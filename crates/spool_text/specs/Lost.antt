-- The bytes that may be lost when a call returns no item.
use Rattle.std.specs.Prelude.{ℕ, ◌≤◌, List, length, Option}
use Rattle.std.specs.Io.KnownBytes.{Consumes}

-- the most bytes of an item: 201 of the first line with its line feed, 16 MiB of payload and a line feed
abbrev pub most_item : ℕ
most_item = 16_777_418

-- a prefix of at most this many bytes was lost
abbrev pub LosesUpTo : ℕ → Option (List ℕ) → Option (List ℕ) → Type 0
LosesUpTo most old new = (lost : List ℕ) × Consumes old new lost × (length lost ≤ most)
