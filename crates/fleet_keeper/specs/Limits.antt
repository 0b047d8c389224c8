-- The limits of a log of records. Sizes are in bytes.
use Rattle.std.specs.Prelude.{◌≡◌, ◌⊎◌, ℕ, ◌+◌, ◌-◌, ◌^◌, ◌<◌, ◌≤◌, List, length}
use Rattle.log_pair.specs.record_log.Lay.{IsTooLong}
use Rattle.log_pair.specs.log_spec.Limits.{most_log}

-- the spelling is too long for a frame, or the log of this size would exceed 2^62 bytes with it
abbrev pub IsPast : ℕ → List ℕ → Type 0
IsPast size text = (2 ^ 32 ≤ length text) ⊎ (most_log < size + 5 + length text)

-- no generation is left, or a spelling is too long for a frame, or the log of these spellings would exceed 2^62 bytes
abbrev pub ArePast : ℕ → List (List ℕ) → Type 0
ArePast generation texts = (generation ≡ 2 ^ 64 - 1) ⊎ IsTooLong texts
