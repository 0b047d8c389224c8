-- Hashes as digits.
use Rattle.std.specs.Prelude.{◌≡◌, ℕ, List, length}
use Rattle.hex.specs.Hex.{IsBytes, encode_lower}

-- the digits of 20 bytes
abbrev pub IsHash : List ℕ → Type 0
IsHash digits = (bytes : List ℕ) × IsBytes bytes × (length bytes ≡ 20) × (digits ≡ encode_lower bytes)
