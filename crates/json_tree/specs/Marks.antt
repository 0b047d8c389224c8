-- Marks of keys: small hashes that tell most distinct keys apart.
use Rattle.std.specs.Prelude.{ℕ, ◌+◌, ◌*◌, ◌%◌, List, [], ◌∷◌, length, slice_index}

abbrev pub mark_from : ℕ → List ℕ → ℕ
mark_from m [] = m
mark_from m (b ∷ bs) = mark_from ((m * 31 + b) % 2048) bs

abbrev pub mark_of : List ℕ → ℕ
mark_of key = mark_from 0 key

-- a mark from the key's length, its first byte and its last byte
abbrev pub ends_mark : List ℕ → ℕ
ends_mark [] = 0
ends_mark (b ∷ bs) = (length bs % 64 * 7 + (b * 13 + slice_index (b ∷ bs) (length bs) * 17)) % 64
