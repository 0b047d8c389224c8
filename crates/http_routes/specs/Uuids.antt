-- The bytes of a receipt's UUID.
use Rattle.std.specs.Prelude.{ℕ, List, [], ◌∷◌}
use Rattle.std.specs.Int.{byte_at}

-- the receipt's first four bytes, eight bytes of version 8 (RFC 9562, section 5.8), and the receipt's last four bytes
abbrev pub uuid_bytes : ℕ → List ℕ
uuid_bytes r =
    byte_at 7 r ∷ byte_at 6 r ∷ byte_at 5 r ∷ byte_at 4 r ∷ 0 ∷ 0 ∷ 128 ∷ 0 ∷ 128 ∷ 0 ∷ 0 ∷ 0
    ∷ byte_at 3 r ∷ byte_at 2 r ∷ byte_at 1 r ∷ byte_at 0 r ∷ []
