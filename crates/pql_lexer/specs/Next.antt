-- The token that bytes begin with.
use Rattle.std.specs.Prelude.{◌≡◌, ◌<◌, ◌≤◌, ℕ, List, ◌++◌, length, take, drop, Option, Some, None}
use Rattle.pql_spec.specs.declared.token.Token.{Token}
use Rattle.pql_spec.specs.Tokens.{Spells}
use Rattle.pql_spec.specs.Texts.{IsLongest}

-- the first m bytes spell token number n, and no longer prefix spells a token
pub record IsNext (n : ℕ) (bytes : List ℕ) (t : Token) (m : ℕ) : Type 0 where
  pub some : 0 < m
  pub within : m ≤ length bytes
  pub longest : IsLongest n (take m bytes) t (drop m bytes)

abbrev pub NoToken : ℕ → List ℕ → Type 0
NoToken n bytes = (front rest : List ℕ) (t : Token) → Spells n front t → bytes ≡ front ++ rest → ⊥

-- the bytes begin with this token of this length, or with no token
abbrev pub BeginsWith : ℕ → List ℕ → Option (Token × ℕ) → Type 0
BeginsWith n bytes None = NoToken n bytes
BeginsWith n bytes (Some r) = IsNext n bytes r.0 r.1
