-- What contracts see of the reader of a link.
use Rattle.std.specs.Prelude.{ℕ, Bool, List, refl}
use Rattle.std.specs.Coded.{Coded, code_by, coded×, coded_ℕ, coded_bool, coded_list}

-- the bytes read ahead that no request has used, the number of bytes read from the link, and whether the link is over
pub record Reading : Type 0 where
  pub ahead : List ℕ
  pub taken : ℕ
  pub over : Bool

-- its encoding: the tuple of its fields
abbrev pub reading_code : Coded Reading
reading_code =
    code_by (List ℕ × (ℕ × Bool)) (coded× (coded_list coded_ℕ) (coded× coded_ℕ coded_bool)) (λ r. (r.ahead, (r.taken, r.over))) (λ p. record { ahead = p.0; taken = p.1.0; over = p.1.1 }) (λ _. refl)
