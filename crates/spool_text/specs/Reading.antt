-- The state of a spool reader, as contracts see it.
use Rattle.std.specs.Prelude.{ℕ, List, refl}
use Rattle.std.specs.Coded.{Coded, code_by, coded×, coded_ℕ, coded_list}

-- the bytes read ahead, and the number of bytes of the items returned so far
pub record Reading : Type 0 where
  pub ahead : List ℕ
  pub given : ℕ

-- the reading together with the source that it owns
pub record Owned (S : Type 0) : Type 0 where
  pub reading : Reading
  pub source : S

-- both records are stored as the tuple of their fields
abbrev pub reading_code : Coded Reading
reading_code =
    code_by (List ℕ × ℕ) (coded× (coded_list coded_ℕ) coded_ℕ) (λ r. (r.ahead, r.given)) (λ p. record { ahead = p.0; given = p.1 }) (λ _. refl)

abbrev pub owned_code : {S : Type 0} → Coded S → Coded (Owned S)
owned_code {S} code =
    code_by (Reading × S) (coded× reading_code code) (λ o. (o.reading, o.source)) (λ p. record { reading = p.0; source = p.1 }) (λ _. refl)
