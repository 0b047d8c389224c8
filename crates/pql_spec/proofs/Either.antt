-- Whether a number is one of two, told by the test.
use Rattle.std.proofs.Common.{◌≡◌, ◌∙◌, ◌⊎◌, inl, inr, ℕ, Bool, true, false, ◌||◌, ◌==◌, ap}
use Rattle.query_spec.proofs.of_plain_laws.Booleans.{eq_true, eq_not, or_right, both_ways}

pub is_either : (a b c : ℕ) → (a ≡ b) ⊎ (a ≡ c) → ((a == b) || (a == c)) ≡ true
is_either a b c (inl e) = ap (λ x. x || (a == c)) (eq_true a b e)
is_either a b c (inr e) = or_right (a == b) (a == c) (eq_true a c e)

pub is_neither : (a b c : ℕ) → ¬ (a ≡ b) → ¬ (a ≡ c) → ((a == b) || (a == c)) ≡ false
is_neither a b c h g = ap (λ x. x || (a == c)) (eq_not a b h) ∙ eq_not a c g

pub neither_is : (a b c : ℕ) → ((a == b) || (a == c)) ≡ false → ¬ (a ≡ b) × ¬ (a ≡ c)
neither_is a b c h = ((λ e. both_ways ((a == b) || (a == c)) (is_either a b c (inl e)) h), (λ e. both_ways ((a == b) || (a == c)) (is_either a b c (inr e)) h))
