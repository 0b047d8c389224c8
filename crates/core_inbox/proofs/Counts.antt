-- The counts of two disks: as one, which stands still at its last value, and together, while neither stands at its own.
use Rattle.std.proofs.Common.{◌≡◌, ◌⊎◌, inl, inr, ℕ, ◌+◌, ◌-◌, ◌^◌, ◌<◌, ◌≤◌, min, arith}
use Rattle.std.proofs.lemmas.Bool.{cases_lt}
use Rattle.core_ends.specs.fleet_ports.Counts.{Rose}
use Rattle.core_ends.specs.log_pair.Open.{PairCounts}

both_later : (m a b c d : ℕ) → a ≤ c → b ≤ d → min (a + b) m ≤ min (c + d) m
both_later m a b c d first second = first_of (omega arith, grind arith)

first_rose : (m a b c d : ℕ) → b ≤ d → min (a + 1) m ≤ c → min (min (a + b) m + 1) m ≤ min (c + d) m
first_rose m a b c d second rose = first_of (omega arith, grind arith)

second_rose : (m a b c d : ℕ) → a ≤ c → min (b + 1) m ≤ d → min (min (a + b) m + 1) m ≤ min (c + d) m
second_rose m a b c d first rose = first_of (omega arith, grind arith)

least_later : (m a b c : ℕ) → a ≤ b → min (b + 1) m ≤ c → min (a + 1) m ≤ c
least_later m a b c before rose = first_of (omega arith, grind arith)

least_before : (m a b c : ℕ) → min (a + 1) m ≤ b → b ≤ c → min (a + 1) m ≤ c
least_before m a b c rose later = omega arith

pub rose_later : (a b c : ℕ) → a ≤ b → Rose b c → Rose a c
rose_later a b c before rose = least_later (2 ^ 64 - 1) a b c before rose

pub rose_before : (a b c : ℕ) → Rose a b → b ≤ c → Rose a c
rose_before a b c rose later = least_before (2 ^ 64 - 1) a b c rose later

-- ---- together

-- both rose by n together, or one stands at its last value
abbrev BothRose : ℕ → ℕ → ℕ → ℕ → ℕ → ℕ → Type 0
BothRose m n a c b d = (a + b + n ≤ c + d) ⊎ (m ≤ c) ⊎ (m ≤ d)

more_or_last : (m a c : ℕ) → min (a + 1) m ≤ c → (a + 1 ≤ c) ⊎ (m ≤ c)
more_or_last m a c rose = elim (cases_lt a m) [
  | inl under ↦ inl (first_of (omega (arith, rose, under), grind (arith, rose, under)))
  | inr over ↦ inr (first_of (omega (arith, rose, over), grind (arith, rose, over)))
]

pub both_none : (m a c b d : ℕ) → a ≤ c → b ≤ d → BothRose m 0 a c b d
both_none m a c b d later_a later_b = inl (omega arith)

pub both_rose : (m a c b d : ℕ) → a ≤ c → b ≤ d → (min (a + 1) m ≤ c) ⊎ (min (b + 1) m ≤ d) → BothRose m 1 a c b d
both_rose m a c b d later_a later_b (inl first) = elim (more_or_last m a c first) [
  | inl more ↦ inl (omega (arith, more, later_b))
  | inr last ↦ inr (inl last)
]
both_rose m a c b d later_a later_b (inr second) = elim (more_or_last m b d second) [
  | inl more ↦ inl (omega (arith, more, later_a))
  | inr last ↦ inr (inr last)
]

-- by n and then by k more
pub both_on : (m n k a c e b d f : ℕ) → c ≤ e → d ≤ f → BothRose m n a c b d → BothRose m k c e d f → BothRose m (n + k) a e b f
both_on m n k a c e b d f later_a later_b (inl first) (inl second) = inl (omega (arith, first, second))
both_on m n k a c e b d f later_a later_b (inl first) (inr last) = inr last
both_on m n k a c e b d f later_a later_b (inr (inl last)) second = inr (inl (omega (arith, last, later_a)))
both_on m n k a c e b d f later_a later_b (inr (inr last)) second = inr (inr (omega (arith, last, later_b)))

-- ---- as one

module _ {Fault : Type 0} (a c b d : ℕ) (counts : PairCounts a c b d Fault) where
  pub sum_later : min (a + b) (2 ^ 64 - 1) ≤ min (c + d) (2 ^ 64 - 1)
  sum_later = both_later (2 ^ 64 - 1) a b c d counts.later_a counts.later_b

  pub sum_rose : Fault → Rose (min (a + b) (2 ^ 64 - 1)) (min (c + d) (2 ^ 64 - 1))
  sum_rose fault = elim (counts.cause fault) [
    | inl first ↦ first_rose (2 ^ 64 - 1) a b c d counts.later_b first
    | inr second ↦ second_rose (2 ^ 64 - 1) a b c d counts.later_a second
  ]

  pub sum_calm : (Fault → ⊥) → min (c + d) (2 ^ 64 - 1) ≡ min (a + b) (2 ^ 64 - 1)
  sum_calm none = let same = counts.calm none in λ i. min (same.0 i + same.1 i) (2 ^ 64 - 1)
