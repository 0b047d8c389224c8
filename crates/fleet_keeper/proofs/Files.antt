-- The two disks of a pair, by the file that a call writes.
use Rattle.std.proofs.Common.{◌≡◌, ℕ, List, subst}
use Rattle.log_pair.specs.log_spec.declared.side.Side.{Side}
use Rattle.log_pair.specs.log_spec.declared.side.Side.TheVariants.{A, B}
use Rattle.log_pair.specs.declared.pair.Pair.{Pair}
use Rattle.log_pair.specs.Pair.{disk_a, disk_b, Within}

module _ {D : Type 0} (may_leave : D → List ℕ → Type 0) (moment : D → ℕ) (left_since : D → ℕ → List ℕ → Type 0) (only_now : (d : D) (c : List ℕ) → left_since d (moment d) c → may_leave d c) where
  still : (old new : D) (c : List ℕ) → new ≡ old → left_since new (moment old) c → may_leave old c
  still old new c same left = only_now old c (subst (λ (d : D). left_since d (moment old) c) same left)

  -- what a call leaves of both files at every moment within
  pub within_told : (written : Side) (old new : Pair D) (P : List ℕ → List ℕ → Type 0) → Within may_leave moment left_since written old new P
      → (a b : List ℕ) → left_since (disk_a new) (moment (disk_a old)) a → left_since (disk_b new) (moment (disk_b old)) b → P a b
  within_told A old new P within a b is_a is_b = within.moments.each a is_a b (still (disk_b old) (disk_b new) b within.untouched is_b)
  within_told B old new P within a b is_a is_b = within.moments.each b is_b a (still (disk_a old) (disk_a new) a within.untouched is_a)
