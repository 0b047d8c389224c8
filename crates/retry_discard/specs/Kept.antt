-- The discarded commands as contracts see them.
use Rattle.std.specs.Prelude.{◌≡◌, ℕ, zero, suc, ◌==◌, ◌<◌, ◌≤◌, List, [], ◌∷◌, if◌then◌else◌, Option, Some, None, nat_lt}
use Rattle.std.specs.List.{AllByRecursion}
use Rattle.core_spec.specs.declared.dead.Dead.{Dead}

-- what contracts see of `Discards`: the commands by receipt, and the room for more
pub record DiscardsView : Type 0 where
  pub list : List Dead
  pub room : ℕ

-- the command of a receipt
abbrev pub dead_at : ℕ → List Dead → Option Dead
dead_at r [] = None
dead_at r (d ∷ ds) = if r == d.receipt then Some d else dead_at r ds

-- receipts don't fall
abbrev pub AreInOrder : List Dead → Type 0
AreInOrder [] = Unit {0}
AreInOrder (d ∷ ds) = AllByRecursion (λ (x : Dead). d.receipt ≤ x.receipt) ds × AreInOrder ds

-- the first index whose receipt is above this one, or the length
abbrev pub place_behind : ℕ → List Dead → ℕ
place_behind r [] = 0
place_behind r (d ∷ ds) = if nat_lt r d.receipt then 0 else suc (place_behind r ds)

-- the first index whose receipt is at least r, or the length
abbrev pub IsFirstFrom : ℕ → List Dead → ℕ → Type 0
IsFirstFrom r [] at = at ≡ 0
IsFirstFrom r (d ∷ ds) zero = r ≤ d.receipt
IsFirstFrom r (d ∷ ds) (suc at) = (d.receipt < r) × IsFirstFrom r ds at
