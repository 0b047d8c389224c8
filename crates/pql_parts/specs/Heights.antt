-- Heights of filters, capped at 101.
use Rattle.std.specs.Prelude.{ℕ, suc, List, [], ◌∷◌, ◌==◌, length, min, max, Bool, true, false, if◌then◌else◌}
use Rattle.query_spec.specs.Query.{Filter}

abbrev pub capped : ℕ → ℕ
capped n = min n 101

-- ---- the same on capped heights

abbrev pub deeper : ℕ → ℕ
deeper n = min (suc n) 101

abbrev pub joined : Bool → ℕ → ℕ → ℕ
joined others tallest last = if others then deeper (max tallest last) else last

abbrev pub is_empty : List Filter → Bool
is_empty [] = true
is_empty (f ∷ fs) = false

-- the height of joined filters; a single filter is itself
abbrev pub joined_height : List Filter → ℕ → ℕ
joined_height (f ∷ []) tallest = tallest
joined_height _ tallest = deeper tallest
