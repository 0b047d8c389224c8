-- Sums while they are added up.
use Rattle.std.specs.Prelude.{◌≡◌, ℤ, pos, ◌+ℤ◌, List, [], ◌∷◌, true, false, Option, Some, None, unwrap_or}
use Rattle.same_text.specs.text_spec.Json.{null, number}
use Rattle.fleet_tables.specs.fleet_rows.Cell.{CellValue, plain}
use Rattle.query_plan.specs.means_spec.Groups.{scaled_text}
use Rattle.query_plan.specs.means_spec.Sums.{fits, is_too_large}
use Rattle.level_answers.specs.declared.sums.Sum.{Sum}
use Rattle.level_answers.specs.declared.sums.Sum.TheVariants.{TooLarge, Of}

-- the sum so far, 0 at first
abbrev pub so_far : Option ℤ → ℤ
so_far total = unwrap_or total (pos 0)

-- the sum with one more number, or none if it overflows 128 bits
abbrev pub IsAdded : Option ℤ → Option ℤ → ℤ → Type 0
IsAdded None total m = fits (so_far total +ℤ m) ≡ false
IsAdded (Some sum) total m = (fits (so_far total +ℤ m) ≡ true) × (sum ≡ so_far total +ℤ m)

-- the sum after all these numbers
abbrev pub sum_behind : Option ℤ → List ℤ → Option ℤ
sum_behind total [] = total
sum_behind total (m ∷ ms) = sum_behind (Some (so_far total +ℤ m)) ms

abbrev pub IsSum : Sum → List ℤ → Type 0
IsSum TooLarge ms = is_too_large (pos 0) ms ≡ true
IsSum (Of sum) ms = (is_too_large (pos 0) ms ≡ false) × (sum ≡ sum_behind None ms)

abbrev pub sum_cell : Option ℤ → CellValue
sum_cell None = plain null
sum_cell (Some m) = plain (number (scaled_text m))
