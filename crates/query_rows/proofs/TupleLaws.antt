-- A tuple is that of a row only where none of its cells is null.
use Rattle.std.proofs.Common.{◌≡◌, List, [], ◌∷◌, Bool, true, false, not, ◌&&◌, ◌||◌, refl, ap}
use Rattle.std.specs.List.{list_any}
use Rattle.fleet_tables.specs.fleet_rows.Cell.{CellValue}
use Rattle.query_plan.specs.means_spec.Cells.{is_null_cell, same_cells, equal_cells}

both-any : (b : Bool) (xs : List CellValue) (rows : List (List CellValue)) → list_any (λ ys. not b && same_cells xs ys) rows ≡ not b && list_any (same_cells xs) rows
both-any true xs [] = refl
both-any true xs (r ∷ rows) = both-any true xs rows
both-any false xs [] = refl
both-any false xs (r ∷ rows) = ap (λ c. same_cells xs r || c) (both-any false xs rows)

pub told_among : (xs : List CellValue) (rows : List (List CellValue)) → list_any (equal_cells xs) rows ≡ not (list_any is_null_cell xs) && list_any (same_cells xs) rows
told_among xs rows = both-any (list_any is_null_cell xs) xs rows
