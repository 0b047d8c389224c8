use Rattle.std.proofs.Common.{◌≡◌, [], ◌∷◌, ℕ, List, true, ◌||◌, drop}
use Rattle.std.specs.List.{list_any}
use Rattle.query_plan.specs.means_spec.Cells.{equal_cells}
use Rattle.query_plan.specs.table_spec.Cells.{text_cell}
use Rattle.query_reach.specs.Seen.{texts_seen}
use Rattle.query_reading.specs.Joins.{is_among}
use Rattle.query_reading.proofs.joins.by_cell.Given as goal

abbrev pub invariant-noting : goal.invariant-noting
invariant-noting l =
    (s : List ℕ) → list_any (equal_cells (text_cell s ∷ [])) l.rows ≡ true
    → (is_among (texts_seen l.nodes.items) s || list_any (equal_cells (text_cell s ∷ [])) (drop l.row-index l.rows)) ≡ true
