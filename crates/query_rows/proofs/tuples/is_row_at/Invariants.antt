use Rattle.std.proofs.Common.{◌≡◌, drop, map}
use Rattle.std.specs.List.{list_any}
use Rattle.query_plan.specs.means_spec.Cells.{same_cells}
use Rattle.query_rows.specs.Indexed.{passes_at}
use Rattle.query_rows.specs.Scenes.{seen_cell}
use Rattle.query_rows.proofs.tuples.is_row_at.Given as goal

abbrev pub invariant-loop-place : goal.invariant-loop-place
invariant-loop-place l =
    let test = passes_at (same_cells (map (seen_cell l.scene l.entity l.row) l.fields)) l.rows in
    list_any test (drop l.place-index l.places) ≡ list_any test l.places
