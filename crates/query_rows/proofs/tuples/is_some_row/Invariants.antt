use Rattle.std.proofs.Common.{◌≡◌, drop, map}
use Rattle.std.specs.List.{list_any}
use Rattle.query_plan.specs.means_spec.Cells.{same_cells}
use Rattle.query_rows.specs.Scenes.{seen_cell}
use Rattle.query_rows.proofs.tuples.is_some_row.Given as goal

abbrev pub invariant-loop-other : goal.invariant-loop-other
invariant-loop-other l = list_any (same_cells (map (seen_cell l.scene l.entity l.row) l.fields)) (drop l.other-index l.rows) ≡ list_any (same_cells (map (seen_cell l.scene l.entity l.row) l.fields)) l.rows
