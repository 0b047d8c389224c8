use Rattle.std.proofs.Common.{◌≡◌, drop, map}
use Rattle.std.specs.List.{list_any}
use Rattle.query_plan.specs.means_spec.Cells.{is_null_cell}
use Rattle.query_rows.specs.Scenes.{seen_cell}
use Rattle.query_rows.proofs.tuples.has_null.Given as goal

abbrev pub invariant-loop-field : goal.invariant-loop-field
invariant-loop-field l = list_any is_null_cell (map (seen_cell l.scene l.entity l.row) (drop l.field-index l.fields)) ≡ list_any is_null_cell (map (seen_cell l.scene l.entity l.row) l.fields)
