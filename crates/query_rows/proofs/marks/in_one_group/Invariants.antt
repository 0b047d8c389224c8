use Rattle.std.proofs.Common.{◌≡◌, drop}
use Rattle.query_plan.specs.means_spec.Cells.{same_cells}
use Rattle.query_plan.specs.means_spec.Groups.{key_of}
use Rattle.query_rows.proofs.marks.in_one_group.Given as goal

abbrev pub invariant-loop-column : goal.invariant-loop-column
invariant-loop-column l =
    same_cells (key_of l.entity (drop l.column-index l.columns) l.a) (key_of l.entity (drop l.column-index l.columns) l.b)
    ≡ same_cells (key_of l.entity l.columns l.a) (key_of l.entity l.columns l.b)
