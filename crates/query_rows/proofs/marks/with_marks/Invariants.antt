use Rattle.std.proofs.Common.{◌≡◌, ◌++◌, drop}
use Rattle.query_plan.specs.means_spec.Groups.{key_of}
use Rattle.query_rows.specs.Marked.{HaveNumbers, rows_marked}
use Rattle.query_rows.proofs.marks.with_marks.Given as goal

abbrev pub invariant-loop-row : goal.invariant-loop-row
invariant-loop-row l =
    record {
      rows : rows_marked l.all.items ++ drop l.row-index l.rows ≡ l.rows;
      numbers : HaveNumbers (key_of l.entity l.columns) l.texts l.all.items;
      firsts : HaveNumbers (key_of l.entity l.columns) l.texts l.firsts.items;
    }
