use Rattle.std.proofs.Common.{◌≡◌, ◌++◌, drop}
use Rattle.query_plan.specs.means_spec.Groups.{key_of}
use Rattle.query_rows.specs.Marked.{key_text}
use Rattle.query_rows.proofs.marks.text_of.Given as goal

abbrev pub invariant-loop-column : goal.invariant-loop-column
invariant-loop-column l = l.text.items ++ key_text (key_of l.entity (drop l.column-index l.columns) l.row) ≡ key_text (key_of l.entity l.columns l.row)
