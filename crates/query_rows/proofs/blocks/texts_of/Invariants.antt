use Rattle.std.proofs.Common.{◌≡◌, ◌++◌, map, drop}
use Rattle.pattern_port.specs.Course.{texts_of}
use Rattle.query_plan.specs.means_spec.Cells.{text_in}
use Rattle.query_plan.specs.table_spec.Rows.{Cells}
use Rattle.query_rows.specs.Columns.{text_or_none}
use Rattle.query_rows.specs.Scenes.{seen_cell}
use Rattle.query_rows.proofs.blocks.texts_of.Given as goal

abbrev pub invariant-loop-row : goal.invariant-loop-row
invariant-loop-row l =
    let shown = λ (row : Cells). text_or_none (text_in (seen_cell l.scene l.entity row l.field)) in
    texts_of l.texts.items ++ map shown (drop l.row-index l.rows) ≡ map shown l.rows
