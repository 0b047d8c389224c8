use Rattle.std.proofs.Common.{map}
use Rattle.query_plan.specs.means_spec.Shown.{column_cell}
use Rattle.query_plan.specs.table_spec.Rows.{Cells}
use Rattle.query_rows.specs.Referred.{selected_of}
use Rattle.query_rows.proofs.Filters.{mapped_on}
use Rattle.level_answers.proofs.shown.shown_columns.Goals as goal

pub loop-row-preserved : goal.loop-row-preserved
loop-row-preserved c =
    let shown : Cells → Cells = λ row. map (column_cell c.args.entity row) (selected_of c.args.outputs.now) in
    mapped_on shown c.args.rows.now c.loop-row.row-index c.row-item.result c.loop-row.lines c.push.new.self _ c.in_ok-shown_of.field-0 c.loop-row-test.true c.row-item.is c.in_ok-shown_of.ensures c.in_ok-push.ensures.ok c.loop-row.invariant
