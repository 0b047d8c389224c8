use Rattle.std.proofs.Common.{◌≡◌, ◌∙◌, ◌++◌, ◌∷◌, [], List, Some, sym, ap}
use Rattle.std.proofs.lemmas.Option.{slice_get-get_or}
use Rattle.query_plan.specs.means_spec.Groups.{key_of}
use Rattle.query_plan.specs.table_spec.Rows.{Cells}
use Rattle.query_rows.specs.Marked.{rows_marked}
use Rattle.query_rows.specs.declared.marks.Marked.{Marked}
use Rattle.query_rows.proofs.Filters.{copied_on}
use Rattle.query_rows.proofs.MarkLaws.{marked_on, numbers_on, are_marked}
use Rattle.query_rows.proofs.marks.with_marks.Goals as goal

pub loop-row-preserved : goal.loop-row-preserved
loop-row-preserved c =
    let key : Cells → Cells = key_of c.args.entity c.args.columns.now in
    let rows : List Cells = c.args.rows.now in
    let row : Cells = c.row-item.result in
    let old : List Marked = c.loop-row.all.items in
    let pushed : rows_marked c.push.new.self.items ≡ rows_marked old ++ row ∷ [] = marked_on old c.push.new.self.items _ c.in_ok-push.ensures.items in
    record {
      rows =
          copied_on rows c.loop-row.row-index row (rows_marked old) (rows_marked c.push.new.self.items)
          (slice_get-get_or rows c.loop-row.row-index row c.loop-row-test.true ∙ ap (λ (x : Cells). Some x) (sym c.row-item.is)) pushed c.loop-row.invariant.rows;
      numbers =
          numbers_on key c.loop-row.texts c.mark_of.new.texts old c.push.new.self.items _ c.in_ok-push.ensures.items c.in_ok-mark.ensures.kept
          c.in_ok-mark.ensures.number c.loop-row.invariant.numbers;
      firsts = c.in_ok-mark.ensures.firsts;
    }

pub returns-clause-marks : goal.returns-clause-marks
returns-clause-marks c = are_marked (key_of c.args.entity c.args.columns.now) c.loop-row.texts c.loop-row.all.items c.loop-row.invariant.numbers
