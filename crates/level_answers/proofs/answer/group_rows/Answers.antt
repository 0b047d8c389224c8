use Rattle.std.proofs.Common.{◌≡◌, ◌+◌, List, ◌∷◌, map, drop, ap, sym, subst, ◌∙◌}
use Rattle.std.proofs.lemmas.List.{drop_more}
use Rattle.query_plan.specs.means_spec.Groups.{Group, group_cell}
use Rattle.query_plan.specs.table_spec.Rows.{Cells}
use Rattle.level_answers.specs.Fitting.{AllSumsFit}
use Rattle.level_answers.specs.Grouped.{group_seen}
use Rattle.query_rows.specs.Referred.{selected_of}
use Rattle.level_answers.specs.declared.groups.RowGroup.{RowGroup}
use Rattle.query_rows.proofs.Filters.{twice_on}
use Rattle.level_answers.proofs.answer.group_rows.Goals as goal

pub loop-group-preserved : goal.loop-group-preserved
loop-group-preserved c = λ fit.
    let outputs = selected_of c.args.outputs.now in
    let i = c.loop-group.group-index in
    let x = c.group-item.result in
    let before = c.loop-group.invariant fit in
    let rest : List RowGroup = drop (i + 1) c.args.groups.now in
    let left : drop i c.args.groups.now ≡ x ∷ rest = drop_more c.args.groups.now i x c.loop-group-test.true ∙ ap (λ z. z ∷ rest) (sym c.group-item.is) in
    let fits = subst (λ gs. AllSumsFit c.args.entity outputs (map group_seen gs)) left before.0 in
    let row : Group → Cells = λ y. map (group_cell c.args.entity y) outputs in
    (fits.1, twice_on group_seen row c.args.groups.now i x c.loop-group.lines c.push.new.self _ c.in_ok-group_row.field-0 c.loop-group-test.true c.group-item.is (c.in_ok-group_row.ensures fits.0) c.in_ok-push.ensures.ok before.1)
