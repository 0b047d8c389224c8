use Rattle.std.proofs.Common.{◌≡◌, ◌∙◌, ◌++◌, ◌∷◌, [], ℕ, List, ap, drop, map}
use Rattle.std.proofs.lemmas.List.{drop_all, map-append}
use Rattle.query_plan.specs.means_spec.Groups.{key_of, group_of}
use Rattle.query_plan.specs.table_spec.Rows.{Cells}
use Rattle.level_answers.specs.Grouped.{group_seen}
use Rattle.query_rows.specs.Marked.{part_at, row_marked, rows_marked}
use Rattle.query_rows.specs.Referred.{rows_of}
use Rattle.level_answers.specs.declared.groups.RowGroup.{RowGroup}
use Rattle.query_rows.specs.declared.marks.Marked.{Marked}
use Rattle.level_answers.proofs.BegunLaws.{group_is, all_found}
use Rattle.query_rows.proofs.Filters.{twice_on}
use Rattle.query_rows.proofs.MarkLaws.{marks_at}
use Rattle.level_answers.proofs.groups.groups_of.Goals as goal

pub loop-first-preserved : goal.loop-first-preserved
loop-first-preserved c = λ b rows mark have parted.
    let key : Cells → Cells = key_of c.args.entity c.args.columns.now in
    let ms : List Marked = c.args.firsts.now in
    let i : ℕ = c.loop-first.first-index in
    let m : Marked = c.first-item.result in
    let inv = c.loop-first.invariant b rows mark have parted in
    let here = marks_at b ms i m c.loop-first-test.true c.first-item.is inv.1 in
    let made : List RowGroup = c.loop-first.found.items in
    let group : RowGroup = c.in_ok-group_of.field-0 in
    let pushed : map group_seen c.push.new.self.items ≡ map group_seen made ++ group_seen group ∷ [] = ap (map group_seen) c.in_ok-push.ensures.items ∙ map-append group_seen made (group ∷ []) in
    let found : List Cells = rows_of group.rows.items in
    let seen : group_seen group ≡ group_of key rows (row_marked m) =
    ap (λ (r : Cells). record { first = r; rows = found }) c.in_ok-group_of.ensures.first
    ∙ group_is key b mark (row_marked m) m.mark here.0 rows (part_at c.args.parts.now m.mark) found (parted m.mark) c.in_ok-group_of.ensures.rows in (
      twice_on row_marked (group_of key rows) ms i m (map group_seen made) (map group_seen c.push.new.self.items) (map (group_of key rows) (rows_marked ms)) (group_seen group) c.loop-first-test.true c.first-item.is seen pushed inv.0,
      here.1,
    )

pub returns : goal.returns
returns c = λ b rows mark have parted.
    let key : Cells → Cells = key_of c.args.entity c.args.columns.now in
    let ms : List Marked = c.args.firsts.now in
    all_found (group_of key rows) (map group_seen c.loop-first.found.items) (map (group_of key rows) (rows_marked ms)) (rows_marked (drop c.loop-first.first-index ms))
    (ap rows_marked (drop_all c.loop-first.first-index ms c.loop-first-test.false)) (c.loop-first.invariant b rows mark have parted).0
