use Rattle.std.proofs.Common.{◌≡◌, ◌∙◌, true, false, sym, ap}
use Rattle.std.specs.List.{list_any}
use Rattle.query_plan.specs.means_spec.Groups.{key_of, in_one_group}
use Rattle.query_plan.specs.table_spec.Rows.{Cells}
use Rattle.query_rows.specs.Marked.{part_at, row_marked}
use Rattle.query_rows.specs.declared.marks.Marked.{Marked}
use Rattle.level_answers.proofs.BegunLaws.{begins_none, begins_one}
use Rattle.level_answers.proofs.groups.begin.Goals as goal

pub returns-then-in_some_group : goal.returns-then-in_some_group
returns-then-in_some_group c = λ b mark is h.
    let key : Cells → Cells = key_of c.args.entity c.args.columns.now in
    let m : Marked = c.args.row.now in
    let parts = c.args.parts.now.items in
    let known : list_any (in_one_group key (row_marked m)) (part_at parts m.mark) ≡ true =
    ap (λ ps. list_any (in_one_group key (row_marked m)) (part_at ps m.mark)) (sym c.as_slice.ensures.value) ∙ sym c.in_some_group.ensures ∙ c.if-in_some_group.true in
    begins_none key b mark m is c.args.begun.now.items parts h (part_at parts m.mark) (λ i. part_at parts m.mark) known

pub returns : goal.returns
returns c = λ b mark is h.
    let key : Cells → Cells = key_of c.args.entity c.args.columns.now in
    let m : Marked = c.args.row.now in
    let parts = c.args.parts.now.items in
    let new : Marked = record { row = m.row; mark = m.mark } in
    let known : list_any (in_one_group key (row_marked m)) (part_at parts m.mark) ≡ false =
    ap (λ ps. list_any (in_one_group key (row_marked m)) (part_at ps m.mark)) (sym c.as_slice.ensures.value) ∙ sym c.in_some_group.ensures ∙ c.if-in_some_group.false in
    begins_one key b mark m is c.args.begun.now.items parts h (part_at parts m.mark) (λ i. part_at parts m.mark) known new c.push.new.self.items c.put.new.parts.items (λ i. row_marked m) (λ i. m.mark) c.in_ok-push.ensures.items c.in_ok-put.ensures
