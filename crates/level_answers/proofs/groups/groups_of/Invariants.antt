use Rattle.std.proofs.Common.{◌≡◌, ◌++◌, ℕ, List, drop, map}
use Rattle.query_plan.specs.means_spec.Groups.{key_of, group_of}
use Rattle.query_plan.specs.table_spec.Rows.{Cells}
use Rattle.level_answers.specs.Grouped.{group_seen}
use Rattle.query_rows.specs.Marked.{rows_marked, IsMark, HaveMarks, AreParted}
use Rattle.level_answers.proofs.groups.groups_of.Given as goal

abbrev pub invariant-loop-first : goal.invariant-loop-first
invariant-loop-first l =
    let key = key_of l.entity l.columns in
    (b : Cells → ℕ) (rows : List Cells) → IsMark key b → HaveMarks b l.firsts → AreParted b l.parts rows
    → (map group_seen l.found.items ++ map (group_of key rows) (rows_marked (drop l.first-index l.firsts)) ≡ map (group_of key rows) (rows_marked l.firsts)) × HaveMarks b (drop l.first-index l.firsts)
