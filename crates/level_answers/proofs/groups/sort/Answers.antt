use Rattle.std.proofs.Common.{◌∙◌, ap, map, rules}
use Rattle.std.specs.Ordering.{is_lt}
use Rattle.std.specs.declared.cmp.Ordering.{Ordering}
use Rattle.std.proofs.lemmas.Cmp.{on_total, lists_total}
use Rattle.std.proofs.lemmas.Fn.{always_returns_same}
use Rattle.std.proofs.lemmas.List.Sorted.{ranks_by}
use Rattle.query_plan.specs.means_spec.Groups.{Group, key_of}
use Rattle.paging_text.proofs.CellOrder.{cell_total}
use Rattle.fleet_tables.proofs.of_row_cells.SortedLaws.{sorted_lem}
use Rattle.level_answers.specs.Begun.{by_key}
use Rattle.level_answers.specs.Grouped.{group_seen}
use Rattle.level_answers.proofs.SortedRefs.{map_sorted}
use Rattle.level_answers.proofs.groups.sort.Goals as goal

pub returns : goal.returns
returns c =
    let key = key_of c.args.entity c.args.columns.now in
    let cmp : Group → Group → Ordering = by_key key in
    let total = on_total (λ (x : Group). key x.first) (lists_total cell_total) in
    let weak = ranks_by total group_seen in
    let by = always_returns_same _ _ _ (λ a r f h. (search rules, search rules)) in
    ap (map group_seen) (sorted_lem (λ p q. cmp (group_seen p) (group_seen q)) (on_total group_seen total) c.args.groups.now.items c.sort_by.new.self.items
    (c.in_ok-sort_by.ensures.sorted (λ p q. is_lt (cmp (group_seen p) (group_seen q))) weak by) (c.in_ok-sort_by.ensures.stable (λ p q. is_lt (cmp (group_seen p) (group_seen q))) weak by))
    ∙ map_sorted group_seen cmp c.args.groups.now.items
