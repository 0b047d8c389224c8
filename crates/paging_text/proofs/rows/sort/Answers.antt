use Rattle.std.proofs.Common.{rules}
use Rattle.std.specs.Ordering.{is_lt}
use Rattle.std.proofs.lemmas.Fn.{always_returns_same}
use Rattle.std.proofs.lemmas.List.Sorted.{ranks_by}
use Rattle.means_spec.specs.Paging.{orders_cmp}
use Rattle.row_cells.proofs.SortedLaws.{sorted_lem}
use Rattle.paging_text.proofs.CellOrder.{orders_total}
use Rattle.paging_text.proofs.rows.sort.Goals as goal

pub returns-clause-ok : goal.returns-clause-ok
returns-clause-ok c =
    let cmp = orders_cmp c.args.names.now c.args.orders.now in
    let total = orders_total c.args.names.now c.args.orders.now in
    let weak = ranks_by total (λ row. row) in
    let by = always_returns_same _ _ _ (λ a r f h. (search rules, search rules)) in
    sorted_lem cmp total c.args.list.now.items c.sort_by.new.self.items
    (c.in_ok-sort_by.ensures.sorted (λ x y. is_lt (cmp x y)) weak by) (c.in_ok-sort_by.ensures.stable (λ x y. is_lt (cmp x y)) weak by)
