use Rattle.std.proofs.Common.{◌≤◌, arith, sym, subst}
use Rattle.query_spec.specs.Query.{height, heights, filters_of}
use Rattle.ast_tree.specs.Tree.{filter_of, filters}
use Rattle.ast_tree.proofs.HeightLaws.{height-within}
use Rattle.ast_tree.proofs.copy.+copies.Goals as goal

pub copy_filters-copy_filter-requires : goal.copy_filters-copy_filter-requires
copy_filters-copy_filter-requires t c =
    let below : height (filter_of c.filter-item.result) ≤ heights (filters_of (filters c.args.list.now)) =
    subst (λ f. height (filter_of f) ≤ heights (filters_of (filters c.args.list.now))) (sym c.filter-item.is)
    (height-within c.args.list.now c.loop-filter.filter-index c.filter-item.result c.loop-filter-test.true) in
    omega (arith, below, c.decreases)
