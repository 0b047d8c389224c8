use Rattle.std.proofs.Common.{◌≡◌, ◌+◌, ◌*◌, ◌++◌, drop}
use Rattle.query_spec.specs.Query.{filters_of, height, heights, clause_height, level_height}
use Rattle.ast_tree.specs.Tree.{filter_of, filters}
use Rattle.ast_tree.proofs.copy.+copies.Given as goal

abbrev pub decreases-copy_filter : goal.decreases-copy_filter
decreases-copy_filter l = 4 * height (filter_of l.filter.now)

abbrev pub decreases-copy_filters : goal.decreases-copy_filters
decreases-copy_filters l = 4 * heights (filters_of (filters l.list.now)) + 1

abbrev pub decreases-copy_clause : goal.decreases-copy_clause
decreases-copy_clause l = 4 * clause_height l.clause.now + 1

abbrev pub decreases-copy_level : goal.decreases-copy_level
decreases-copy_level l = 4 * level_height l.level.now + 2

abbrev pub invariant-copy_filters-loop-filter : goal.invariant-copy_filters-loop-filter
invariant-copy_filters-loop-filter l = l.copied ++ filters (drop l.filter-index l.list) ≡ filters l.list
