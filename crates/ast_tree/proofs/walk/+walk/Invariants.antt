use Rattle.std.proofs.Common.{◌≡◌, ◌+◌, ◌*◌, drop}
use Rattle.query_spec.specs.Check.{filters_fault}
use Rattle.query_spec.specs.Query.{filters_of, height, heights, clause_height, level_height}
use Rattle.ast_tree.specs.Tree.{filter_of, filters}
use Rattle.ast_tree.proofs.walk.+walk.Given as goal

abbrev pub decreases-filter_fault : goal.decreases-filter_fault
decreases-filter_fault l = 4 * height (filter_of l.filter.now)

abbrev pub decreases-filters_fault : goal.decreases-filters_fault
decreases-filters_fault l = 4 * heights (filters_of (filters l.list.now)) + 1

abbrev pub decreases-clause_fault : goal.decreases-clause_fault
decreases-clause_fault l = 4 * clause_height l.clause.now + 1

abbrev pub decreases-subquery_fault : goal.decreases-subquery_fault
decreases-subquery_fault l = 4 * clause_height l.clause.now + 2

abbrev pub decreases-within_fault : goal.decreases-within_fault
decreases-within_fault l = 4 * level_height l.level.now + 3

abbrev pub decreases-level_fault : goal.decreases-level_fault
decreases-level_fault l = 4 * level_height l.level.now + 2

abbrev pub invariant-filters_fault-loop-filter : goal.invariant-filters_fault-loop-filter
invariant-filters_fault-loop-filter l = filters_fault l.sought l.entity (filters_of (filters (drop l.filter-index l.list))) ≡ filters_fault l.sought l.entity (filters_of (filters l.list))
