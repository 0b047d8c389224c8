use Rattle.std.proofs.Common.{◌≡◌, ◌+◌, ◌*◌, ◌++◌, ◌||◌, length, drop}
use Rattle.ast_tree.specs.Tree.{filter_of, filters}
use Rattle.means_spec.specs.Means.{some_names_state}
use Rattle.ast_tree.specs.query_spec.Query.{filters_of, height, heights, clause_height, level_height}
use Rattle.query_plan.specs.Plan.{both, either, each_steps, filters_patterns, filters_stages}
use Rattle.query_plan.specs.Made.{patterns_of, stages_of}
use Rattle.query_plan.proofs.plan.+plan.Given as goal

abbrev pub decreases-plan_filter : goal.decreases-plan_filter
decreases-plan_filter l = 4 * height (filter_of l.filter.now)

abbrev pub decreases-plan_all : goal.decreases-plan_all
decreases-plan_all l = 4 * heights (filters_of (filters l.list.now)) + 1

abbrev pub decreases-plan_any : goal.decreases-plan_any
decreases-plan_any l = 4 * heights (filters_of (filters l.list.now)) + 1

abbrev pub decreases-plan_clause : goal.decreases-plan_clause
decreases-plan_clause l = 4 * clause_height l.clause.now + 1

abbrev pub decreases-plan_level : goal.decreases-plan_level
decreases-plan_level l = 4 * level_height l.level.now + 2

abbrev pub decreases-plan_subquery : goal.decreases-plan_subquery
decreases-plan_subquery l = 4 * clause_height l.clause.now + 2

abbrev pub invariant-plan_all-loop-filter : goal.invariant-plan_all-loop-filter
invariant-plan_all-loop-filter l =
    let rest = filters_of (filters (drop l.filter-index l.list)) in
    let whole = filters_of (filters l.list) in
    let m = length l.initial.plan.patterns.items in
    let k = length l.initial.plan.stages.items in
    record {
      state : (l.state || some_names_state rest) ≡ some_names_state whole;
      steps : l.steps ++ each_steps both (length l.plan.patterns.items) (length l.plan.stages.items) rest ≡ l.initial.steps ++ each_steps both m k whole;
      patterns : patterns_of l.plan.patterns.items ++ filters_patterns rest ≡ patterns_of l.initial.plan.patterns.items ++ filters_patterns whole;
      stages : stages_of l.plan.stages.items ++ filters_stages (length l.plan.patterns.items) (length l.plan.stages.items) rest ≡ stages_of l.initial.plan.stages.items ++ filters_stages m k whole;
    }

abbrev pub invariant-plan_any-loop-filter : goal.invariant-plan_any-loop-filter
invariant-plan_any-loop-filter l =
    let rest = filters_of (filters (drop l.filter-index l.list)) in
    let whole = filters_of (filters l.list) in
    let m = length l.initial.plan.patterns.items in
    let k = length l.initial.plan.stages.items in
    record {
      state : (l.state || some_names_state rest) ≡ some_names_state whole;
      steps : l.steps ++ each_steps either (length l.plan.patterns.items) (length l.plan.stages.items) rest ≡ l.initial.steps ++ each_steps either m k whole;
      patterns : patterns_of l.plan.patterns.items ++ filters_patterns rest ≡ patterns_of l.initial.plan.patterns.items ++ filters_patterns whole;
      stages : stages_of l.plan.stages.items ++ filters_stages (length l.plan.patterns.items) (length l.plan.stages.items) rest ≡ stages_of l.initial.plan.stages.items ++ filters_stages m k whole;
    }
