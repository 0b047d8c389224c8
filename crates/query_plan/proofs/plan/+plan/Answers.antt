use Rattle.std.proofs.Common.{◌≡◌, ◌∙◌, ◌≤◌, List, [], ◌∷◌, ◌++◌, ◌+◌, ◌||◌, length, drop, sym, ap, subst, arith}
use Rattle.std.proofs.lemmas.List.{append-nil, drop_more, drop_all}
use Rattle.std.proofs.Math.Bool.{or_assoc}
use Rattle.ast_tree.specs.declared.tree.Filter.{Filter}
use Rattle.ast_tree.specs.Tree.{filter_of, filters}
use Rattle.ast_tree.proofs.HeightLaws.{height-within}
use Rattle.means_spec.specs.Means.{names_state, some_names_state}
use Rattle.ast_tree.specs.query_spec.Query.{filters_of, height, heights}
use Rattle.query_plan.specs.Plan.{both, either, each_steps, filters_patterns, filters_stages}
use Rattle.query_plan.specs.Made.{patterns_of, stages_of}
use Rattle.query_plan.proofs.Walks.{patterns-count, stages-count, clause-count, steps-on, patterns-on, stages-on, or-false}
use Rattle.query_plan.proofs.plan.+plan.Goals as goal

pub plan_all-plan_filter-requires : goal.plan_all-plan_filter-requires
plan_all-plan_filter-requires t c =
    let below : height (filter_of c.filter-item.result) ≤ heights (filters_of (filters c.args.list.now)) =
    subst (λ f. height (filter_of f) ≤ heights (filters_of (filters c.args.list.now))) (sym c.filter-item.is)
    (height-within c.args.list.now c.loop-filter.filter-index c.filter-item.result c.loop-filter-test.true) in
    omega (arith, below, c.decreases)

pub plan_all-loop-filter-preserved : goal.plan_all-loop-filter-preserved
plan_all-loop-filter-preserved t c =
    let f = filter_of c.filter-item.result in
    let others : List Filter = drop (c.loop-filter.filter-index + 1) c.args.list.now in
    let fs = filters_of (filters others) in
    let m = length c.loop-filter.plan.patterns.items in
    let k = length c.loop-filter.plan.stages.items in
    let n = length c.plan_filter.new.plan.patterns.items in
    let l = length c.plan_filter.new.plan.stages.items in
    let adds = c.in_ok-own.ensures.plan in
    let a : n ≡ m + _ = patterns-count c.loop-filter.plan.patterns.items c.plan_filter.new.plan.patterns.items f adds.patterns_are in
    let b : l ≡ k + _ = stages-count c.loop-filter.plan.stages.items c.plan_filter.new.plan.stages.items m k f adds.stages_are in
    let e : c.filter-item.result ∷ others ≡ drop c.loop-filter.filter-index c.args.list.now =
    ap (λ x. x ∷ others) c.filter-item.is ∙ sym (drop_more c.args.list.now c.loop-filter.filter-index c.filter-item.result c.loop-filter-test.true) in
    record {
      state =
          ap (λ b. b || some_names_state fs) c.joined-state.ensures
          ∙ (λ i. (c.loop-filter.state || c.in_ok-own.ensures.state i) || some_names_state fs)
          ∙ or_assoc c.loop-filter.state (names_state f) (some_names_state fs)
          ∙ ap (λ xs. c.loop-filter.state || some_names_state (filters_of (filters xs))) e
          ∙ c.loop-filter.invariant.state;
      steps =
          steps-on both m k n l f fs c.loop-filter.steps c.plan_filter.new.steps c.push.new.self a b c.in_ok-own.ensures.steps c.in_ok-push.ensures.ok
          ∙ ap (λ xs. c.loop-filter.steps ++ each_steps both m k (filters_of (filters xs))) e
          ∙ c.loop-filter.invariant.steps;
      patterns =
          patterns-on f fs c.loop-filter.plan.patterns.items c.plan_filter.new.plan.patterns.items adds.patterns_are
          ∙ ap (λ xs. patterns_of c.loop-filter.plan.patterns.items ++ filters_patterns (filters_of (filters xs))) e
          ∙ c.loop-filter.invariant.patterns;
      stages =
          stages-on m k n l f fs c.loop-filter.plan.stages.items c.plan_filter.new.plan.stages.items a b adds.stages_are
          ∙ ap (λ xs. stages_of c.loop-filter.plan.stages.items ++ filters_stages m k (filters_of (filters xs))) e
          ∙ c.loop-filter.invariant.stages;
    }

pub plan_all-returns-clause-state : goal.plan_all-returns-clause-state
plan_all-returns-clause-state t c =
    let e : drop c.loop-filter.filter-index c.args.list.now ≡ [] = drop_all c.loop-filter.filter-index c.args.list.now (omega (arith, c.loop-filter-test.false)) in
    or-false c.loop-filter.state
    ∙ ap (λ xs. c.loop-filter.state || some_names_state (filters_of (filters xs))) (sym e)
    ∙ c.loop-filter.invariant.state

pub plan_all-returns-clause-steps : goal.plan_all-returns-clause-steps
plan_all-returns-clause-steps t c =
    let e : drop c.loop-filter.filter-index c.args.list.now ≡ [] = drop_all c.loop-filter.filter-index c.args.list.now (omega (arith, c.loop-filter-test.false)) in
    sym (append-nil c.loop-filter.steps)
    ∙ ap (λ xs. c.loop-filter.steps ++ each_steps both (length c.loop-filter.plan.patterns.items) (length c.loop-filter.plan.stages.items) (filters_of (filters xs))) (sym e)
    ∙ c.loop-filter.invariant.steps

pub plan_all-returns-clause-plan : goal.plan_all-returns-clause-plan
plan_all-returns-clause-plan t c =
    let e : drop c.loop-filter.filter-index c.args.list.now ≡ [] = drop_all c.loop-filter.filter-index c.args.list.now (omega (arith, c.loop-filter-test.false)) in
    record {
      patterns_are =
          sym (append-nil (patterns_of c.loop-filter.plan.patterns.items))
          ∙ ap (λ xs. patterns_of c.loop-filter.plan.patterns.items ++ filters_patterns (filters_of (filters xs))) (sym e)
          ∙ c.loop-filter.invariant.patterns;
      stages_are =
          sym (append-nil (stages_of c.loop-filter.plan.stages.items))
          ∙ ap (λ xs. stages_of c.loop-filter.plan.stages.items ++ filters_stages (length c.loop-filter.plan.patterns.items) (length c.loop-filter.plan.stages.items) (filters_of (filters xs))) (sym e)
          ∙ c.loop-filter.invariant.stages;
    }

pub plan_any-plan_filter-requires : goal.plan_any-plan_filter-requires
plan_any-plan_filter-requires t c =
    let below : height (filter_of c.filter-item.result) ≤ heights (filters_of (filters c.args.list.now)) =
    subst (λ f. height (filter_of f) ≤ heights (filters_of (filters c.args.list.now))) (sym c.filter-item.is)
    (height-within c.args.list.now c.loop-filter.filter-index c.filter-item.result c.loop-filter-test.true) in
    omega (arith, below, c.decreases)

pub plan_any-loop-filter-preserved : goal.plan_any-loop-filter-preserved
plan_any-loop-filter-preserved t c =
    let f = filter_of c.filter-item.result in
    let others : List Filter = drop (c.loop-filter.filter-index + 1) c.args.list.now in
    let fs = filters_of (filters others) in
    let m = length c.loop-filter.plan.patterns.items in
    let k = length c.loop-filter.plan.stages.items in
    let n = length c.plan_filter.new.plan.patterns.items in
    let l = length c.plan_filter.new.plan.stages.items in
    let adds = c.in_ok-own.ensures.plan in
    let a : n ≡ m + _ = patterns-count c.loop-filter.plan.patterns.items c.plan_filter.new.plan.patterns.items f adds.patterns_are in
    let b : l ≡ k + _ = stages-count c.loop-filter.plan.stages.items c.plan_filter.new.plan.stages.items m k f adds.stages_are in
    let e : c.filter-item.result ∷ others ≡ drop c.loop-filter.filter-index c.args.list.now =
    ap (λ x. x ∷ others) c.filter-item.is ∙ sym (drop_more c.args.list.now c.loop-filter.filter-index c.filter-item.result c.loop-filter-test.true) in
    record {
      state =
          ap (λ b. b || some_names_state fs) c.joined-state.ensures
          ∙ (λ i. (c.loop-filter.state || c.in_ok-own.ensures.state i) || some_names_state fs)
          ∙ or_assoc c.loop-filter.state (names_state f) (some_names_state fs)
          ∙ ap (λ xs. c.loop-filter.state || some_names_state (filters_of (filters xs))) e
          ∙ c.loop-filter.invariant.state;
      steps =
          steps-on either m k n l f fs c.loop-filter.steps c.plan_filter.new.steps c.push.new.self a b c.in_ok-own.ensures.steps c.in_ok-push.ensures.ok
          ∙ ap (λ xs. c.loop-filter.steps ++ each_steps either m k (filters_of (filters xs))) e
          ∙ c.loop-filter.invariant.steps;
      patterns =
          patterns-on f fs c.loop-filter.plan.patterns.items c.plan_filter.new.plan.patterns.items adds.patterns_are
          ∙ ap (λ xs. patterns_of c.loop-filter.plan.patterns.items ++ filters_patterns (filters_of (filters xs))) e
          ∙ c.loop-filter.invariant.patterns;
      stages =
          stages-on m k n l f fs c.loop-filter.plan.stages.items c.plan_filter.new.plan.stages.items a b adds.stages_are
          ∙ ap (λ xs. stages_of c.loop-filter.plan.stages.items ++ filters_stages m k (filters_of (filters xs))) e
          ∙ c.loop-filter.invariant.stages;
    }

pub plan_any-returns-clause-state : goal.plan_any-returns-clause-state
plan_any-returns-clause-state t c =
    let e : drop c.loop-filter.filter-index c.args.list.now ≡ [] = drop_all c.loop-filter.filter-index c.args.list.now (omega (arith, c.loop-filter-test.false)) in
    or-false c.loop-filter.state
    ∙ ap (λ xs. c.loop-filter.state || some_names_state (filters_of (filters xs))) (sym e)
    ∙ c.loop-filter.invariant.state

pub plan_any-returns-clause-steps : goal.plan_any-returns-clause-steps
plan_any-returns-clause-steps t c =
    let e : drop c.loop-filter.filter-index c.args.list.now ≡ [] = drop_all c.loop-filter.filter-index c.args.list.now (omega (arith, c.loop-filter-test.false)) in
    sym (append-nil c.loop-filter.steps)
    ∙ ap (λ xs. c.loop-filter.steps ++ each_steps either (length c.loop-filter.plan.patterns.items) (length c.loop-filter.plan.stages.items) (filters_of (filters xs))) (sym e)
    ∙ c.loop-filter.invariant.steps

pub plan_any-returns-clause-plan : goal.plan_any-returns-clause-plan
plan_any-returns-clause-plan t c =
    let e : drop c.loop-filter.filter-index c.args.list.now ≡ [] = drop_all c.loop-filter.filter-index c.args.list.now (omega (arith, c.loop-filter-test.false)) in
    record {
      patterns_are =
          sym (append-nil (patterns_of c.loop-filter.plan.patterns.items))
          ∙ ap (λ xs. patterns_of c.loop-filter.plan.patterns.items ++ filters_patterns (filters_of (filters xs))) (sym e)
          ∙ c.loop-filter.invariant.patterns;
      stages_are =
          sym (append-nil (stages_of c.loop-filter.plan.stages.items))
          ∙ ap (λ xs. stages_of c.loop-filter.plan.stages.items ++ filters_stages (length c.loop-filter.plan.patterns.items) (length c.loop-filter.plan.stages.items) (filters_of (filters xs))) (sym e)
          ∙ c.loop-filter.invariant.stages;
    }

pub plan_level-returns-clause-number : goal.plan_level-returns-clause-number
plan_level-returns-clause-number t c =
    let n = clause-count c.args.plan.now.stages.items c.plan_clause.new.plan.stages.items _ _ c.parts.result.2.now c.in_ok-state.ensures.plan.stages_are in
    rw c.parts.ensures (grind (arith, n, c.len-at.ensures))

pub plan_subquery-returns-clause-number : goal.plan_subquery-returns-clause-number
plan_subquery-returns-clause-number t c =
    let n = clause-count c.args.plan.now.stages.items c.plan_clause.new.plan.stages.items _ _ c.args.clause.now c.in_ok-state.ensures.plan.stages_are in
    grind (arith, n, c.len-at.ensures)
