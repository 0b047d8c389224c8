-- The stages of a plan read what the bound of their query says.
use Rattle.std.proofs.Common.{◌≡◌, ◌∙◌, ℕ, ◌+◌, ◌*◌, List, [], ◌∷◌, ◌++◌, length, refl, sym, ap, append_assoc, append-nil}
use Rattle.std.proofs.lemmas.List.Concat.{flat_map-append}
use Rattle.std.proofs.lemmas.List.Sums.{sum_by-append, sum_by_push}
use Rattle.query_plan.specs.query_spec.Check.{entity_named}
use Rattle.query_plan.specs.query_spec.declared.parts.Name.{Name}
use Rattle.query_plan.specs.query_spec.Query as query
use Rattle.query_plan.specs.query_spec.Query.{Filter, compare, matches, is_null, in_list, in_level, subquery, negation, all_of, any_of, Filters, no_filters, Clause, no_clause, clause, Level, level}
use Rattle.query_plan.specs.table_spec.fleet_rows.declared.row.Entity.{Entity}
use Rattle.query_plan.specs.table_spec.Rows.{Cells}
use Rattle.query_plan.specs.Plan.{Step, Stage, Shape, stage, whole, answers, invert, both, either, filter_patterns, filter_levels, filter_steps, each_steps, clause_steps, filter_stages, filters_stages, clause_stages, level_stages}
use Rattle.query_reach.specs.Reach.{Pin, filter_pins, filters_pins, clause_pins, reach, filter_facts, filters_facts, clause_facts, level_reads, filter_bound, filters_bound, clause_bound, level_bound}
use Rattle.query_reach.specs.Pins.{pin_act, pin_run, pin_top, step_pins, step_facts, steps_facts, stage_reads, stages_read}
use Rattle.query_reach.specs.Laws.{PlansReadTheBound}

-- ---- the steps of a filter demand what the filter does

run_append : (ss ts : List Step) (st : List (List Pin)) → pin_run (ss ++ ts) st ≡ pin_run ts (pin_run ss st)
run_append [] ts st = refl
run_append (s ∷ ss) ts st = run_append ss ts (pin_act s st)

-- a filter behind others, and the step that joins it with them
each_on : (xs ys : List Step) (s : Step) (st : List (List Pin)) (a b : List Pin) → pin_run xs (a ∷ st) ≡ b ∷ a ∷ st
    → pin_run (xs ++ s ∷ ys) (a ∷ st) ≡ pin_run ys (pin_act s (b ∷ a ∷ st))
each_on xs ys s st a b h = run_append xs (s ∷ ys) (a ∷ st) ∙ ap (pin_run (s ∷ ys)) h

mutual
  filter_demands : (f : Filter) (m k : ℕ) (st : List (List Pin)) → pin_run (filter_steps m k f) st ≡ filter_pins f ∷ st
  filter_demands (compare o f l) m k st = refl
  filter_demands (matches f t) m k st = refl
  filter_demands (is_null f b) m k st = refl
  filter_demands (in_list fs p ls) m k st = refl
  filter_demands (in_level fs p q) m k st = refl
  filter_demands (subquery n c) m k st = refl
  filter_demands (negation f) m k st =
      run_append (filter_steps m k f) (invert ∷ []) st ∙ ap (pin_run (invert ∷ [])) (filter_demands f m k st)
  filter_demands (all_of fs) m k st = all_demand fs m k [] st
  filter_demands (any_of fs) m k st = none_demand fs m k st

  all_demand : (fs : Filters) (m k : ℕ) (a : List Pin) (st : List (List Pin)) → pin_run (each_steps both m k fs) (a ∷ st) ≡ (a ++ filters_pins fs) ∷ st
  all_demand no_filters m k a st = ap (λ ps. ps ∷ st) (sym (append-nil a))
  all_demand (query.filter f fs) m k a st =
      each_on (filter_steps m k f) (each_steps both (m + length (filter_patterns f)) (k + filter_levels f) fs) both st a (filter_pins f) (filter_demands f m k (a ∷ st))
      ∙ all_demand fs (m + length (filter_patterns f)) (k + filter_levels f) (a ++ filter_pins f) st
      ∙ ap (λ ps. ps ∷ st) (append_assoc a (filter_pins f) (filters_pins fs))

  none_demand : (fs : Filters) (m k : ℕ) (st : List (List Pin)) → pin_run (each_steps either m k fs) ([] ∷ st) ≡ [] ∷ st
  none_demand no_filters m k st = refl
  none_demand (query.filter f fs) m k st =
      each_on (filter_steps m k f) (each_steps either (m + length (filter_patterns f)) (k + filter_levels f) fs) either st [] (filter_pins f) (filter_demands f m k ([] ∷ st))
      ∙ none_demand fs (m + length (filter_patterns f)) (k + filter_levels f) st

clause_demands : (c : Clause) (m k : ℕ) → step_pins (clause_steps m k c) ≡ clause_pins c
clause_demands no_clause m k = refl
clause_demands (clause f) m k = ap pin_top (filter_demands f m k [])

-- ---- and they name its facts

-- a step that names no fact, behind others
nothing_more : (ss : List Step) (s : Step) → step_facts s ≡ [] → steps_facts (ss ++ s ∷ []) ≡ steps_facts ss
nothing_more ss s none =
    flat_map-append step_facts ss (s ∷ []) ∙ ap (λ names. steps_facts ss ++ (names ++ [])) none ∙ append-nil (steps_facts ss)

mutual
  filter_names : (f : Filter) (m k : ℕ) → steps_facts (filter_steps m k f) ≡ filter_facts f
  filter_names (compare o f l) m k = append-nil _
  filter_names (matches f t) m k = append-nil _
  filter_names (is_null f b) m k = append-nil _
  filter_names (in_list fs p ls) m k = append-nil _
  filter_names (in_level fs p q) m k = append-nil _
  filter_names (subquery n c) m k = refl
  filter_names (negation f) m k = nothing_more (filter_steps m k f) invert refl ∙ filter_names f m k
  filter_names (all_of fs) m k = each_names fs m k both refl
  filter_names (any_of fs) m k = each_names fs m k either refl

  each_names : (fs : Filters) (m k : ℕ) (s : Step) → step_facts s ≡ [] → steps_facts (each_steps s m k fs) ≡ filters_facts fs
  each_names no_filters m k s none = refl
  each_names (query.filter f fs) m k s none =
      let rest = each_steps s (m + length (filter_patterns f)) (k + filter_levels f) fs in
      flat_map-append step_facts (filter_steps m k f) (s ∷ rest)
      ∙ ap (λ names. steps_facts (filter_steps m k f) ++ (names ++ steps_facts rest)) none
      ∙ (λ i. filter_names f m k i ++ each_names fs (m + length (filter_patterns f)) (k + filter_levels f) s none i)

clause_names : (c : Clause) (m k : ℕ) → steps_facts (clause_steps m k c) ≡ clause_facts c
clause_names no_clause m k = refl
clause_names (clause f) m k = filter_names f m k

-- ---- so a stage reads what its level may read

module _ (rows : Entity → List Cells) where
  stage_within : (m k : ℕ) (n : Name) (c : Clause) (shape : Shape) → stage_reads rows (stage m k n c shape) ≡ level_reads rows (entity_named n.text) c
  stage_within m k n c shape = λ i. reach rows (entity_named n.text) (clause_demands c m k i) * (1 + length (clause_names c m k i))

  -- a level behind its inner levels
  level_on : (inner : List Stage) (m k : ℕ) (n : Name) (c : Clause) (shape : Shape) (bound : ℕ) → stages_read rows inner ≡ bound
      → stages_read rows (inner ++ stage m k n c shape ∷ []) ≡ bound + level_reads rows (entity_named n.text) c
  level_on inner m k n c shape bound h =
      sum_by_push (stage_reads rows) inner (stage m k n c shape) ∙ (λ i. h i + stage_within m k n c shape i)

  mutual
    filter_within : (f : Filter) (m k : ℕ) → stages_read rows (filter_stages m k f) ≡ filter_bound rows f
    filter_within (compare o f l) m k = refl
    filter_within (matches f t) m k = refl
    filter_within (is_null f b) m k = refl
    filter_within (in_list fs p ls) m k = refl
    filter_within (in_level fs p q) m k = level_within q m k
    filter_within (subquery n c) m k = level_on (clause_stages m k c) m k n c whole (clause_bound rows c) (clause_within c m k)
    filter_within (negation f) m k = filter_within f m k
    filter_within (all_of fs) m k = filters_within fs m k
    filter_within (any_of fs) m k = filters_within fs m k

    filters_within : (fs : Filters) (m k : ℕ) → stages_read rows (filters_stages m k fs) ≡ filters_bound rows fs
    filters_within no_filters m k = refl
    filters_within (query.filter f fs) m k =
        sum_by-append (stage_reads rows) (filter_stages m k f) (filters_stages (m + length (filter_patterns f)) (k + filter_levels f) fs)
        ∙ (λ i. filter_within f m k i + filters_within fs (m + length (filter_patterns f)) (k + filter_levels f) i)

    clause_within : (c : Clause) (m k : ℕ) → stages_read rows (clause_stages m k c) ≡ clause_bound rows c
    clause_within no_clause m k = refl
    clause_within (clause f) m k = filter_within f m k

    level_within : (q : Level) (m k : ℕ) → stages_read rows (level_stages m k q) ≡ level_bound rows q
    level_within (level n s c g p) m k = level_on (clause_stages m k c) m k n c (answers s g p) (clause_bound rows c) (clause_within c m k)

pub plans_read_the_bound : PlansReadTheBound
plans_read_the_bound rows q = level_within rows q 0 0
