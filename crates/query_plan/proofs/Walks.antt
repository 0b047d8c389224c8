-- One more filter of a list is walked over.
use Rattle.std.proofs.Common.{◌≡◌, ◌∙◌, ℕ, ◌+◌, List, [], ◌∷◌, ◌++◌, Bool, true, false, ◌||◌, length, refl, ap, append_assoc, arith}
use Rattle.std.specs.Borrow.{Bor}
use Rattle.std.proofs.lemmas.List.{length-append, length-map}
use Rattle.ast_tree.specs.query_spec.declared.parts.Pattern.{Pattern}
use Rattle.ast_tree.specs.query_spec.Query.{Filter, Filters, filter, Clause}
use Rattle.query_plan.specs.Plan.{Step, filter_patterns, filters_patterns, filter_levels, clause_levels, filter_steps, each_steps, filter_stages, filters_stages, clause_stages}
use Rattle.query_plan.specs.Made.{stage_of, stages_of, patterns_of}
use Rattle.query_plan.specs.declared.step.Stage.{Stage}
use Rattle.query_plan.proofs.Counts.{filter-length, clause-length}

pub stages-length : (xs : List Stage) → length (stages_of xs) ≡ length xs
stages-length xs = length-map xs stage_of

patterns-length : (xs : List (Bor Pattern)) → length (patterns_of xs) ≡ length xs
patterns-length xs = length-map xs (λ (p : Bor Pattern). p.now)

-- the numbers behind a filter
pub patterns-count : (old new : List (Bor Pattern)) (f : Filter) → patterns_of new ≡ patterns_of old ++ filter_patterns f → length new ≡ length old + length (filter_patterns f)
patterns-count old new f e = omega (arith, ap length e, length-append (patterns_of old) (filter_patterns f), patterns-length old, patterns-length new)

pub stages-count : (old new : List Stage) (m k : ℕ) (f : Filter) → stages_of new ≡ stages_of old ++ filter_stages m k f → length new ≡ length old + filter_levels f
stages-count old new m k f e = omega (arith, ap length e, length-append (stages_of old) (filter_stages m k f), filter-length f m k, stages-length old, stages-length new)

pub clause-count : (old new : List Stage) (m k : ℕ) (c : Clause) → stages_of new ≡ stages_of old ++ clause_stages m k c → length new ≡ length old + clause_levels c
clause-count old new m k c e = omega (arith, ap length e, length-append (stages_of old) (clause_stages m k c), clause-length c m k, stages-length old, stages-length new)

-- what is added, and what is to come
pub steps-on : (s : Step) (m k n l : ℕ) (f : Filter) (fs : Filters) (old middle new : List Step) → n ≡ m + length (filter_patterns f) → l ≡ k + filter_levels f → middle ≡ old ++ filter_steps m k f → new ≡ middle ++ s ∷ [] → new ++ each_steps s n l fs ≡ old ++ each_steps s m k (filter f fs)
steps-on s m k n l f fs old middle new a b c d =
    (λ i. d i ++ each_steps s (a i) (b i) fs)
    ∙ append_assoc middle (s ∷ []) (each_steps s (m + length (filter_patterns f)) (k + filter_levels f) fs)
    ∙ ap (λ x. x ++ (s ∷ each_steps s (m + length (filter_patterns f)) (k + filter_levels f) fs)) c
    ∙ append_assoc old (filter_steps m k f) (s ∷ each_steps s (m + length (filter_patterns f)) (k + filter_levels f) fs)

pub patterns-on : (f : Filter) (fs : Filters) (old new : List (Bor Pattern)) → patterns_of new ≡ patterns_of old ++ filter_patterns f → patterns_of new ++ filters_patterns fs ≡ patterns_of old ++ filters_patterns (filter f fs)
patterns-on f fs old new e =
    ap (λ x. x ++ filters_patterns fs) e ∙ append_assoc (patterns_of old) (filter_patterns f) (filters_patterns fs)

pub stages-on : (m k n l : ℕ) (f : Filter) (fs : Filters) (old new : List Stage) → n ≡ m + length (filter_patterns f) → l ≡ k + filter_levels f → stages_of new ≡ stages_of old ++ filter_stages m k f → stages_of new ++ filters_stages n l fs ≡ stages_of old ++ filters_stages m k (filter f fs)
stages-on m k n l f fs old new a b e =
    (λ i. e i ++ filters_stages (a i) (b i) fs)
    ∙ append_assoc (stages_of old) (filter_stages m k f) (filters_stages (m + length (filter_patterns f)) (k + filter_levels f) fs)

pub or-false : (a : Bool) → a ≡ a || false
or-false true = refl
or-false false = refl
