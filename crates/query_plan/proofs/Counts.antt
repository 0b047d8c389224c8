-- How many levels a plan has.
use Rattle.std.proofs.Common.{◌≡◌, ℕ, ◌+◌, [], ◌∷◌, length, refl, arith}
use Rattle.std.proofs.lemmas.List.{length-append}
use Rattle.ast_tree.specs.query_spec.Query as query
use Rattle.ast_tree.specs.query_spec.Query.{Filter, compare, matches, is_null, in_list, in_level, subquery, negation, all_of, any_of, Filters, no_filters, Clause, no_clause, clause, Level, level}
use Rattle.query_plan.specs.Plan.{stage, whole, answers, filter_patterns, filter_levels, filters_levels, clause_levels, level_levels, filter_stages, filters_stages, clause_stages, level_stages}

mutual
  pub filter-length : (f : Filter) (m k : ℕ) → length (filter_stages m k f) ≡ filter_levels f
  filter-length (compare o f l) m k = refl
  filter-length (matches f t) m k = refl
  filter-length (is_null f b) m k = refl
  filter-length (in_list fs p ls) m k = refl
  filter-length (in_level fs p q) m k = level-length q m k
  filter-length (subquery n c) m k = omega (arith, length-append (clause_stages m k c) (stage m k n c whole ∷ []), clause-length c m k)
  filter-length (negation f) m k = filter-length f m k
  filter-length (all_of fs) m k = filters-length fs m k
  filter-length (any_of fs) m k = filters-length fs m k

  pub filters-length : (fs : Filters) (m k : ℕ) → length (filters_stages m k fs) ≡ filters_levels fs
  filters-length no_filters m k = refl
  filters-length (query.filter f fs) m k =
      omega (
        arith,
        length-append (filter_stages m k f) (filters_stages (m + length (filter_patterns f)) (k + filter_levels f) fs),
        filter-length f m k,
        filters-length fs (m + length (filter_patterns f)) (k + filter_levels f),
      )

  pub clause-length : (c : Clause) (m k : ℕ) → length (clause_stages m k c) ≡ clause_levels c
  clause-length no_clause m k = refl
  clause-length (clause f) m k = filter-length f m k

  pub level-length : (q : Level) (m k : ℕ) → length (level_stages m k q) ≡ level_levels q + 1
  level-length (level n s c g p) m k =
      omega (arith, length-append (clause_stages m k c) (stage m k n c (answers s g p) ∷ []), clause-length c m k)
