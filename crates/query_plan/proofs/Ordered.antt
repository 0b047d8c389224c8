-- Stages name levels before them alone, so what is found later changes nothing.
use Rattle.std.proofs.Common.{◌≡◌, ◌∙◌, ℕ, zero, suc, ◌+◌, ◌<◌, ◌≤◌, List, [], ◌∷◌, ◌++◌, length, refl, sym, ap, subst, arith, Bool, false, ◌&&◌, Option, map}
use Rattle.std.specs.Prelude.{slice_get, filter}
use Rattle.std.specs.List.{list_any}
use Rattle.std.specs.Option.{option_map_or}
use Rattle.std.specs.Str.{bytes_eq}
use Rattle.ast_tree.proofs.of_plain_laws.Lists.{get_left}
use Rattle.ast_tree.specs.fleet_rows.declared.row.Entity.{Entity}
use Rattle.ast_tree.specs.query_spec.Query as query
use Rattle.ast_tree.specs.query_spec.Query.{Filter, compare, matches, is_null, in_list, in_level, subquery, negation, all_of, any_of, Filters, no_filters, Clause, no_clause, clause, Level, level}
use Rattle.means_spec.specs.table_spec.Rows.{Cells}
use Rattle.means_spec.specs.World.{World, rows_in}
use Rattle.means_spec.specs.Cells.{node_in, field_cell, equal_cells}
use Rattle.means_spec.specs.Means.{is_seen}
use Rattle.query_plan.specs.Plan.{Step, compares, tests_null, lists, fits, selects, shares_node, constant, invert, both, either, Stage, stage, whole, answers, filter_patterns, filter_levels, filters_levels, clause_levels, filter_steps, each_steps, clause_steps, filter_stages, filters_stages, clause_stages, level_stages, act, run, top, chosen_rows, stage_rows, stage_sum, shaped, shaped_sum}
use Rattle.query_plan.proofs.Counts.{filter-length, clause-length}

-- the steps name levels below n alone
abbrev pub IsBelow : ℕ → Step → Type 0
IsBelow n (selects fs i) = i < n
IsBelow n (shares_node o i) = i < n
IsBelow n _ = Unit {0}

abbrev pub AreBelow : ℕ → List Step → Type 0
AreBelow n [] = Unit {0}
AreBelow n (s ∷ ss) = IsBelow n s × AreBelow n ss

-- each stage from number n on names levels before it alone
abbrev pub AreOrdered : ℕ → List Stage → Type 0
AreOrdered n [] = Unit {0}
AreOrdered n (s ∷ ss) = AreBelow n s.steps × AreOrdered (suc n) ss

below-more : (n m : ℕ) (s : Step) → n ≤ m → IsBelow n s → IsBelow m s
below-more n m (compares o f l) h b = tt
below-more n m (tests_null f v) h b = tt
below-more n m (lists fs ls) h b = tt
below-more n m (fits f j) h b = tt
below-more n m (selects fs i) h b = omega (arith, h, b)
below-more n m (shares_node o i) h b = omega (arith, h, b)
below-more n m (constant v) h b = tt
below-more n m invert h b = tt
below-more n m both h b = tt
below-more n m either h b = tt

steps-more : (n m : ℕ) (ss : List Step) → n ≤ m → AreBelow n ss → AreBelow m ss
steps-more n m [] h b = tt
steps-more n m (s ∷ ss) h b = (below-more n m s h b.0, steps-more n m ss h b.1)

below-append : (n : ℕ) (xs ys : List Step) → AreBelow n xs → AreBelow n ys → AreBelow n (xs ++ ys)
below-append n [] ys a b = b
below-append n (x ∷ xs) ys a b = (a.0, below-append n xs ys a.1 b)

ordered-append : (n : ℕ) (xs ys : List Stage) → AreOrdered n xs → AreOrdered (n + length xs) ys → AreOrdered n (xs ++ ys)
ordered-append n [] ys a b = subst (λ k. AreOrdered k ys) (omega arith) b
ordered-append n (x ∷ xs) ys a b = (a.0, ordered-append (suc n) xs ys a.1 (subst (λ k. AreOrdered k ys) (omega arith) b))

mutual
  filter-below : (f : Filter) (m k : ℕ) → AreBelow (k + filter_levels f) (filter_steps m k f)
  filter-below (compare o f l) m k = (tt, tt)
  filter-below (matches f t) m k = (tt, tt)
  filter-below (is_null f b) m k = (tt, tt)
  filter-below (in_list fs p ls) m k = (tt, tt)
  filter-below (in_level fs p q) m k = (omega arith, tt)
  filter-below (subquery n c) m k = (omega arith, tt)
  filter-below (negation f) m k = below-append (k + filter_levels f) (filter_steps m k f) (invert ∷ []) (filter-below f m k) (tt, tt)
  filter-below (all_of fs) m k = (tt, each-below fs both m k tt)
  filter-below (any_of fs) m k = (tt, each-below fs either m k tt)

  each-below : (fs : Filters) (s : Step) (m k : ℕ) → IsBelow 0 s → AreBelow (k + filters_levels fs) (each_steps s m k fs)
  each-below no_filters s m k b = tt
  each-below (query.filter f fs) s m k b =
      below-append (k + (filter_levels f + filters_levels fs)) (filter_steps m k f) (s ∷ each_steps s (m + length (filter_patterns f)) (k + filter_levels f) fs)
      (steps-more (k + filter_levels f) (k + (filter_levels f + filters_levels fs)) (filter_steps m k f) (omega arith) (filter-below f m k)) (
        below-more 0 (k + (filter_levels f + filters_levels fs)) s (omega arith) b,
        subst (λ n. AreBelow n (each_steps s (m + length (filter_patterns f)) (k + filter_levels f) fs)) (omega arith) (each-below fs s (m + length (filter_patterns f)) (k + filter_levels f) b),
      )

clause-below : (c : Clause) (m k : ℕ) → AreBelow (k + clause_levels c) (clause_steps m k c)
clause-below no_clause m k = (tt, tt)
clause-below (clause f) m k = filter-below f m k

-- a stage behind those of its clause
own-below : (c : Clause) (m k : ℕ) → AreBelow (k + length (clause_stages m k c)) (clause_steps m k c)
own-below c m k = subst (λ n. AreBelow n (clause_steps m k c)) (ap (λ n. k + n) (sym (clause-length c m k))) (clause-below c m k)

mutual
  filter-ordered : (f : Filter) (m k : ℕ) → AreOrdered k (filter_stages m k f)
  filter-ordered (compare o f l) m k = tt
  filter-ordered (matches f t) m k = tt
  filter-ordered (is_null f b) m k = tt
  filter-ordered (in_list fs p ls) m k = tt
  filter-ordered (in_level fs p q) m k = level-ordered q m k
  filter-ordered (subquery n c) m k =
      ordered-append k (clause_stages m k c) (stage m k n c whole ∷ []) (clause-ordered c m k) (own-below c m k, tt)
  filter-ordered (negation f) m k = filter-ordered f m k
  filter-ordered (all_of fs) m k = filters-ordered fs m k
  filter-ordered (any_of fs) m k = filters-ordered fs m k

  filters-ordered : (fs : Filters) (m k : ℕ) → AreOrdered k (filters_stages m k fs)
  filters-ordered no_filters m k = tt
  filters-ordered (query.filter f fs) m k =
      ordered-append k (filter_stages m k f) (filters_stages (m + length (filter_patterns f)) (k + filter_levels f) fs) (filter-ordered f m k)
      (subst (λ n. AreOrdered (k + n) (filters_stages (m + length (filter_patterns f)) (k + filter_levels f) fs)) (sym (filter-length f m k)) (filters-ordered fs (m + length (filter_patterns f)) (k + filter_levels f)))

  clause-ordered : (c : Clause) (m k : ℕ) → AreOrdered k (clause_stages m k c)
  clause-ordered no_clause m k = tt
  clause-ordered (clause f) m k = filter-ordered f m k

  pub level-ordered : (q : Level) (m k : ℕ) → AreOrdered k (level_stages m k q)
  level-ordered (level n s c g p) m k =
      ordered-append k (clause_stages m k c) (stage m k n c (answers s g p) ∷ []) (clause-ordered c m k) (own-below c m k, tt)

-- ---- what is found later

module _ (w : World) (ps : List (List ℕ)) (found more : List (List Cells)) (e : Option Entity) (row : Cells) where
  act-more : (s : Step) (st : List Bool) → IsBelow (length found) s → act w ps (found ++ more) e row s st ≡ act w ps found e row s st
  act-more (compares o f l) st b = refl
  act-more (tests_null f v) st b = refl
  act-more (lists fs ls) st b = refl
  act-more (fits f j) st b = refl
  act-more (selects fs i) st b = ap (λ o. option_map_or (list_any (equal_cells (map (λ f. field_cell w e f row) fs))) o false ∷ st) (get_left found more i b)
  act-more (shares_node n i) st b = ap (λ o. option_map_or (list_any (λ other. bytes_eq (node_in n other) (node_in e row))) o false ∷ st) (get_left found more i b)
  act-more (constant v) st b = refl
  act-more invert st b = refl
  act-more both st b = refl
  act-more either st b = refl

  run-more : (ss : List Step) (st : List Bool) → AreBelow (length found) ss → run w ps (found ++ more) e row ss st ≡ run w ps found e row ss st
  run-more [] st b = refl
  run-more (s ∷ ss) st b = run-more ss (act w ps (found ++ more) e row s st) b.1 ∙ ap (run w ps found e row ss) (act-more s st b.0)

module _ (w : World) (ps : List (List ℕ)) (found more : List (List Cells)) (s : Stage) (b : AreBelow (length found) s.steps) where
  chosen-more : chosen_rows w ps (found ++ more) s ≡ chosen_rows w ps found s
  chosen-more = λ i. filter (λ row. top (run-more w ps found more s.entity row s.steps [] b i) && is_seen w s.entity s.state row) (rows_in w s.entity)

  pub stage-more : stage_rows w ps (found ++ more) s ≡ stage_rows w ps found s
  stage-more = ap (shaped s.entity s.shape) chosen-more

  pub sum-more : stage_sum w ps (found ++ more) s ≡ stage_sum w ps found s
  sum-more = ap (shaped_sum s.entity s.shape) chosen-more
