-- The steps of a filter leave on the stack whether it holds, and the stages of a query find its rows.
use Rattle.std.proofs.Common.{◌≡◌, ◌∙◌, ℕ, suc, ◌+◌, List, [], ◌∷◌, ◌++◌, length, refl, sym, ap, subst, arith, Bool, true, false, ◌&&◌, ◌||◌, Some, None, Option, map}
use Rattle.std.specs.Prelude.{filter, slice_get}
use Rattle.std.specs.List.{list_any}
use Rattle.std.specs.Option.{option_map_or}
use Rattle.std.specs.Str.{bytes_eq}
use Rattle.std.proofs.Math.Bool.{or_assoc}
use Rattle.ast_tree.specs.fleet_rows.declared.row.Entity.{Entity}
use Rattle.ast_tree.specs.query_spec.declared.parts.Name.{Name}
use Rattle.ast_tree.specs.query_spec.declared.parts.Pattern.{Pattern}
use Rattle.ast_tree.specs.query_spec.Check.{Place, first, entity_named, shown_list}
use Rattle.ast_tree.specs.query_spec.Query as query
use Rattle.ast_tree.specs.query_spec.Query.{Filter, compare, matches, is_null, in_list, in_level, subquery, negation, all_of, any_of, Filters, no_filters, Clause, no_clause, clause, Level, level}
use Rattle.means_spec.specs.table_spec.Rows.{Cells}
use Rattle.means_spec.specs.World.{World, rows_in}
use Rattle.means_spec.specs.Cells.{node_in, text_in, field_cell, equal_cells}
use Rattle.means_spec.specs.Means.{names_state, answered, is_seen, holds, all_hold, some_holds, passes, selected}
use Rattle.means_spec.specs.Sums.{level_sum, filter_sum, filters_sum, clause_sum, too_large}
use Rattle.query_plan.specs.Plan.{Step, Stage, stage, whole, answers, invert, both, either, filter_patterns, filters_patterns, clause_patterns, level_patterns, filter_levels, level_levels, filter_steps, each_steps, filter_stages, filters_stages, clause_stages, level_stages, act, run, top, chosen_rows, stage_rows, stage_sum}
use Rattle.query_plan.proofs.Counts.{filter-length, clause-length}
use Rattle.query_plan.proofs.Walks.{or-false}

and_assoc : (a b c : Bool) → (a && b) && c ≡ a && (b && c)
and_assoc true b c = refl
and_assoc false b c = refl

and-true : (a : Bool) → a ≡ a && true
and-true true = refl
and-true false = refl

module _ (w : World) (ps : List (List ℕ)) (found : List (List Cells)) where
  run-append : (e : Option Entity) (row : Cells) (ss ts : List Step) (st : List Bool) → run w ps found e row (ss ++ ts) st ≡ run w ps found e row ts (run w ps found e row ss st)
  run-append e row [] ts st = refl
  run-append e row (s ∷ ss) ts st = run-append e row ss ts (act w ps found e row s st)

  -- the patterns from number m on have these texts
  abbrev pub Texts : ℕ → List Pattern → Type 0
  Texts m [] = Unit {0}
  Texts m (t ∷ ts) = (slice_get ps m ≡ Some t.text) × Texts (suc m) ts

  texts-append : (m : ℕ) (xs ys : List Pattern) → Texts m (xs ++ ys) → Texts m xs × Texts (m + length xs) ys
  texts-append m [] ys h = (tt, subst (λ n. Texts n ys) (omega arith) h)
  texts-append m (x ∷ xs) ys h =
      let a = texts-append (suc m) xs ys h.1 in
      ((h.0, a.0), subst (λ n. Texts n ys) (omega arith) a.1)

  -- the levels from number k on have found what their stages say
  abbrev pub Solved : ℕ → List Stage → Type 0
  Solved k [] = Unit {0}
  Solved k (s ∷ ss) = (slice_get found k ≡ Some (stage_rows w ps found s)) × Solved (suc k) ss

  solved-append : (k : ℕ) (xs ys : List Stage) → Solved k (xs ++ ys) → Solved k xs × Solved (k + length xs) ys
  solved-append k [] ys h = (tt, subst (λ n. Solved n ys) (omega arith) h)
  solved-append k (x ∷ xs) ys h =
      let a = solved-append (suc k) xs ys h.1 in
      ((h.0, a.0), subst (λ n. Solved n ys) (omega arith) a.1)

  -- a filter that is joined with those before, and the others behind it
  each-on : (e : Option Entity) (row : Cells) (xs ys : List Step) (s : Step) (st : List Bool) (a b : Bool) → run w ps found e row xs (a ∷ st) ≡ b ∷ a ∷ st → run w ps found e row (xs ++ s ∷ ys) (a ∷ st) ≡ run w ps found e row ys (act w ps found e row s (b ∷ a ∷ st))
  each-on e row xs ys s st a b h = run-append e row xs (s ∷ ys) (a ∷ st) ∙ ap (run w ps found e row (s ∷ ys)) h

  mutual
    pub filter-holds : (f : Filter) (m k : ℕ) (e : Option Entity) (row : Cells) (st : List Bool) → Texts m (filter_patterns f) → Solved k (filter_stages m k f) → run w ps found e row (filter_steps m k f) st ≡ holds w f e row ∷ st
    filter-holds (compare o f l) m k e row st t s = refl
    filter-holds (matches f p) m k e row st t s = ap (λ o. option_map_or (λ p. option_map_or (w.matches p) (text_in (field_cell w e f row)) false) o false ∷ st) t.0
    filter-holds (is_null f b) m k e row st t s = refl
    filter-holds (in_list fs p ls) m k e row st t s = refl
    filter-holds (in_level fs p q) m k e row st t s =
        ap (λ o. option_map_or (list_any (equal_cells (map (λ f. field_cell w e f row) fs))) o false ∷ st) (level-selected q m k t s)
    filter-holds (subquery n c) m k e row st t s =
        let a = solved-append k (clause_stages m k c) (stage m k n c whole ∷ []) s in
        ap (λ o. option_map_or (list_any (λ other. bytes_eq (node_in (entity_named n.text) other) (node_in e row))) o false ∷ st)
        (ap (λ i. slice_get found (k + i)) (sym (clause-length c m k))
        ∙ a.1.0
        ∙ ap (λ rows. Some rows) (chosen-passes c n m k t a.0))
    filter-holds (negation f) m k e row st t s =
        run-append e row (filter_steps m k f) (invert ∷ []) st ∙ ap (run w ps found e row (invert ∷ [])) (filter-holds f m k e row st t s)
    filter-holds (all_of fs) m k e row st t s = all-hold fs m k e row true st t s
    filter-holds (any_of fs) m k e row st t s = any-holds fs m k e row false st t s

    all-hold : (fs : Filters) (m k : ℕ) (e : Option Entity) (row : Cells) (a : Bool) (st : List Bool) → Texts m (filters_patterns fs) → Solved k (filters_stages m k fs) → run w ps found e row (each_steps both m k fs) (a ∷ st) ≡ (a && all_hold w fs e row) ∷ st
    all-hold no_filters m k e row a st t s = ap (λ b. b ∷ st) (and-true a)
    all-hold (query.filter f fs) m k e row a st t s =
        let x = texts-append m (filter_patterns f) (filters_patterns fs) t in
        let y = solved-append k (filter_stages m k f) (filters_stages (m + length (filter_patterns f)) (k + filter_levels f) fs) s in
        let z = subst (λ n. Solved (k + n) (filters_stages (m + length (filter_patterns f)) (k + filter_levels f) fs)) (filter-length f m k) y.1 in
        each-on e row (filter_steps m k f) (each_steps both (m + length (filter_patterns f)) (k + filter_levels f) fs) both st a (holds w f e row) (filter-holds f m k e row (a ∷ st) x.0 y.0)
        ∙ all-hold fs (m + length (filter_patterns f)) (k + filter_levels f) e row (a && holds w f e row) st x.1 z
        ∙ ap (λ b. b ∷ st) (and_assoc a (holds w f e row) (all_hold w fs e row))

    any-holds : (fs : Filters) (m k : ℕ) (e : Option Entity) (row : Cells) (a : Bool) (st : List Bool) → Texts m (filters_patterns fs) → Solved k (filters_stages m k fs) → run w ps found e row (each_steps either m k fs) (a ∷ st) ≡ (a || some_holds w fs e row) ∷ st
    any-holds no_filters m k e row a st t s = ap (λ b. b ∷ st) (or-false a)
    any-holds (query.filter f fs) m k e row a st t s =
        let x = texts-append m (filter_patterns f) (filters_patterns fs) t in
        let y = solved-append k (filter_stages m k f) (filters_stages (m + length (filter_patterns f)) (k + filter_levels f) fs) s in
        let z = subst (λ n. Solved (k + n) (filters_stages (m + length (filter_patterns f)) (k + filter_levels f) fs)) (filter-length f m k) y.1 in
        each-on e row (filter_steps m k f) (each_steps either (m + length (filter_patterns f)) (k + filter_levels f) fs) either st a (holds w f e row) (filter-holds f m k e row (a ∷ st) x.0 y.0)
        ∙ any-holds fs (m + length (filter_patterns f)) (k + filter_levels f) e row (a || holds w f e row) st x.1 z
        ∙ ap (λ b. b ∷ st) (or_assoc a (holds w f e row) (some_holds w fs e row))

    chosen-passes : (c : Clause) (n : Name) (m k : ℕ) → Texts m (clause_patterns c) → Solved k (clause_stages m k c) → chosen_rows w ps found (stage m k n c whole) ≡ filter (λ row. passes w c (entity_named n.text) row) (rows_in w (entity_named n.text))
    chosen-passes no_clause n m k t s = refl
    chosen-passes (clause f) n m k t s = λ i. filter (λ row. top (filter-holds f m k (entity_named n.text) row [] t s i) && is_seen w (entity_named n.text) (names_state f) row) (rows_in w (entity_named n.text))

    -- the rows of a level are those that its stage found
    pub level-selected : (q : Level) (m k : ℕ) → Texts m (level_patterns q) → Solved k (level_stages m k q) → slice_get found (k + level_levels q) ≡ Some (selected w q)
    level-selected (level n s c g p) m k t h =
        let a = solved-append k (clause_stages m k c) (stage m k n c (answers s g p) ∷ []) h in
        ap (λ i. slice_get found (k + i)) (sym (clause-length c m k))
        ∙ a.1.0
        ∙ ap (λ rows. Some (answered (entity_named n.text) s g p rows)) (chosen-passes c n m k t a.0)

  -- ---- sums

  -- the first that is too large, where all stages have found their rows
  abbrev pub sums : List Stage → Option Place
  sums [] = None
  sums (s ∷ ss) = first (stage_sum w ps found s) (sums ss)

  first_assoc : (a b c : Option Place) → first (first a b) c ≡ first a (first b c)
  first_assoc (Some p) b c = refl
  first_assoc None b c = refl

  sums-append : (xs ys : List Stage) → sums (xs ++ ys) ≡ first (sums xs) (sums ys)
  sums-append [] ys = refl
  sums-append (x ∷ xs) ys = ap (first (stage_sum w ps found x)) (sums-append xs ys) ∙ sym (first_assoc (stage_sum w ps found x) (sums xs) (sums ys))

  first-none : (a : Option Place) → first a None ≡ a
  first-none (Some p) = refl
  first-none None = refl

  mutual
    filter-sum : (f : Filter) (m k : ℕ) → Texts m (filter_patterns f) → Solved k (filter_stages m k f) → sums (filter_stages m k f) ≡ filter_sum w f
    filter-sum (compare o f l) m k t s = refl
    filter-sum (matches f p) m k t s = refl
    filter-sum (is_null f b) m k t s = refl
    filter-sum (in_list fs p ls) m k t s = refl
    filter-sum (in_level fs p q) m k t s = level-sum q m k t s
    filter-sum (subquery n c) m k t s =
        let a = solved-append k (clause_stages m k c) (stage m k n c whole ∷ []) s in
        sums-append (clause_stages m k c) (stage m k n c whole ∷ []) ∙ first-none (sums (clause_stages m k c)) ∙ clause-sum c m k t a.0
    filter-sum (negation f) m k t s = filter-sum f m k t s
    filter-sum (all_of fs) m k t s = filters-sum fs m k t s
    filter-sum (any_of fs) m k t s = filters-sum fs m k t s

    filters-sum : (fs : Filters) (m k : ℕ) → Texts m (filters_patterns fs) → Solved k (filters_stages m k fs) → sums (filters_stages m k fs) ≡ filters_sum w fs
    filters-sum no_filters m k t s = refl
    filters-sum (query.filter f fs) m k t s =
        let x = texts-append m (filter_patterns f) (filters_patterns fs) t in
        let y = solved-append k (filter_stages m k f) (filters_stages (m + length (filter_patterns f)) (k + filter_levels f) fs) s in
        let z = subst (λ n. Solved (k + n) (filters_stages (m + length (filter_patterns f)) (k + filter_levels f) fs)) (filter-length f m k) y.1 in
        sums-append (filter_stages m k f) (filters_stages (m + length (filter_patterns f)) (k + filter_levels f) fs)
        ∙ (λ i. first (filter-sum f m k x.0 y.0 i) (filters-sum fs (m + length (filter_patterns f)) (k + filter_levels f) x.1 z i))

    clause-sum : (c : Clause) (m k : ℕ) → Texts m (clause_patterns c) → Solved k (clause_stages m k c) → sums (clause_stages m k c) ≡ clause_sum w c
    clause-sum no_clause m k t s = refl
    clause-sum (clause f) m k t s = filter-sum f m k t s

    pub level-sum : (q : Level) (m k : ℕ) → Texts m (level_patterns q) → Solved k (level_stages m k q) → sums (level_stages m k q) ≡ too_large w q
    level-sum (level n s c g p) m k t h =
        let a = solved-append k (clause_stages m k c) (stage m k n c (answers s g p) ∷ []) h in
        sums-append (clause_stages m k c) (stage m k n c (answers s g p) ∷ [])
        ∙ (λ i. first (clause-sum c m k t a.0 i) (first-none (level_sum (entity_named n.text) (shown_list s) g (chosen-passes c n m k t a.0 i)) i))
