-- A query as a flat plan: its patterns in preorder, its levels with inner ones first, and the filter of each level as steps on a
-- stack of booleans. Steps refer to patterns and levels by number; a level refers only to lower numbers.
use Rattle.std.specs.Prelude.{ℕ, ◌+◌, List, [], ◌∷◌, ◌++◌, length, Bool, true, false, not, ◌&&◌, ◌||◌, if◌then◌else◌, Option, None, map, filter, slice_get}
use Rattle.std.specs.List.{list_any}
use Rattle.std.specs.Option.{option_map_or}
use Rattle.std.specs.Str.{bytes_eq}
use Rattle.ast_tree.specs.fleet_rows.declared.row.Entity.{Entity}
use Rattle.ast_tree.specs.query_spec.declared.parts.Field.{Field}
use Rattle.ast_tree.specs.query_spec.declared.parts.Literal.{Literal}
use Rattle.ast_tree.specs.query_spec.declared.parts.Name.{Name}
use Rattle.ast_tree.specs.query_spec.declared.parts.Op.{Op}
use Rattle.ast_tree.specs.query_spec.declared.parts.Paging.{Paging}
use Rattle.ast_tree.specs.query_spec.declared.parts.Pattern.{Pattern}
use Rattle.ast_tree.specs.query_spec.declared.parts.Scalar.{Scalar}
use Rattle.ast_tree.specs.query_spec.declared.parts.Selected.{Selected}
use Rattle.ast_tree.specs.query_spec.Check.{Place, first, entity_named, shown_list}
use Rattle.ast_tree.specs.query_spec.Query as query
use Rattle.ast_tree.specs.query_spec.Query.{Filter, compare, matches, is_null, in_list, in_level, subquery, negation, all_of, any_of, Filters, no_filters, Clause, no_clause, clause, Level, level}
use Rattle.means_spec.specs.table_spec.Rows.{Cells}
use Rattle.means_spec.specs.World.{World, rows_in}
use Rattle.means_spec.specs.Cells.{node_in, text_in, is_null_cell, field_cell, field_compares, equal_cells}
use Rattle.means_spec.specs.Means.{clause_names_state, answered, is_listed, is_seen}
use Rattle.means_spec.specs.Sums.{level_sum}

pub data Step : Type 0 where
  compares : Op → Field → Scalar → Step
  tests_null : Field → Bool → Step
  lists : List Field → List Literal → Step
  -- the pattern with this number matches the field's text
  fits : Field → ℕ → Step
  -- the fields are a row of the level with this number
  selects : List Field → ℕ → Step
  -- a row of the level with this number, which has rows of the entity, belongs to the same node
  shares_node : Option Entity → ℕ → Step
  constant : Bool → Step
  invert : Step
  both : Step
  either : Step

-- what is made from the selected rows of a level: nothing, or an answer
pub data Shape : Type 0 where
  whole : Shape
  answers : Option (List Selected) → List Name → Paging → Shape

-- one level: its entity, whether its filter tests the state of nodes, its steps, and what is made from its rows
pub record Stage : Type 0 where
  pub entity : Option Entity
  pub state : Bool
  pub steps : List Step
  pub shape : Shape

-- ---- the plan of a query

-- the patterns in preorder
abbrev mutual
  pub filter_patterns : Filter → List Pattern
  filter_patterns (compare o f l) = []
  filter_patterns (matches f t) = t ∷ []
  filter_patterns (is_null f b) = []
  filter_patterns (in_list fs p ls) = []
  filter_patterns (in_level fs p q) = level_patterns q
  filter_patterns (subquery n k) = clause_patterns k
  filter_patterns (negation f) = filter_patterns f
  filter_patterns (all_of fs) = filters_patterns fs
  filter_patterns (any_of fs) = filters_patterns fs

  pub filters_patterns : Filters → List Pattern
  filters_patterns no_filters = []
  filters_patterns (query.filter f fs) = filter_patterns f ++ filters_patterns fs

  pub clause_patterns : Clause → List Pattern
  clause_patterns no_clause = []
  clause_patterns (clause f) = filter_patterns f

  pub level_patterns : Level → List Pattern
  level_patterns (level n s k g p) = clause_patterns k

-- the number of inner levels
abbrev mutual
  pub filter_levels : Filter → ℕ
  filter_levels (compare o f l) = 0
  filter_levels (matches f t) = 0
  filter_levels (is_null f b) = 0
  filter_levels (in_list fs p ls) = 0
  filter_levels (in_level fs p q) = level_levels q + 1
  filter_levels (subquery n k) = clause_levels k + 1
  filter_levels (negation f) = filter_levels f
  filter_levels (all_of fs) = filters_levels fs
  filter_levels (any_of fs) = filters_levels fs

  pub filters_levels : Filters → ℕ
  filters_levels no_filters = 0
  filters_levels (query.filter f fs) = filter_levels f + filters_levels fs

  pub clause_levels : Clause → ℕ
  clause_levels no_clause = 0
  clause_levels (clause f) = filter_levels f

  pub level_levels : Level → ℕ
  level_levels (level n s k g p) = clause_levels k

-- the steps of a filter after m earlier patterns and k earlier levels
abbrev mutual
  pub filter_steps : ℕ → ℕ → Filter → List Step
  filter_steps m k (compare o f l) = compares o f l.value ∷ []
  filter_steps m k (matches f t) = fits f m ∷ []
  filter_steps m k (is_null f b) = tests_null f b ∷ []
  filter_steps m k (in_list fs p ls) = lists fs ls ∷ []
  filter_steps m k (in_level fs p q) = selects fs (k + level_levels q) ∷ []
  filter_steps m k (subquery n c) = shares_node (entity_named n.text) (k + clause_levels c) ∷ []
  filter_steps m k (negation f) = filter_steps m k f ++ invert ∷ []
  filter_steps m k (all_of fs) = constant true ∷ each_steps both m k fs
  filter_steps m k (any_of fs) = constant false ∷ each_steps either m k fs

  -- the steps of each filter, followed by the step that joins it with those before
  pub each_steps : Step → ℕ → ℕ → Filters → List Step
  each_steps s m k no_filters = []
  each_steps s m k (query.filter f fs) =
      filter_steps m k f ++ s ∷ each_steps s (m + length (filter_patterns f)) (k + filter_levels f) fs

abbrev pub clause_steps : ℕ → ℕ → Clause → List Step
clause_steps m k no_clause = constant true ∷ []
clause_steps m k (clause f) = filter_steps m k f

abbrev pub stage : ℕ → ℕ → Name → Clause → Shape → Stage
stage m k n c shape = record {
  entity = entity_named n.text;
  state = clause_names_state c;
  steps = clause_steps m k c;
  shape = shape;
}

-- the inner levels of a filter, innermost first
abbrev mutual
  pub filter_stages : ℕ → ℕ → Filter → List Stage
  filter_stages m k (compare o f l) = []
  filter_stages m k (matches f t) = []
  filter_stages m k (is_null f b) = []
  filter_stages m k (in_list fs p ls) = []
  filter_stages m k (in_level fs p q) = level_stages m k q
  filter_stages m k (subquery n c) = clause_stages m k c ++ stage m k n c whole ∷ []
  filter_stages m k (negation f) = filter_stages m k f
  filter_stages m k (all_of fs) = filters_stages m k fs
  filter_stages m k (any_of fs) = filters_stages m k fs

  pub filters_stages : ℕ → ℕ → Filters → List Stage
  filters_stages m k no_filters = []
  filters_stages m k (query.filter f fs) =
      filter_stages m k f ++ filters_stages (m + length (filter_patterns f)) (k + filter_levels f) fs

  pub clause_stages : ℕ → ℕ → Clause → List Stage
  clause_stages m k no_clause = []
  clause_stages m k (clause f) = filter_stages m k f

  pub level_stages : ℕ → ℕ → Level → List Stage
  level_stages m k (level n s c g p) = clause_stages m k c ++ stage m k n c (answers s g p) ∷ []

-- ---- the run of a plan, with the texts of its patterns and the rows of the levels so far

abbrev pub top : List Bool → Bool
top [] = false
top (b ∷ st) = b

abbrev pub on_one : (Bool → Bool) → List Bool → List Bool
on_one f [] = []
on_one f (a ∷ st) = f a ∷ st

abbrev pub on_two : (Bool → Bool → Bool) → List Bool → List Bool
on_two f [] = []
on_two f (b ∷ []) = []
on_two f (b ∷ a ∷ st) = f a b ∷ st

module _ (w : World) (patterns : List (List ℕ)) (found : List (List Cells)) where
  -- a step on a row of the entity
  abbrev pub act : Option Entity → Cells → Step → List Bool → List Bool
  act e row (compares o f l) st = field_compares w e o f l row ∷ st
  act e row (tests_null f b) st =
      (if b then is_null_cell (field_cell w e f row) else not (is_null_cell (field_cell w e f row))) ∷ st
  act e row (lists fs ls) st = is_listed w e fs ls row ∷ st
  act e row (fits f j) st =
      option_map_or (λ p. option_map_or (w.matches p) (text_in (field_cell w e f row)) false) (slice_get patterns j) false ∷ st
  act e row (selects fs i) st =
      option_map_or (list_any (equal_cells (map (λ f. field_cell w e f row) fs))) (slice_get found i) false ∷ st
  act e row (shares_node o i) st =
      option_map_or (list_any (λ other. bytes_eq (node_in o other) (node_in e row))) (slice_get found i) false ∷ st
  act e row (constant b) st = b ∷ st
  act e row invert st = on_one not st
  act e row both st = on_two (λ a b. a && b) st
  act e row either st = on_two (λ a b. a || b) st

  abbrev pub run : Option Entity → Cells → List Step → List Bool → List Bool
  run e row [] st = st
  run e row (s ∷ ss) st = run e row ss (act e row s st)

  -- whether the stage selects the row
  abbrev pub is_chosen : Stage → Cells → Bool
  is_chosen s row = top (run s.entity row s.steps []) && is_seen w s.entity s.state row

  abbrev pub chosen_rows : Stage → List Cells
  chosen_rows s = filter (is_chosen s) (rows_in w s.entity)

abbrev pub shaped : Option Entity → Shape → List Cells → List Cells
shaped e whole rows = rows
shaped e (answers s g p) rows = answered e s g p rows

-- the place of the first sum that is too large, if an answer has sums
abbrev pub shaped_sum : Option Entity → Shape → List Cells → Option Place
shaped_sum e whole rows = None
shaped_sum e (answers s g p) rows = level_sum e (shown_list s) g rows

module _ (w : World) (patterns : List (List ℕ)) where
  abbrev pub stage_rows : List (List Cells) → Stage → List Cells
  stage_rows found s = shaped s.entity s.shape (chosen_rows w patterns found s)

  abbrev pub stage_sum : List (List Cells) → Stage → Option Place
  stage_sum found s = shaped_sum s.entity s.shape (chosen_rows w patterns found s)

  -- the rows of each stage, one stage after the other
  abbrev pub solved : List (List Cells) → List Stage → List (List Cells)
  solved found [] = found
  solved found (s ∷ ss) = solved (found ++ stage_rows found s ∷ []) ss

  -- the first sum that is too large
  abbrev pub solved_sum : List (List Cells) → List Stage → Option Place
  solved_sum found [] = None
  solved_sum found (s ∷ ss) = first (stage_sum found s) (solved_sum (found ++ stage_rows found s ∷ []) ss)

abbrev pub pattern_texts : List Pattern → List (List ℕ)
pattern_texts = map (λ (t : Pattern). t.text)
