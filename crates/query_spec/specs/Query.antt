-- Queries as trees. A place is the position that a fault would name: the path in the AST, or the number of a PQL token.
use Rattle.std.specs.Prelude.{ℕ, suc, max, List, [], ◌∷◌, Bool, Option}
use Rattle.query_spec.specs.declared.parts.Field.{Field}
use Rattle.query_spec.specs.declared.parts.Literal.{Literal}
use Rattle.query_spec.specs.declared.parts.Name.{Name}
use Rattle.query_spec.specs.declared.parts.Op.{Op}
use Rattle.query_spec.specs.declared.parts.Paging.{Paging}
use Rattle.query_spec.specs.declared.parts.Pattern.{Pattern}
use Rattle.query_spec.specs.declared.parts.Selected.{Selected}

mutual
  pub data Filter : Type 0 where
    compare : Op → Field → Literal → Filter
    matches : Field → Pattern → Filter
    is_null : Field → Bool → Filter
    -- the fields of the left side, the place of the right side, and the right side: literals or a level
    in_list : List Field → List ℕ → List Literal → Filter
    in_level : List Field → List ℕ → Level → Filter
    subquery : Name → Clause → Filter
    negation : Filter → Filter
    all_of : Filters → Filter
    any_of : Filters → Filter

  pub data Filters : Type 0 where
    no_filters : Filters
    filter : Filter → Filters → Filters

  -- a filter, or none
  pub data Clause : Type 0 where
    no_clause : Clause
    clause : Filter → Clause

  -- a selection of an entity: its name, what is shown (all columns if nothing is said), its filter, the columns of groups, and
  -- its paging
  pub data Level : Type 0 where
    level : Name → Option (List Selected) → Clause → List Name → Paging → Level

abbrev pub filters_of : List Filter → Filters
filters_of [] = no_filters
filters_of (f ∷ fs) = filter f (filters_of fs)

abbrev pub filters_list : Filters → List Filter
filters_list no_filters = []
filters_list (filter f fs) = f ∷ filters_list fs

-- the nesting depth of filters; 1 for a filter without inner filters
abbrev mutual
  pub height : Filter → ℕ
  height (compare o f l) = 1
  height (matches f p) = 1
  height (is_null f b) = 1
  height (in_list fs p ls) = 1
  height (in_level fs p q) = suc (level_height q)
  height (subquery e k) = suc (clause_height k)
  height (negation f) = suc (height f)
  height (all_of fs) = suc (heights fs)
  height (any_of fs) = suc (heights fs)

  pub heights : Filters → ℕ
  heights no_filters = 0
  heights (filter f fs) = max (height f) (heights fs)

  pub clause_height : Clause → ℕ
  clause_height no_clause = 0
  clause_height (clause f) = height f

  pub level_height : Level → ℕ
  level_height (level e s k g p) = clause_height k
