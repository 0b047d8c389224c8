-- How many rows a query may read. A level reads the rows that show what its filter demands of the columns by which rows are found,
-- and for each of them a row for each fact that the filter names.
use Rattle.std.specs.Prelude.{ℕ, ◌+◌, ◌*◌, List, [], ◌∷◌, ◌++◌, length, Bool, true, ◌&&◌, if◌then◌else◌, Option, Some, None, codes, filter, flat_map}
use Rattle.std.specs.List.{list_all}
use Rattle.std.specs.Str.{bytes_eq}
use Rattle.query_plan.specs.table_spec.fleet_rows.declared.row.Entity.{Entity}
use Rattle.query_plan.specs.table_spec.fleet_rows.declared.row.Entity.TheVariants.{Facts, Resources}
use Rattle.query_plan.specs.query_spec.declared.parts.Field.{Field}
use Rattle.query_plan.specs.query_spec.declared.parts.Field.TheVariants as field
use Rattle.query_plan.specs.query_spec.declared.parts.Op.{Op}
use Rattle.query_plan.specs.query_spec.declared.parts.Op.TheVariants.{Equal}
use Rattle.query_plan.specs.query_spec.declared.parts.Scalar.{Scalar}
use Rattle.query_plan.specs.query_spec.declared.parts.Scalar.TheVariants as scalar
use Rattle.query_plan.specs.query_spec.Check.{entity_named}
use Rattle.query_plan.specs.query_spec.Query as query
use Rattle.query_plan.specs.query_spec.Query.{Filter, compare, matches, is_null, in_list, in_level, subquery, negation, all_of, any_of, Filters, no_filters, Clause, no_clause, clause, Level, level}
use Rattle.query_plan.specs.table_spec.Named.{text_equals}
use Rattle.query_plan.specs.table_spec.Rows.{Cells}
use Rattle.query_plan.specs.means_spec.Cells.{cell_in}

-- ---- what a filter demands of each row that passes it

-- the column shows the text
pub record Pin : Type 0 where
  pub column : List ℕ
  pub text : List ℕ

abbrev pub pin_of : Op → Field → Scalar → List Pin
pin_of Equal (field.Column n) (scalar.Text s) = record { column = n.text; text = s } ∷ []
pin_of o f l = []

abbrev mutual
  pub filter_pins : Filter → List Pin
  filter_pins (compare o f l) = pin_of o f l.value
  filter_pins (matches f t) = []
  filter_pins (is_null f b) = []
  filter_pins (in_list fs p ls) = []
  filter_pins (in_level fs p q) = []
  filter_pins (subquery n k) = []
  filter_pins (negation f) = []
  filter_pins (all_of fs) = filters_pins fs
  filter_pins (any_of fs) = []

  pub filters_pins : Filters → List Pin
  filters_pins no_filters = []
  filters_pins (query.filter f fs) = filter_pins f ++ filters_pins fs

abbrev pub clause_pins : Clause → List Pin
clause_pins no_clause = []
clause_pins (clause f) = filter_pins f

-- ---- the rows in reach

-- the texts that are demanded of a column
abbrev pub demanded : List ℕ → List Pin → List (List ℕ)
demanded column [] = []
demanded column (p ∷ ps) = if bytes_eq column p.column then p.text ∷ demanded column ps else demanded column ps

-- the row's column shows each of the texts
abbrev pub shows : Option Entity → List ℕ → List (List ℕ) → Cells → Bool
shows e column texts row = list_all (λ text. text_equals text (cell_in e column row)) texts

-- titles lead to rows only beside a type
abbrev pub beside : List (List ℕ) → List (List ℕ) → List (List ℕ)
beside [] titles = []
beside (t ∷ ts) titles = titles

-- facts are found by name, resources by type and title
abbrev pub shows_own : Option Entity → List Pin → Cells → Bool
shows_own (Some Facts) ps row = shows (Some Facts) (codes "name") (demanded (codes "name") ps) row
shows_own (Some Resources) ps row =
    shows (Some Resources) (codes "type") (demanded (codes "type") ps) row
    && shows (Some Resources) (codes "title") (beside (demanded (codes "type") ps) (demanded (codes "title") ps)) row
shows_own e ps row = true

-- all rows are found by certname
abbrev pub is_found : Option Entity → List Pin → Cells → Bool
is_found e ps row = shows e (codes "certname") (demanded (codes "certname") ps) row && shows_own e ps row

-- the rows of the entity, if there is one
abbrev pub entity_rows : (Entity → List Cells) → Option Entity → List Cells
entity_rows rows None = []
entity_rows rows (Some e) = rows e

-- how many of them are in reach
abbrev pub reach : (Entity → List Cells) → Option Entity → List Pin → ℕ
reach rows e ps = length (filter (is_found e ps) (entity_rows rows e))

-- ---- the facts that a filter names; those of inner levels are separate

abbrev pub field_facts : Field → List (List ℕ)
field_facts (field.Fact n) = n.text ∷ []
field_facts f = []

abbrev pub fields_facts : List Field → List (List ℕ)
fields_facts = flat_map field_facts

abbrev mutual
  pub filter_facts : Filter → List (List ℕ)
  filter_facts (compare o f l) = field_facts f
  filter_facts (matches f t) = field_facts f
  filter_facts (is_null f b) = field_facts f
  filter_facts (in_list fs p ls) = fields_facts fs
  filter_facts (in_level fs p q) = fields_facts fs
  filter_facts (subquery n k) = []
  filter_facts (negation f) = filter_facts f
  filter_facts (all_of fs) = filters_facts fs
  filter_facts (any_of fs) = filters_facts fs

  pub filters_facts : Filters → List (List ℕ)
  filters_facts no_filters = []
  filters_facts (query.filter f fs) = filter_facts f ++ filters_facts fs

abbrev pub clause_facts : Clause → List (List ℕ)
clause_facts no_clause = []
clause_facts (clause f) = filter_facts f

-- ---- the bound

module _ (rows : Entity → List Cells) where
  -- a level by itself: each row in reach, and for each the facts that are named
  abbrev pub level_reads : Option Entity → Clause → ℕ
  level_reads e k = reach rows e (clause_pins k) * (1 + length (clause_facts k))

  -- all levels, each once
  abbrev mutual
    pub filter_bound : Filter → ℕ
    filter_bound (compare o f l) = 0
    filter_bound (matches f t) = 0
    filter_bound (is_null f b) = 0
    filter_bound (in_list fs p ls) = 0
    filter_bound (in_level fs p q) = level_bound q
    filter_bound (subquery n k) = clause_bound k + level_reads (entity_named n.text) k
    filter_bound (negation f) = filter_bound f
    filter_bound (all_of fs) = filters_bound fs
    filter_bound (any_of fs) = filters_bound fs

    pub filters_bound : Filters → ℕ
    filters_bound no_filters = 0
    filters_bound (query.filter f fs) = filter_bound f + filters_bound fs

    pub clause_bound : Clause → ℕ
    clause_bound no_clause = 0
    clause_bound (clause f) = filter_bound f

    pub level_bound : Level → ℕ
    level_bound (level n s k g p) = clause_bound k + level_reads (entity_named n.text) k
