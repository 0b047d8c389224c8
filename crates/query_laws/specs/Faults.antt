-- The faults of names and operands in a query: of each kind all places, in no order, and which of them comes first.
use Rattle.std.specs.Prelude.{◌≡◌, ◌≢◌, ◌⊎◌, ◌<◌, List, [], ◌∷◌, length, true, false, Option, Some, None, is_some, if◌then◌else◌}
use Rattle.query_spec.specs.fleet_rows.declared.row.Entity.{Entity}
use Rattle.query_spec.specs.declared.parts.Field.{Field}
use Rattle.query_spec.specs.declared.parts.Field.TheVariants as field
use Rattle.query_spec.specs.declared.parts.Literal.{Literal}
use Rattle.query_spec.specs.declared.parts.Name.{Name}
use Rattle.query_spec.specs.declared.parts.Op.TheVariants.{Equal}
use Rattle.query_spec.specs.declared.parts.Order.{Order}
use Rattle.query_spec.specs.declared.parts.Selected.{Selected}
use Rattle.query_spec.specs.declared.parts.Selected.TheVariants as selected
use Rattle.query_spec.specs.declared.sought.Sought.{Sought}
use Rattle.query_spec.specs.declared.sought.Sought.TheVariants as seek
use Rattle.query_spec.specs.Check.{Place, entity_named, column_named, has_parameters, has_facts, makes_groups, has_output, is_grouped, is_bad_literal, shown_list, level_width}
use Rattle.query_spec.specs.Parts.{unpaged}
use Rattle.query_spec.specs.Query.{Filter, compare, matches, is_null, in_list, in_level, subquery, negation, all_of, any_of, Filters, no_filters, filter, Clause, no_clause, clause, Level, level}

-- ---- the first place in preorder

-- a list comes before its elements, and an element before those to its right
abbrev pub IsAtOrBefore : Place → Place → Type 0
IsAtOrBefore [] q = Unit {0}
IsAtOrBefore (i ∷ p) [] = ⊥
IsAtOrBefore (i ∷ p) (j ∷ q) = (i < j) ⊎ ((i ≡ j) × IsAtOrBefore p q)

-- A place that is told has a fault, and each place with a fault is that one or behind it.
pub record IsFirst (told : Option Place) (Fault : Place → Type 0) : Type 0 where
  pub is_fault : (p : Place) → told ≡ Some p → Fault p
  pub comes_first : (q : Place) → Fault q → (p : Place) × (told ≡ Some p) × IsAtOrBefore p q

-- ---- all parts of a query

-- some element of the list has it
abbrev pub SomeOf : {A : Type 0} → (A → Type 0) → List A → Type 0
SomeOf Has [] = ⊥
SomeOf Has (x ∷ xs) = Has x ⊎ SomeOf Has xs

-- Some test has T, on rows of its entity, or some selection has S: that of the query, the right side of an `in`, or a subquery,
-- which shows nothing.
abbrev mutual
  pub InFilter : (Option Entity → Filter → Type 0) → (Level → Type 0) → Option Entity → Filter → Type 0
  InFilter T S e (negation f) = InFilter T S e f
  InFilter T S e (all_of fs) = InFilters T S e fs
  InFilter T S e (any_of fs) = InFilters T S e fs
  InFilter T S e (in_level fs p q) = T e (in_level fs p q) ⊎ InLevel T S q
  InFilter T S e (subquery n c) = S (level n None no_clause [] unpaged) ⊎ InClause T S (entity_named n.text) c
  InFilter T S e f = T e f

  pub InFilters : (Option Entity → Filter → Type 0) → (Level → Type 0) → Option Entity → Filters → Type 0
  InFilters T S e no_filters = ⊥
  InFilters T S e (filter f fs) = InFilter T S e f ⊎ InFilters T S e fs

  pub InClause : (Option Entity → Filter → Type 0) → (Level → Type 0) → Option Entity → Clause → Type 0
  InClause T S e no_clause = ⊥
  InClause T S e (clause f) = InFilter T S e f

  pub InLevel : (Option Entity → Filter → Type 0) → (Level → Type 0) → Level → Type 0
  InLevel T S (level n s c g o) = S (level n s c g o) ⊎ InClause T S (entity_named n.text) c

-- ---- unknown entities

abbrev pub NoEntity : Place → Name → Type 0
NoEntity at n = (entity_named n.text ≡ None) × (at ≡ n.place)

-- ---- unknown fields: a name that isn't there for its entity

abbrev pub NoColumn : Option Entity → Place → Name → Type 0
NoColumn e at n = (column_named e n.text ≡ None) × (at ≡ n.place)

-- parameters and tags are there on resources, facts on nodes
abbrev pub NoField : Option Entity → Place → Field → Type 0
NoField e at (field.Column n) = NoColumn e at n
NoField e at (field.Parameter n) = (has_parameters e ≡ false) × (at ≡ n.place)
NoField e at (field.Fact n) = (has_facts e ≡ false) × (at ≡ n.place)
NoField e at (field.Tag p) = (has_parameters e ≡ false) × (at ≡ p)
NoField e at (field.NodeState p) = ⊥

-- some field of the test
abbrev pub SomeField : (Field → Type 0) → Filter → Type 0
SomeField Has (compare o f l) = Has f
SomeField Has (matches f t) = Has f
SomeField Has (is_null f b) = Has f
SomeField Has (in_list fs p ls) = SomeOf Has fs
SomeField Has (in_level fs p q) = SomeOf Has fs
SomeField Has _ = ⊥

-- a column that is shown, or that a function is applied to
abbrev pub ShowsNoColumn : Option Entity → Place → Selected → Type 0
ShowsNoColumn e at (selected.Column n) = NoColumn e at n
ShowsNoColumn e at (selected.Function f n) = NoColumn e at n
ShowsNoColumn e at selected.Rows = ⊥

-- Orders name output columns where rows are grouped, else columns of the entity.
abbrev pub NoOrder : Option Entity → List Selected → List Name → Place → Order → Type 0
NoOrder e ss g at o =
    ((if makes_groups ss g then has_output ss o.column.text else is_some (column_named e o.column.text)) ≡ false)
    × (at ≡ o.column.place)

-- ---- bad operands

-- `~`, `null?` and `in` don't apply to `tag` and `node_state`
abbrev pub NoCell : Place → Field → Type 0
NoCell at (field.Tag p) = at ≡ p
NoCell at (field.NodeState p) = at ≡ p
NoCell at _ = ⊥

-- an array is compared with the first field
abbrev pub SomeLiteral : Option Entity → Place → List Field → List Literal → Type 0
SomeLiteral e at [] ls = ⊥
SomeLiteral e at (f ∷ fs) ls = SomeOf (λ l. (is_bad_literal e Equal f l.value ≡ true) × (at ≡ l.place)) ls

-- A literal that the comparison doesn't allow; an operand that is no cell; sides of different numbers of columns; a literal of an
-- array that `=` doesn't allow.
abbrev pub BadTest : Place → Option Entity → Filter → Type 0
BadTest at e (compare o f l) = (is_bad_literal e o f l.value ≡ true) × (at ≡ l.place)
BadTest at e (matches f t) = NoCell at f
BadTest at e (is_null f b) = NoCell at f
BadTest at e (in_list fs p ls) = SomeOf (NoCell at) fs ⊎ (((length fs ≢ 1) × (at ≡ p)) ⊎ SomeLiteral e at fs ls)
BadTest at e (in_level fs p q) = SomeOf (NoCell at) fs ⊎ ((length fs ≢ level_width q) × (at ≡ p))
BadTest at e _ = ⊥

-- a shown column that the rows aren't grouped by
abbrev pub Ungrouped : List Name → Place → Selected → Type 0
Ungrouped g at (selected.Column n) = (is_grouped g n.text ≡ false) × (at ≡ n.place)
Ungrouped g at _ = ⊥

-- ---- the faults of each kind

abbrev pub TestFault : Sought → Place → Option Entity → Filter → Type 0
TestFault seek.Entity at e f = ⊥
TestFault seek.Field at e f = SomeField (NoField e at) f
TestFault seek.Operand at e f = BadTest at e f

abbrev pub OwnFault : Sought → Place → Level → Type 0
OwnFault seek.Entity at (level n s c g o) = NoEntity at n
OwnFault seek.Field at (level n s c g o) =
    SomeOf (ShowsNoColumn (entity_named n.text) at) (shown_list s) ⊎ (SomeOf (NoColumn (entity_named n.text) at) g
    ⊎ SomeOf (NoOrder (entity_named n.text) (shown_list s) g at) o.order)
OwnFault seek.Operand at (level n s c g o) = (makes_groups (shown_list s) g ≡ true) × SomeOf (Ungrouped g at) (shown_list s)

-- a fault of this kind stands there
abbrev pub HasFault : Sought → Level → Place → Type 0
HasFault k q at = InLevel (TestFault k at) (OwnFault k at) q
