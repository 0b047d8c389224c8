-- The names that a query may use and the operands that it may compare: the place of the first fault of each kind, in preorder.
use Rattle.std.specs.Prelude.{ℕ, suc, List, [], ◌∷◌, length, Bool, true, false, ◌&&◌, ◌||◌, not, ◌==◌, Option, Some, None, is_some, is_none, IsTrue, codes, if◌then◌else◌}
use Rattle.std.specs.List.{list_any}
use Rattle.std.specs.Str.{bytes_eq}
use Rattle.fleet_rows.specs.text_spec.StampReader.{stamp_of}
use Rattle.fleet_rows.specs.Columns.{columns_of, first_named}
use Rattle.fleet_rows.specs.declared.column.Column.{Column}
use Rattle.fleet_rows.specs.declared.column.Column.TheVariants.{CatalogTimestamp, Deactivated, EndTime, Expired, FactsTimestamp, ProducerTimestamp, ReceiveTime, ReportTimestamp, StartTime, Timestamp}
use Rattle.fleet_rows.specs.declared.row.Entity.{Entity}
use Rattle.fleet_rows.specs.declared.row.Entity.TheVariants as entity
use Rattle.query_spec.specs.declared.parts.Field.{Field}
use Rattle.query_spec.specs.declared.parts.Field.TheVariants as field
use Rattle.query_spec.specs.declared.parts.Literal.{Literal}
use Rattle.query_spec.specs.declared.parts.Name.{Name}
use Rattle.query_spec.specs.declared.parts.Op.{Op}
use Rattle.query_spec.specs.declared.parts.Op.TheVariants.{Equal}
use Rattle.query_spec.specs.declared.parts.Order.{Order}
use Rattle.query_spec.specs.declared.parts.Scalar.{Scalar}
use Rattle.query_spec.specs.declared.parts.Scalar.TheVariants as scalar
use Rattle.query_spec.specs.declared.parts.Selected.{Selected}
use Rattle.query_spec.specs.declared.parts.Selected.TheVariants as selected
use Rattle.query_spec.specs.declared.sought.Sought.{Sought}
use Rattle.query_spec.specs.declared.sought.Sought.TheVariants as seek
use Rattle.query_spec.specs.Parts.{output_name, is_function}
use Rattle.query_spec.specs.Query.{Filter, compare, matches, is_null, in_list, in_level, subquery, negation, all_of, any_of, Filters, no_filters, filter, Clause, no_clause, clause, Level, level}

-- ---- entities and columns

unfoldable pub entity_named : List ℕ → Option Entity
entity_named s =
    if bytes_eq s (codes "nodes") then Some entity.Nodes
    else (if bytes_eq s (codes "factsets") then Some entity.Factsets
    else (if bytes_eq s (codes "facts") then Some entity.Facts
    else (if bytes_eq s (codes "catalogs") then Some entity.Catalogs
    else (if bytes_eq s (codes "resources") then Some entity.Resources
    else (if bytes_eq s (codes "edges") then Some entity.Edges
    else (if bytes_eq s (codes "reports") then Some entity.Reports
    else None))))))

-- the entity's column with this name, if both exist
abbrev pub column_named : Option Entity → List ℕ → Option Column
column_named None s = None
column_named (Some e) s = first_named s (columns_of e)

-- the columns whose cells are moments
abbrev pub is_stamp_column : Column → Bool
is_stamp_column CatalogTimestamp = true
is_stamp_column Deactivated = true
is_stamp_column EndTime = true
is_stamp_column Expired = true
is_stamp_column FactsTimestamp = true
is_stamp_column ProducerTimestamp = true
is_stamp_column ReceiveTime = true
is_stamp_column ReportTimestamp = true
is_stamp_column StartTime = true
is_stamp_column Timestamp = true
is_stamp_column _ = false

abbrev pub shows_moments : Option Column → Bool
shows_moments None = false
shows_moments (Some c) = is_stamp_column c

-- only resources have parameters and tags
abbrev pub has_parameters : Option Entity → Bool
has_parameters (Some entity.Resources) = true
has_parameters _ = false

-- only nodes have facts
abbrev pub has_facts : Option Entity → Bool
has_facts (Some entity.Nodes) = true
has_facts _ = false

-- ---- places

abbrev pub Place : Type 0
Place = List ℕ

-- the place, if there is a fault
abbrev pub at_fault : Bool → Place → Option Place
at_fault b p = if b then Some p else None

-- the first of two faults
abbrev pub first : Option Place → Option Place → Option Place
first (Some p) q = Some p
first None q = q

-- ---- unknown names

abbrev pub unknown_name : Option Entity → Name → Option Place
unknown_name e n = at_fault (not (is_some (column_named e n.text))) n.place

abbrev pub unknown_names : Option Entity → List Name → Option Place
unknown_names e [] = None
unknown_names e (n ∷ ns) = first (unknown_name e n) (unknown_names e ns)

abbrev pub unknown_field : Option Entity → Field → Option Place
unknown_field e (field.Column n) = unknown_name e n
unknown_field e (field.Parameter n) = at_fault (not (has_parameters e)) n.place
unknown_field e (field.Fact n) = at_fault (not (has_facts e)) n.place
unknown_field e (field.Tag p) = at_fault (not (has_parameters e)) p
unknown_field e (field.NodeState p) = None

abbrev pub unknown_selected : Option Entity → Selected → Option Place
unknown_selected e (selected.Column n) = unknown_name e n
unknown_selected e selected.Rows = None
unknown_selected e (selected.Function f n) = unknown_name e n

abbrev pub unknown_shown : Option Entity → List Selected → Option Place
unknown_shown e [] = None
unknown_shown e (s ∷ ss) = first (unknown_selected e s) (unknown_shown e ss)

abbrev pub is_empty : List Name → Bool
is_empty [] = true
is_empty (n ∷ ns) = false

-- whether rows are grouped: a function is shown, or there are columns to group by
abbrev pub makes_groups : List Selected → List Name → Bool
makes_groups ss g = list_any is_function ss || not (is_empty g)

-- whether an output has this name. With groups, orders name output columns; otherwise columns of the entity
abbrev pub has_output : List Selected → List ℕ → Bool
has_output ss s = list_any (λ x. bytes_eq (output_name x) s) ss

abbrev pub unknown_outputs : List Selected → List Order → Option Place
unknown_outputs ss [] = None
unknown_outputs ss (o ∷ os) = first (at_fault (not (has_output ss o.column.text)) o.column.place) (unknown_outputs ss os)

abbrev pub unknown_columns : Option Entity → List Order → Option Place
unknown_columns e [] = None
unknown_columns e (o ∷ os) = first (unknown_name e o.column) (unknown_columns e os)

abbrev pub shown_list : Option (List Selected) → List Selected
shown_list None = []
shown_list (Some ss) = ss

abbrev pub unknown_orders : Option Entity → List Selected → List Name → List Order → Option Place
unknown_orders e ss g os = if makes_groups ss g then unknown_outputs ss os else unknown_columns e os

-- ---- bad operands

abbrev pub is_equal : Op → Bool
is_equal Equal = true
is_equal _ = false

abbrev pub is_number : Scalar → Bool
is_number (scalar.Num s) = true
is_number _ = false

abbrev pub is_stamp : Scalar → Bool
is_stamp (scalar.Text s) = is_some (stamp_of s)
is_stamp _ = false

-- the three texts that a node's state is compared with
abbrev pub names_state : List ℕ → Bool
names_state s = bytes_eq s (codes "active") || bytes_eq s (codes "inactive") || bytes_eq s (codes "any")

abbrev pub is_state : Scalar → Bool
is_state (scalar.Text s) = names_state s
is_state _ = false

abbrev pub is_text : Scalar → Bool
is_text (scalar.Text s) = true
is_text _ = false

-- an ordering operator with a literal that is no number
abbrev pub is_bad_order : Op → Scalar → Bool
is_bad_order o l = not (is_equal o) && not (is_number l)

-- on a column of moments, a literal that is no stamp; on any other column, a bad order
abbrev pub is_bad_at_column : Option Entity → Op → Name → Scalar → Bool
is_bad_at_column e o n l = if shows_moments (column_named e n.text) then not (is_stamp l) else is_bad_order o l

-- whether the comparison isn't allowed
abbrev pub is_bad_literal : Option Entity → Op → Field → Scalar → Bool
is_bad_literal e o (field.Column n) l = is_bad_at_column e o n l
is_bad_literal e o (field.Parameter n) l = is_bad_order o l
is_bad_literal e o (field.Fact n) l = is_bad_order o l
is_bad_literal e o (field.Tag p) l = not (is_equal o && is_text l)
is_bad_literal e o (field.NodeState p) l = not (is_equal o && is_state l)

-- `~`, `null?` and `in` apply only to cells
abbrev pub bad_operand : Field → Option Place
bad_operand (field.Tag p) = Some p
bad_operand (field.NodeState p) = Some p
bad_operand _ = None

-- the first literal of an array that can't be compared with the field
abbrev pub bad_literals : Option Entity → Field → List Literal → Option Place
bad_literals e f [] = None
bad_literals e f (l ∷ ls) = first (at_fault (is_bad_literal e Equal f l.value) l.place) (bad_literals e f ls)

abbrev pub bad_array : Option Entity → List Field → List Literal → Option Place
bad_array e [] ls = None
bad_array e (f ∷ fs) ls = bad_literals e f ls

-- the first shown column that the rows aren't grouped by
abbrev pub is_grouped : List Name → List ℕ → Bool
is_grouped g s = list_any (λ n. bytes_eq n.text s) g

abbrev pub ungrouped_one : List Name → Selected → Option Place
ungrouped_one g (selected.Column n) = at_fault (not (is_grouped g n.text)) n.place
ungrouped_one g _ = None

abbrev pub first_ungrouped : List Name → List Selected → Option Place
first_ungrouped g [] = None
first_ungrouped g (s ∷ ss) = first (ungrouped_one g s) (first_ungrouped g ss)

abbrev pub ungrouped : List Name → List Selected → Option Place
ungrouped g ss = if makes_groups ss g then first_ungrouped g ss else None

-- the number of output columns; a column that occurs twice counts once
abbrev pub width : List Selected → ℕ
width [] = 0
width (s ∷ ss) = if has_output ss (output_name s) then width ss else suc (width ss)

abbrev pub columns_shown : Option Entity → Option (List Selected) → ℕ
columns_shown e (Some ss) = width ss
columns_shown None None = 0
columns_shown (Some e) None = length (columns_of e)

abbrev pub level_width : Level → ℕ
level_width (level n s k g o) = columns_shown (entity_named n.text) s

-- ---- the first fault of the sought kind

abbrev pub entity_fault : Sought → Name → Option Place
entity_fault seek.Entity n = at_fault (not (is_some (entity_named n.text))) n.place
entity_fault _ n = None

abbrev pub compared_fault : Sought → Option Entity → Op → Field → Literal → Option Place
compared_fault seek.Entity e o f l = None
compared_fault seek.Field e o f l = unknown_field e f
compared_fault seek.Operand e o f l = at_fault (is_bad_literal e o f l.value) l.place

-- the fault of the operand of `~`, `null?` or `in`
abbrev pub operand_fault : Sought → Option Entity → Field → Option Place
operand_fault seek.Entity e f = None
operand_fault seek.Field e f = unknown_field e f
operand_fault seek.Operand e f = bad_operand f

abbrev pub operands_fault : Sought → Option Entity → List Field → Option Place
operands_fault k e [] = None
operands_fault k e (f ∷ fs) = first (operand_fault k e f) (operands_fault k e fs)

-- the place of the right side of `in`, if the sides have different numbers of columns
abbrev pub sides_fault : Sought → List Field → Place → ℕ → Option Place
sides_fault seek.Operand fs p n = at_fault (not (length fs == n)) p
sides_fault _ fs p n = None

abbrev pub array_fault : Sought → Option Entity → List Field → List Literal → Option Place
array_fault seek.Operand e fs ls = bad_array e fs ls
array_fault _ e fs ls = None

abbrev pub shown_fault : Sought → Option Entity → List Selected → List Name → Option Place
shown_fault seek.Entity e ss g = None
shown_fault seek.Field e ss g = unknown_shown e ss
shown_fault seek.Operand e ss g = ungrouped g ss

-- the first unknown name among the columns of groups and the orders
abbrev pub paged_fault : Sought → Option Entity → List Selected → List Name → List Order → Option Place
paged_fault seek.Field e ss g os = first (unknown_names e g) (unknown_orders e ss g os)
paged_fault _ e ss g os = None

abbrev mutual
  pub filter_fault : Sought → Option Entity → Filter → Option Place
  filter_fault k e (compare o f l) = compared_fault k e o f l
  filter_fault k e (matches f t) = operand_fault k e f
  filter_fault k e (is_null f b) = operand_fault k e f
  filter_fault k e (in_list fs p ls) = first (operands_fault k e fs) (first (sides_fault k fs p 1) (array_fault k e fs ls))
  filter_fault k e (in_level fs p q) =
      first (operands_fault k e fs) (first (sides_fault k fs p (level_width q)) (level_fault k q))
  filter_fault k e (subquery n c) = first (entity_fault k n) (clause_fault k (entity_named n.text) c)
  filter_fault k e (negation f) = filter_fault k e f
  filter_fault k e (all_of fs) = filters_fault k e fs
  filter_fault k e (any_of fs) = filters_fault k e fs

  pub filters_fault : Sought → Option Entity → Filters → Option Place
  filters_fault k e no_filters = None
  filters_fault k e (filter f fs) = first (filter_fault k e f) (filters_fault k e fs)

  pub clause_fault : Sought → Option Entity → Clause → Option Place
  clause_fault k e no_clause = None
  clause_fault k e (clause f) = filter_fault k e f

  pub level_fault : Sought → Level → Option Place
  level_fault k (level n s c g o) =
      first (entity_fault k n) (first (shown_fault k (entity_named n.text) (shown_list s) g)
      (first (clause_fault k (entity_named n.text) c) (paged_fault k (entity_named n.text) (shown_list s) g o.order)))

-- every entity that the query names exists
abbrev pub HasEntities : Level → Type 0
HasEntities q = IsTrue (is_none (level_fault seek.Entity q))
