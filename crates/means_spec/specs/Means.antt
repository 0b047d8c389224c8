-- The rows that a query selects.
use Rattle.std.specs.Prelude.{List, [], ◌∷◌, Bool, true, false, not, ◌&&◌, ◌||◌, if◌then◌else◌, Option, map, filter}
use Rattle.std.specs.List.{list_any}
use Rattle.std.specs.Option.{option_map_or}
use Rattle.std.specs.Str.{bytes_eq}
use Rattle.table_spec.specs.fleet_rows.declared.row.Entity.{Entity}
use Rattle.query_spec.specs.declared.parts.Field.{Field}
use Rattle.query_spec.specs.declared.parts.Field.TheVariants as field
use Rattle.query_spec.specs.declared.parts.Literal.{Literal}
use Rattle.query_spec.specs.declared.parts.Name.{Name}
use Rattle.query_spec.specs.declared.parts.Paging.{Paging}
use Rattle.query_spec.specs.declared.parts.Selected.{Selected}
use Rattle.query_spec.specs.Check.{entity_named, makes_groups, shown_list}
use Rattle.query_spec.specs.Query as query
use Rattle.query_spec.specs.Query.{Filter, compare, matches, is_null, in_list, in_level, subquery, negation, all_of, any_of, Filters, no_filters, Clause, no_clause, clause, Level, level}
use Rattle.table_spec.specs.Rows.{Cells}
use Rattle.means_spec.specs.World.{World, rows_in}
use Rattle.means_spec.specs.Cells.{names_in, node_in, text_in, is_null_cell, field_cell, equals, field_compares, equal_cells}
use Rattle.means_spec.specs.Shown.{output_names, shown_cells}
use Rattle.means_spec.specs.Paging.{paged}
use Rattle.means_spec.specs.Groups.{group_rows}

-- ---- whether a level's filter tests the state of nodes; inner levels are separate

abbrev pub is_state : Field → Bool
is_state (field.NodeState p) = true
is_state _ = false

abbrev mutual
  pub names_state : Filter → Bool
  names_state (compare o f l) = is_state f
  names_state (matches f t) = is_state f
  names_state (is_null f b) = is_state f
  names_state (in_list fs p ls) = list_any is_state fs
  names_state (in_level fs p q) = list_any is_state fs
  names_state (subquery n k) = false
  names_state (negation f) = names_state f
  names_state (all_of fs) = some_names_state fs
  names_state (any_of fs) = some_names_state fs

  pub some_names_state : Filters → Bool
  some_names_state no_filters = false
  some_names_state (query.filter f fs) = names_state f || some_names_state fs

abbrev pub clause_names_state : Clause → Bool
clause_names_state no_clause = false
clause_names_state (clause f) = names_state f

-- ---- the answer of a level, from the rows that its filter selects

-- groups are sorted by what they show, other rows by any column of the entity
abbrev pub answered : Option Entity → Option (List Selected) → List Name → Paging → List Cells → List Cells
answered e ss g p rows =
    if makes_groups (shown_list ss) g then paged (output_names e ss) p (group_rows e (shown_list ss) g rows)
    else map (shown_cells e ss) (paged (names_in e) p rows)

-- the single cell equals some literal
abbrev pub is_listed : World → Option Entity → List Field → List Literal → Cells → Bool
is_listed w e (f ∷ []) ls row = list_any (λ (l : Literal). equals (field_cell w e f row) l.value) ls
is_listed w e _ ls row = false

-- ---- filters, and the levels within them

module _ (w : World) where
  -- rows of inactive nodes are selected only if the filter tests the state of nodes
  abbrev pub is_seen : Option Entity → Bool → Cells → Bool
  is_seen e state row = state || not (w.is_inactive (node_in e row))

  abbrev mutual
    -- whether the filter holds for a row of the entity
    pub holds : Filter → Option Entity → Cells → Bool
    holds (compare o f l) e row = field_compares w e o f l.value row
    holds (matches f t) e row = option_map_or (w.matches t.text) (text_in (field_cell w e f row)) false
    holds (is_null f b) e row = if b then is_null_cell (field_cell w e f row) else not (is_null_cell (field_cell w e f row))
    holds (in_list fs p ls) e row = is_listed w e fs ls row
    holds (in_level fs p q) e row = list_any (equal_cells (map (λ f. field_cell w e f row) fs)) (selected q)
    holds (subquery n k) e row =
        list_any (λ other. bytes_eq (node_in (entity_named n.text) other) (node_in e row))
        (filter (λ other. passes k (entity_named n.text) other) (rows_in w (entity_named n.text)))
    holds (negation f) e row = not (holds f e row)
    holds (all_of fs) e row = all_hold fs e row
    holds (any_of fs) e row = some_holds fs e row

    pub all_hold : Filters → Option Entity → Cells → Bool
    all_hold no_filters e row = true
    all_hold (query.filter f fs) e row = holds f e row && all_hold fs e row

    pub some_holds : Filters → Option Entity → Cells → Bool
    some_holds no_filters e row = false
    some_holds (query.filter f fs) e row = holds f e row || some_holds fs e row

    -- whether a level with this clause selects the row
    pub passes : Clause → Option Entity → Cells → Bool
    passes no_clause e row = is_seen e false row
    passes (clause f) e row = holds f e row && is_seen e (names_state f) row

    -- the rows of a level
    pub selected : Level → List Cells
    selected (level n s k g p) =
        answered (entity_named n.text) s g p
        (filter (λ row. passes k (entity_named n.text) row) (rows_in w (entity_named n.text)))
