-- The inner level that a filter demands a row's node to be of, and the nodes that it found.
use Rattle.std.specs.Prelude.{◌≡◌, ℕ, List, [], ◌∷◌, Bool, true, false, ◌&&◌, ◌⊎◌, Option, Some, None, codes, slice_get, nat_lt}
use Rattle.std.specs.List.{list_any}
use Rattle.std.specs.Option.{option_map_or}
use Rattle.std.specs.Str.{bytes_eq}
use Rattle.fleet_tables.specs.Spans.{places_of}
use Rattle.fleet_tables.specs.fleet_rows.declared.row.Entity.{Entity}
use Rattle.query_plan.specs.Plan.{Step, compares, tests_null, lists, fits, selects, shares_node, constant, invert, both, either}
use Rattle.query_plan.specs.means_spec.Cells.{node_in, equal_cells}
use Rattle.query_plan.specs.query_spec.declared.parts.Field.{Field}
use Rattle.query_plan.specs.query_spec.declared.parts.Field.TheVariants as field
use Rattle.query_plan.specs.table_spec.Cells.{text_cell}
use Rattle.query_plan.specs.table_spec.Columns.{columns}
use Rattle.query_plan.specs.table_spec.Named.{cell_under, text_equals}
use Rattle.query_plan.specs.table_spec.Rows.{Cells}
use Rattle.query_reach.specs.Reach.{Pin, is_found}
use Rattle.query_reading.specs.declared.joins.Join.{Join}
use Rattle.query_reading.specs.declared.joins.Join.TheVariants.{ByCell, ByNode}

-- ---- which level a filter demands

abbrev pub column_join : Bool → ℕ → Option Join
column_join true i = Some (ByCell i)
column_join false i = None

abbrev pub field_join : Field → ℕ → Option Join
field_join (field.Column n) i = column_join (bytes_eq n.text (codes "certname")) i
field_join (field.Parameter n) i = None
field_join (field.Fact n) i = None
field_join (field.Tag p) i = None
field_join (field.NodeState p) i = None

-- a certname alone is compared
abbrev pub fields_join : List Field → ℕ → Option Join
fields_join [] i = None
fields_join (f ∷ []) i = field_join f i
fields_join (f ∷ g ∷ fs) i = None

abbrev pub first_join : Option Join → Option Join → Option Join
first_join None b = b
first_join (Some j) b = Some j

-- for each boolean on the stack, a level that is demanded where it is true

abbrev pub loosened : List (Option Join) → List (Option Join)
loosened [] = []
loosened (a ∷ st) = None ∷ st

abbrev pub loosened_two : List (Option Join) → List (Option Join)
loosened_two [] = []
loosened_two (b ∷ []) = []
loosened_two (b ∷ a ∷ st) = None ∷ st

abbrev pub joined : List (Option Join) → List (Option Join)
joined [] = []
joined (b ∷ []) = []
joined (b ∷ a ∷ st) = first_join a b ∷ st

abbrev pub join_act : Step → List (Option Join) → List (Option Join)
join_act (compares o f l) st = None ∷ st
join_act (tests_null f b) st = None ∷ st
join_act (lists fs ls) st = None ∷ st
join_act (fits f j) st = None ∷ st
join_act (selects fs i) st = fields_join fs i ∷ st
join_act (shares_node o i) st = Some (ByNode o i) ∷ st
join_act (constant b) st = None ∷ st
join_act invert st = loosened st
join_act both st = joined st
join_act either st = loosened_two st

abbrev pub join_run : List Step → List (Option Join) → List (Option Join)
join_run [] st = st
join_run (s ∷ ss) st = join_run ss (join_act s st)

abbrev pub join_top : List (Option Join) → Option Join
join_top [] = None
join_top (j ∷ st) = j

abbrev pub step_join : List Step → Option Join
step_join ss = join_top (join_run ss [])

-- ---- the nodes that the level found

-- the level has this node
abbrev pub has_node : List (List Cells) → Join → List ℕ → Bool
has_node found (ByCell i) s = option_map_or (list_any (equal_cells (text_cell s ∷ []))) (slice_get found i) false
has_node found (ByNode o i) s = option_map_or (list_any (λ other. bytes_eq s (node_in o other))) (slice_get found i) false

abbrev pub is_among : List (List ℕ) → List ℕ → Bool
is_among nodes s = list_any (bytes_eq s) nodes

-- each node of the level is among these
abbrev pub HasNodes : List (List Cells) → Join → List (List ℕ) → Type 0
HasNodes found j nodes = (s : List ℕ) → has_node found j s ≡ true → is_among nodes s ≡ true

-- the same of the level that is demanded, if one is
abbrev pub Joins : Option Join → List (List Cells) → List (List ℕ) → Type 0
Joins None found nodes = ⊥
Joins (Some j) found nodes = HasNodes found j nodes

-- the row's certname is one of these
abbrev pub is_of : Entity → List (List ℕ) → Cells → Bool
is_of e nodes row = list_any (λ s. text_equals s (cell_under (columns e) (codes "certname") row)) nodes

-- ---- the places that are read

-- the last of the places, if there is one, is below
abbrev pub below : List ℕ → ℕ → Bool
below [] y = true
below (x ∷ []) y = nat_lt x y
below (x ∷ x' ∷ xs) y = below (x' ∷ xs) y

-- the second places stand behind the first
abbrev pub stands_behind : List ℕ → List ℕ → Bool
stands_behind xs [] = true
stands_behind xs (y ∷ ys) = below xs y

-- the places of all rows in reach, or of those of the nodes alone
abbrev pub IsReadBy : Entity → List Pin → List (List ℕ) → List Cells → List ℕ → Type 0
IsReadBy e ps nodes rows places =
    (places ≡ places_of (is_found (Some e) ps) rows) ⊎ (places ≡ places_of (λ row. is_of e nodes row && is_found (Some e) ps row) rows)

-- where a level is limited to the nodes
abbrev pub AreReadBy : Bool → Entity → List Pin → List (List ℕ) → List Cells → List ℕ → Type 0
AreReadBy true e ps nodes rows places = IsReadBy e ps nodes rows places
AreReadBy false e ps nodes rows places = places ≡ places_of (is_found (Some e) ps) rows
