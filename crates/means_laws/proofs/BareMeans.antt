-- Places say nothing.
use Rattle.std.proofs.Common.{◌≡◌, ◌∙◌, ℕ, List, [], ◌∷◌, ◌++◌, Bool, true, false, not, ◌&&◌, ◌||◌, Option, Some, None, refl, sym, ap, map, if◌then◌else◌}
use Rattle.std.specs.Prelude.{filter}
use Rattle.std.specs.List.{list_any}
use Rattle.std.specs.Str.{bytes_eq}
use Rattle.std.specs.Ordering.{ordering_then}
use Rattle.std.specs.Option.{option_map, option_map_or}
use Rattle.std.proofs.lemmas.List.{map-append}
use Rattle.table_laws.specs.fleet_rows.declared.row.Entity.{Entity}
use Rattle.paging_text.specs.query_spec.declared.parts.Field.{Field}
use Rattle.paging_text.specs.query_spec.declared.parts.Field.TheVariants as field
use Rattle.paging_text.specs.query_spec.declared.parts.Literal.{Literal}
use Rattle.paging_text.specs.query_spec.declared.parts.Name.{Name}
use Rattle.paging_text.specs.query_spec.declared.parts.Op.{Op}
use Rattle.paging_text.specs.query_spec.declared.parts.Order.{Order}
use Rattle.paging_text.specs.query_spec.declared.parts.Paging.{Paging}
use Rattle.paging_text.specs.query_spec.declared.parts.Scalar.{Scalar}
use Rattle.paging_text.specs.query_spec.declared.parts.Selected.{Selected}
use Rattle.paging_text.specs.query_spec.declared.parts.Selected.TheVariants as selected
use Rattle.paging_text.specs.query_spec.Check.{entity_named, has_output, makes_groups, shown_list}
use Rattle.paging_text.specs.query_spec.Parts.{output_name, is_function}
use Rattle.paging_text.specs.query_spec.Query as query
use Rattle.paging_text.specs.query_spec.Query.{Filter, compare, matches, is_null, in_list, in_level, subquery, negation, all_of, any_of, Filters, no_filters, Clause, no_clause, clause, Level, level}
use Rattle.table_laws.specs.table_spec.Rows.{Cells}
use Rattle.table_laws.specs.table_spec.Sorted.{sorted_by}
use Rattle.paging_text.specs.means_spec.World.{World, rows_in}
use Rattle.paging_text.specs.means_spec.Cells.{cell_in, names_in, node_in, text_in, is_null_cell, field_cell, field_compares, equals, equal_cells}
use Rattle.paging_text.specs.means_spec.Shown.{distinct, distinct_behind, output_names, column_cell, shown_cells}
use Rattle.paging_text.specs.means_spec.Paging.{order_cmp, orders_cmp, from_offset, to_limit, paged}
use Rattle.paging_text.specs.means_spec.Groups.{Group, key_of, grouped, groups, group_cell, group_rows}
use Rattle.paging_text.specs.means_spec.Means as means
use Rattle.paging_text.specs.means_spec.Means.{is_state, names_state, some_names_state, clause_names_state, answered, is_listed}
use Rattle.means_laws.specs.Bare.{bare_name, bare_field, bare_literal, bare_selected, bare_order, bare_paging, bare_filter, bare_filters, bare_clause, bare}
use Rattle.means_laws.specs.Laws.{PlacesSayNothing}

-- ---- cells

cell_bare : (w : World) (e : Option Entity) (f : Field) (row : Cells) → field_cell w e (bare_field f) row ≡ field_cell w e f row
cell_bare w e (field.Column n) row = refl
cell_bare w e (field.Parameter n) row = refl
cell_bare w e (field.Fact n) row = refl
cell_bare w e (field.Tag p) row = refl
cell_bare w e (field.NodeState p) row = refl

compares_bare : (w : World) (e : Option Entity) (o : Op) (f : Field) (l : Scalar) (row : Cells) → field_compares w e o (bare_field f) l row ≡ field_compares w e o f l row
compares_bare w e o (field.Column n) l row = refl
compares_bare w e o (field.Parameter n) l row = refl
compares_bare w e o (field.Fact n) l row = refl
compares_bare w e o (field.Tag p) l row = refl
compares_bare w e o (field.NodeState p) l row = refl

cells_bare : (w : World) (e : Option Entity) (fs : List Field) (row : Cells) → map (λ f. field_cell w e f row) (map bare_field fs) ≡ map (λ f. field_cell w e f row) fs
cells_bare w e [] row = refl
cells_bare w e (f ∷ fs) row = λ i. cell_bare w e f row i ∷ cells_bare w e fs row i

literals_bare : (w : World) (e : Option Entity) (f : Field) (ls : List Literal) (row : Cells) → list_any (λ (l : Literal). equals (field_cell w e (bare_field f) row) l.value) (map bare_literal ls) ≡ list_any (λ (l : Literal). equals (field_cell w e f row) l.value) ls
literals_bare w e f [] row = refl
literals_bare w e f (l ∷ ls) row = λ i. equals (cell_bare w e f row i) l.value || literals_bare w e f ls row i

listed_bare : (w : World) (e : Option Entity) (fs : List Field) (ls : List Literal) (row : Cells) → is_listed w e (map bare_field fs) (map bare_literal ls) row ≡ is_listed w e fs ls row
listed_bare w e [] ls row = refl
listed_bare w e (f ∷ []) ls row = literals_bare w e f ls row
listed_bare w e (f ∷ g ∷ fs) ls row = refl

-- ---- what is shown

name_bare : (s : Selected) → output_name (bare_selected s) ≡ output_name s
name_bare (selected.Column n) = refl
name_bare selected.Rows = refl
name_bare (selected.Function f n) = refl

function_bare : (s : Selected) → is_function (bare_selected s) ≡ is_function s
function_bare (selected.Column n) = refl
function_bare selected.Rows = refl
function_bare (selected.Function f n) = refl

output_bare : (ss : List Selected) (s : List ℕ) → has_output (map bare_selected ss) s ≡ has_output ss s
output_bare [] s = refl
output_bare (x ∷ ss) s = λ i. bytes_eq (name_bare x i) s || output_bare ss s i

map_if : (b : Bool) (xs ys : List Selected) → map bare_selected (if b then xs else ys) ≡ (if b then map bare_selected xs else map bare_selected ys)
map_if true xs ys = refl
map_if false xs ys = refl

distinct_bare : (es ss : List Selected) → distinct_behind (map bare_selected es) (map bare_selected ss) ≡ map bare_selected (distinct_behind es ss)
distinct_bare es [] = refl
distinct_bare es (s ∷ ss) =
    let test : has_output (map bare_selected es) (output_name (bare_selected s)) ≡ has_output es (output_name s) =
    output_bare es (output_name (bare_selected s)) ∙ ap (has_output es) (name_bare s) in
    let later : distinct_behind (map bare_selected es ++ bare_selected s ∷ []) (map bare_selected ss) ≡ map bare_selected (distinct_behind (es ++ s ∷ []) ss) =
    ap (λ xs. distinct_behind xs (map bare_selected ss)) (sym (map-append bare_selected es (s ∷ []))) ∙ distinct_bare (es ++ s ∷ []) ss in
    (λ i. if test i then distinct_bare es ss i else bare_selected s ∷ later i)
    ∙ sym (map_if (has_output es (output_name s)) (distinct_behind es ss) (s ∷ distinct_behind (es ++ s ∷ []) ss))

each_bare : {A : Type 0} (f : Selected → A) → ((s : Selected) → f (bare_selected s) ≡ f s) → (ss : List Selected) → map f (map bare_selected ss) ≡ map f ss
each_bare f h [] = refl
each_bare f h (s ∷ ss) = λ i. h s i ∷ each_bare f h ss i

distinct_each : {A : Type 0} (f : Selected → A) → ((s : Selected) → f (bare_selected s) ≡ f s) → (ss : List Selected) → map f (distinct (map bare_selected ss)) ≡ map f (distinct ss)
distinct_each f h ss = ap (map f) (distinct_bare [] ss) ∙ each_bare f h (distinct ss)

column_bare : (e : Option Entity) (row : Cells) (s : Selected) → column_cell e row (bare_selected s) ≡ column_cell e row s
column_bare e row (selected.Column n) = refl
column_bare e row selected.Rows = refl
column_bare e row (selected.Function f n) = refl

shown_bare : (e : Option Entity) (s : Option (List Selected)) (row : Cells) → shown_cells e (option_map (map bare_selected) s) row ≡ shown_cells e s row
shown_bare e None row = refl
shown_bare e (Some ss) row = distinct_each (column_cell e row) (column_bare e row) ss

names_bare : (e : Option Entity) (s : Option (List Selected)) → output_names e (option_map (map bare_selected) s) ≡ output_names e s
names_bare e None = refl
names_bare e (Some ss) = distinct_each output_name name_bare ss

-- ---- groups and paging

list_bare : (s : Option (List Selected)) → shown_list (option_map (map bare_selected) s) ≡ map bare_selected (shown_list s)
list_bare None = refl
list_bare (Some ss) = refl

functions_bare : (ss : List Selected) → list_any is_function (map bare_selected ss) ≡ list_any is_function ss
functions_bare [] = refl
functions_bare (s ∷ ss) = λ i. function_bare s i || functions_bare ss i

makes_bare : (ss : List Selected) (g : List Name) → makes_groups (map bare_selected ss) (map bare_name g) ≡ makes_groups ss g
makes_bare ss [] = λ i. functions_bare ss i || not true
makes_bare ss (n ∷ g) = λ i. functions_bare ss i || not false

key_bare : (e : Option Entity) (g : List Name) (row : Cells) → key_of e (map bare_name g) row ≡ key_of e g row
key_bare e [] row = refl
key_bare e (n ∷ g) row = λ i. cell_in e n.text row ∷ key_bare e g row i

groups_bare : (e : Option Entity) (g : List Name) (rows : List Cells) → groups e (map bare_name g) rows ≡ groups e g rows
groups_bare e [] rows = refl
groups_bare e (n ∷ g) rows = λ i. grouped (λ row. key_bare e (n ∷ g) row i) rows

group_cell_bare : (e : Option Entity) (x : Group) (s : Selected) → group_cell e x (bare_selected s) ≡ group_cell e x s
group_cell_bare e x (selected.Column n) = refl
group_cell_bare e x selected.Rows = refl
group_cell_bare e x (selected.Function f n) = refl

group_rows_bare : (e : Option Entity) (ss : List Selected) (g : List Name) (rows : List Cells) → group_rows e (map bare_selected ss) (map bare_name g) rows ≡ group_rows e ss g rows
group_rows_bare e ss g rows = λ i. map (λ x. distinct_each (group_cell e x) (group_cell_bare e x) ss i) (groups_bare e g rows i)

orders_bare : (names : List (List ℕ)) (os : List Order) (a b : Cells) → orders_cmp names (map bare_order os) a b ≡ orders_cmp names os a b
orders_bare names [] a b = refl
orders_bare names (o ∷ os) a b = λ i. ordering_then (order_cmp names o a b) (orders_bare names os a b i)

paged_bare : (names : List (List ℕ)) (p : Paging) (rows : List Cells) → paged names (bare_paging p) rows ≡ paged names p rows
paged_bare names p rows =
    λ i. to_limit p.limit (from_offset p.offset
    (sorted_by (λ a b. orders_bare names p.order a b i) rows))

answered_bare : (e : Option Entity) (s : Option (List Selected)) (g : List Name) (p : Paging) (rows : List Cells) → answered e (option_map (map bare_selected) s) (map bare_name g) (bare_paging p) rows ≡ answered e s g p rows
answered_bare e s g p rows =
    let list : shown_list (option_map (map bare_selected) s) ≡ map bare_selected (shown_list s) = list_bare s in
    let test : makes_groups (shown_list (option_map (map bare_selected) s)) (map bare_name g) ≡ makes_groups (shown_list s) g =
    ap (λ ss. makes_groups ss (map bare_name g)) list ∙ makes_bare (shown_list s) g in
    let of_groups : group_rows e (shown_list (option_map (map bare_selected) s)) (map bare_name g) rows ≡ group_rows e (shown_list s) g rows =
    ap (λ ss. group_rows e ss (map bare_name g) rows) list ∙ group_rows_bare e (shown_list s) g rows in
    let left : paged (output_names e (option_map (map bare_selected) s)) (bare_paging p) (group_rows e (shown_list (option_map (map bare_selected) s)) (map bare_name g) rows) ≡ paged (output_names e s) p (group_rows e (shown_list s) g rows) =
    (λ i. paged (names_bare e s i) (bare_paging p) (of_groups i)) ∙ paged_bare (output_names e s) p (group_rows e (shown_list s) g rows) in
    let right : map (shown_cells e (option_map (map bare_selected) s)) (paged (names_in e) (bare_paging p) rows) ≡ map (shown_cells e s) (paged (names_in e) p rows) =
    λ i. map (λ row. shown_bare e s row i) (paged_bare (names_in e) p rows i) in
    λ i. if test i then left i else right i

-- ---- filters

state_bare : (f : Field) → is_state (bare_field f) ≡ is_state f
state_bare (field.Column n) = refl
state_bare (field.Parameter n) = refl
state_bare (field.Fact n) = refl
state_bare (field.Tag p) = refl
state_bare (field.NodeState p) = refl

states_bare : (fs : List Field) → list_any is_state (map bare_field fs) ≡ list_any is_state fs
states_bare [] = refl
states_bare (f ∷ fs) = λ i. state_bare f i || states_bare fs i

mutual
  names_state_bare : (f : Filter) → names_state (bare_filter f) ≡ names_state f
  names_state_bare (compare o f l) = state_bare f
  names_state_bare (matches f t) = state_bare f
  names_state_bare (is_null f b) = state_bare f
  names_state_bare (in_list fs p ls) = states_bare fs
  names_state_bare (in_level fs p q) = states_bare fs
  names_state_bare (subquery n k) = refl
  names_state_bare (negation f) = names_state_bare f
  names_state_bare (all_of fs) = some_state_bare fs
  names_state_bare (any_of fs) = some_state_bare fs

  some_state_bare : (fs : Filters) → some_names_state (bare_filters fs) ≡ some_names_state fs
  some_state_bare no_filters = refl
  some_state_bare (query.filter f fs) = λ i. names_state_bare f i || some_state_bare fs i

module _ (w : World) where
  mutual
    holds_bare : (f : Filter) (e : Option Entity) (row : Cells) → means.holds w (bare_filter f) e row ≡ means.holds w f e row
    holds_bare (compare o f l) e row = compares_bare w e o f l.value row
    holds_bare (matches f t) e row = λ i. option_map_or (w.matches t.text) (text_in (cell_bare w e f row i)) false
    holds_bare (is_null f b) e row = λ i. if b then is_null_cell (cell_bare w e f row i) else not (is_null_cell (cell_bare w e f row i))
    holds_bare (in_list fs p ls) e row = listed_bare w e fs ls row
    holds_bare (in_level fs p q) e row = λ i. list_any (equal_cells (cells_bare w e fs row i)) (selected_bare q i)
    holds_bare (subquery n k) e row =
        λ i. list_any (λ other. bytes_eq (node_in (entity_named n.text) other) (node_in e row))
        (filter (λ other. passes_bare k (entity_named n.text) other i) (rows_in w (entity_named n.text)))
    holds_bare (negation f) e row = λ i. not (holds_bare f e row i)
    holds_bare (all_of fs) e row = all_bare fs e row
    holds_bare (any_of fs) e row = some_bare fs e row

    all_bare : (fs : Filters) (e : Option Entity) (row : Cells) → means.all_hold w (bare_filters fs) e row ≡ means.all_hold w fs e row
    all_bare no_filters e row = refl
    all_bare (query.filter f fs) e row = λ i. holds_bare f e row i && all_bare fs e row i

    some_bare : (fs : Filters) (e : Option Entity) (row : Cells) → means.some_holds w (bare_filters fs) e row ≡ means.some_holds w fs e row
    some_bare no_filters e row = refl
    some_bare (query.filter f fs) e row = λ i. holds_bare f e row i || some_bare fs e row i

    passes_bare : (k : Clause) (e : Option Entity) (row : Cells) → means.passes w (bare_clause k) e row ≡ means.passes w k e row
    passes_bare no_clause e row = refl
    passes_bare (clause f) e row = λ i. holds_bare f e row i && means.is_seen w e (names_state_bare f i) row

    selected_bare : (q : Level) → means.selected w (bare q) ≡ means.selected w q
    selected_bare (level n s k g p) =
        answered_bare (entity_named n.text) s g p (filter (λ row. means.passes w (bare_clause k) (entity_named n.text) row) (rows_in w (entity_named n.text)))
        ∙ (λ i. answered (entity_named n.text) s g p (filter (λ row. passes_bare k (entity_named n.text) row i) (rows_in w (entity_named n.text))))

pub places_say_nothing : PlacesSayNothing
places_say_nothing w (level n s k g p) =
    λ i. record { names = names_bare (entity_named n.text) s i; rows = selected_bare w (level n s k g p) i }
