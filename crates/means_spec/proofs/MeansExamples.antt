-- Computed examples of what queries mean, over two nodes: `a` is active and `b` isn't.
use Rattle.std.proofs.Common.{◌≡◌, ℕ, zero, suc, List, [], ◌∷◌, true, false, Some, None, refl}
use Rattle.std.specs.Prelude.{pos, neg_ℤ, codes}
use Rattle.std.specs.Fmt.{digits}
use Rattle.std.specs.Str.{bytes_eq}
use Rattle.table_spec.specs.text_spec.Json.{null, boolean, number, string, array, object, items_of, members_of}
use Rattle.table_spec.specs.text_spec.Number.{scaled}
use Rattle.table_spec.specs.text_spec.StampReader.{stamp_of, date_at, time_at, two_digits, one_of, fraction_at, offset_at}
use Rattle.jiff.proofs.OnLiterals.{jiff_on_literals}
use Rattle.table_spec.specs.fleet_rows.Cell.{CellValue, plain, stamp}
use Rattle.table_spec.specs.fleet_rows.declared.row.Entity.{Entity}
use Rattle.table_spec.specs.fleet_rows.declared.row.Entity.TheVariants.{Nodes, Facts, Resources}
use Rattle.query_spec.specs.declared.parts.Field.{Field}
use Rattle.query_spec.specs.declared.parts.Field.TheVariants as field
use Rattle.query_spec.specs.declared.parts.Function.TheVariants.{Count, Sum, Min, Max}
use Rattle.query_spec.specs.declared.parts.Op.TheVariants.{Equal, Less, AtMost, More, AtLeast}
use Rattle.query_spec.specs.declared.parts.Op.{Op}
use Rattle.query_spec.specs.declared.parts.Scalar.{Scalar}
use Rattle.query_spec.specs.declared.parts.Scalar.TheVariants as scalar
use Rattle.query_spec.specs.declared.parts.Selected.{Selected}
use Rattle.query_spec.specs.declared.parts.Selected.TheVariants as selected
use Rattle.query_spec.specs.Ast.{order}
use Rattle.query_spec.specs.Check.{entity_named}
use Rattle.query_spec.specs.Parts.{name, unpaged}
use Rattle.query_spec.specs.Query.{Filter, compare, matches, is_null, in_list, in_level, subquery, negation, all_of, any_of, filters_of, no_clause, clause, Level, level}
use Rattle.table_spec.specs.Rows.{Cells}
use Rattle.means_spec.specs.World.{World}
use Rattle.means_spec.specs.Groups.{scaled_text}
use Rattle.means_spec.specs.Means as means
use Rattle.means_spec.specs.Sums.{too_large}

-- ---- how examples are written

abbrev t : List ℕ → CellValue
t s = plain (string s)

abbrev n : List ℕ → CellValue
n s = plain (number s)

abbrev a_node : List ℕ → CellValue → Cells
a_node s deactivated =
    plain null ∷ plain null ∷ t s ∷ deactivated ∷ plain null ∷ t (codes "production") ∷ plain null ∷ plain null ∷ plain null ∷ plain null
    ∷ plain null ∷ plain null ∷ []

abbrev fact : List ℕ → List ℕ → CellValue → Cells
fact node s x = t node ∷ t (codes "production") ∷ t s ∷ x ∷ []

abbrev rows : Entity → List Cells
rows Nodes = a_node (codes "a") (plain null) ∷ a_node (codes "b") (stamp (pos 7)) ∷ []
rows Facts =
    fact (codes "a") (codes "k") (n (codes "0.10")) ∷ fact (codes "a") (codes "l") (n (codes "1e-1"))
    ∷ fact (codes "a") (codes "m") (n (codes "1e400")) ∷ fact (codes "a") (codes "o") (t (codes "web"))
    ∷ fact (codes "a") (codes "p") (plain null) ∷ fact (codes "b") (codes "k") (n (codes "3")) ∷ []
rows _ = []

abbrev w : World
w = record { rows = rows; is_inactive = bytes_eq (codes "b"); matches = bytes_eq }

abbrev column : List ℕ → Field
column s = field.Column (name s [])

abbrev state : List ℕ → Filter
state s = compare Equal (field.NodeState []) (record { value = scalar.Text s; place = [] })

abbrev compared : Op → List ℕ → Scalar → Filter
compared o s l = compare o (column s) (record { value = l; place = [] })

abbrev shows : List ℕ → Selected
shows s = selected.Column (name s [])

-- the names of the facts that the filter selects
abbrev names_where : Filter → List Cells
names_where f = means.selected w (level (name (codes "facts") []) (Some (shows (codes "name") ∷ [])) (clause f) [] unpaged)

abbrev one : List ℕ → Cells
one s = t s ∷ []

-- ---- the state of nodes

active_rows_alone : means.selected w (level (name (codes "nodes") []) (Some (shows (codes "certname") ∷ [])) no_clause [] unpaged) ≡ one (codes "a") ∷ []
unfolding entity_named
active_rows_alone = refl

rows_in_any_state : means.selected w (level (name (codes "nodes") []) (Some (shows (codes "certname") ∷ [])) (clause (state (codes "any"))) [] unpaged) ≡ one (codes "a") ∷ one (codes "b") ∷ []
unfolding entity_named
rows_in_any_state = refl

inactive_rows : means.selected w (level (name (codes "nodes") []) (Some (shows (codes "certname") ∷ shows (codes "deactivated") ∷ [])) (clause (state (codes "inactive"))) [] unpaged) ≡ (t (codes "b") ∷ stamp (pos 7) ∷ []) ∷ []
unfolding entity_named
inactive_rows = refl

-- a state that stands deep in the filter counts for the whole level, and not for a level within
the_state_of_the_level : names_where (any_of (filters_of (all_of (filters_of (state (codes "inactive") ∷ [])) ∷ compared Equal (codes "name") (scalar.Text (codes "o")) ∷ []))) ≡ one (codes "o") ∷ one (codes "k") ∷ []
unfolding entity_named
the_state_of_the_level = refl

the_level_within_speaks_for_itself : means.selected w (level (name (codes "nodes") []) (Some (shows (codes "certname") ∷ [])) (clause (all_of (filters_of (state (codes "any") ∷ subquery (name (codes "facts") []) no_clause ∷ [])))) [] unpaged) ≡ one (codes "a") ∷ []
unfolding entity_named
the_level_within_speaks_for_itself = refl

-- ---- comparisons

-- numbers by their values; one that has none is equal to its own spelling alone, and has no order with it
by_value : names_where (compared Equal (codes "value") (scalar.Num (codes "0.1"))) ≡ one (codes "k") ∷ one (codes "l") ∷ []
unfolding entity_named scaled
by_value = refl

by_spelling : names_where (compared AtMost (codes "value") (scalar.Num (codes "1e400"))) ≡ one (codes "m") ∷ []
unfolding entity_named scaled
by_spelling = refl

without_order : names_where (compared Less (codes "value") (scalar.Num (codes "1e400"))) ≡ []
unfolding entity_named scaled
without_order = refl

-- a cell of another kind is below nothing, and equal to nothing
another_kind : names_where (compared AtLeast (codes "value") (scalar.Num (codes "0"))) ≡ one (codes "k") ∷ one (codes "l") ∷ []
unfolding entity_named scaled
another_kind = refl

-- a comparison with null is false, and its negation true
null_is_compared : names_where (negation (compared Equal (codes "value") (scalar.Text (codes "web")))) ≡ one (codes "k") ∷ one (codes "l") ∷ one (codes "m") ∷ one (codes "p") ∷ []
unfolding entity_named
null_is_compared = refl

null_is_told : names_where (is_null (column (codes "value")) true) ≡ one (codes "p") ∷ []
unfolding entity_named
null_is_told = refl

a_pattern_looks_at_texts : names_where (matches (column (codes "value")) (record { text = codes "web"; place = [] })) ≡ one (codes "o") ∷ []
unfolding entity_named
a_pattern_looks_at_texts = refl

listed : names_where (in_list (column (codes "value") ∷ []) [] (record { value = scalar.Text (codes "web"); place = [] } ∷ record { value = scalar.Num (codes "0.1"); place = [] } ∷ [])) ≡ one (codes "k") ∷ one (codes "l") ∷ one (codes "o") ∷ []
unfolding entity_named scaled
listed = refl

-- the seventh nanosecond is behind the first one
a_moment_behind : means.selected w (level (name (codes "nodes") []) (Some (shows (codes "certname") ∷ [])) (clause (all_of (filters_of (state (codes "any") ∷ compared More (codes "deactivated") (scalar.Text (codes "1970-01-01T00:00:00.000000001Z")) ∷ [])))) [] unpaged) ≡ one (codes "b") ∷ []
unfolding entity_named stamp_of date_at time_at two_digits one_of fraction_at offset_at jiff_on_literals
a_moment_behind = refl

-- ---- levels within

-- each row is listed once, whatever number of rows within are equal
selected_once : means.selected w (level (name (codes "nodes") []) (Some (shows (codes "certname") ∷ [])) (clause (in_level (column (codes "certname") ∷ []) [] (level (name (codes "facts") []) (Some (shows (codes "certname") ∷ [])) no_clause [] unpaged))) [] unpaged) ≡ one (codes "a") ∷ []
unfolding entity_named
selected_once = refl

-- a tuple with a null cell is in no level
null_is_in_nothing : names_where (in_level (column (codes "name") ∷ column (codes "value") ∷ []) [] (level (name (codes "facts") []) (Some (shows (codes "name") ∷ shows (codes "value") ∷ [])) no_clause [] unpaged)) ≡ one (codes "k") ∷ one (codes "l") ∷ one (codes "m") ∷ one (codes "o") ∷ []
unfolding entity_named scaled
null_is_in_nothing = refl

a_fact_of_a_node : means.selected w (level (name (codes "nodes") []) (Some (shows (codes "certname") ∷ [])) (clause (all_of (filters_of (state (codes "any") ∷ compare More (field.Fact (name (codes "k") [])) (record { value = scalar.Num (codes "1"); place = [] }) ∷ [])))) [] unpaged) ≡ one (codes "b") ∷ []
unfolding entity_named scaled
a_fact_of_a_node = refl

-- ---- what is shown, groups and paging

all_columns : means.selected w (level (name (codes "facts") []) None (clause (compared Equal (codes "name") (scalar.Text (codes "o")))) [] unpaged) ≡ fact (codes "a") (codes "o") (t (codes "web")) ∷ []
unfolding entity_named
all_columns = refl

a_column_twice : means.selected w (level (name (codes "facts") []) (Some (shows (codes "name") ∷ shows (codes "certname") ∷ shows (codes "name") ∷ [])) (clause (compared Equal (codes "name") (scalar.Text (codes "o")))) [] unpaged) ≡ (t (codes "o") ∷ t (codes "a") ∷ []) ∷ []
unfolding entity_named
a_column_twice = refl

-- what ties stays as it came: here all certnames do
descending_by_certname : means.selected w (level (name (codes "facts") []) (Some (shows (codes "name") ∷ [])) no_clause [] (record { order = order (name (codes "certname") []) true ∷ []; offset = Some 1; limit = Some 2; include_total = false })) ≡ one (codes "l") ∷ one (codes "m") ∷ []
unfolding entity_named
descending_by_certname = refl

-- null, then numbers with a value, then those with none, then texts
in_the_total_order : means.selected w (level (name (codes "facts") []) (Some (shows (codes "name") ∷ [])) no_clause [] (record unpaged { order = order (name (codes "value") []) false ∷ [] })) ≡ one (codes "p") ∷ one (codes "k") ∷ one (codes "l") ∷ one (codes "m") ∷ one (codes "o") ∷ []
unfolding entity_named scaled
in_the_total_order = refl

functions_of_all : means.selected w (level (name (codes "facts") []) (Some (selected.Rows ∷ selected.Function Sum (name (codes "value") []) ∷ selected.Function Min (name (codes "value") []) ∷ selected.Function Max (name (codes "value") []) ∷ [])) no_clause [] unpaged) ≡ (n (codes "5") ∷ n (codes "0.2") ∷ n (codes "0.10") ∷ t (codes "web") ∷ []) ∷ []
unfolding entity_named scaled digits
functions_of_all = refl

functions_of_nothing : means.selected w (level (name (codes "facts") []) (Some (selected.Function Count (name (codes "value") []) ∷ selected.Function Sum (name (codes "value") []) ∷ selected.Function Max (name (codes "value") []) ∷ [])) (clause (compared Equal (codes "name") (scalar.Text (codes "none")))) [] unpaged) ≡ (n (codes "0") ∷ plain null ∷ plain null ∷ []) ∷ []
unfolding entity_named digits
functions_of_nothing = refl

-- values that are the same are one group, which shows the first of them
grouped_by_value : means.selected w (level (name (codes "facts") []) (Some (selected.Function Count (name (codes "value") []) ∷ shows (codes "value") ∷ [])) no_clause (name (codes "value") [] ∷ []) unpaged) ≡ (n (codes "0") ∷ plain null ∷ []) ∷ (n (codes "2") ∷ n (codes "0.10") ∷ []) ∷ (n (codes "1") ∷ n (codes "1e400") ∷ []) ∷ (n (codes "1") ∷ t (codes "web") ∷ []) ∷ []
unfolding entity_named scaled digits
grouped_by_value = refl

-- groups are ordered by what they show
groups_by_count : means.selected w (level (name (codes "facts") []) (Some (selected.Rows ∷ shows (codes "certname") ∷ [])) (clause (state (codes "any"))) (name (codes "certname") [] ∷ []) (record unpaged { order = order (name (codes "count") []) false ∷ [] })) ≡ (n (codes "1") ∷ t (codes "b") ∷ []) ∷ (n (codes "5") ∷ t (codes "a") ∷ []) ∷ []
unfolding entity_named scaled digits
groups_by_count = refl

-- ---- resources

abbrev a_resource : Cells
a_resource =
    t (codes "a") ∷ plain null ∷ plain (boolean false) ∷ plain null ∷ plain null
    ∷ plain (object (members_of ((codes "ensure", string (codes "present")) ∷ []))) ∷ t (codes "0") ∷ plain (array (items_of (string (codes "class") ∷ string (codes "ntp") ∷ [])))
    ∷ t (codes "Ntp") ∷ t (codes "Class") ∷ []

abbrev of_resources : World
of_resources = record { rows = (λ e. elim e [ Resources ↦ a_resource ∷ [] | _ ↦ [] ]); is_inactive = (λ node. false); matches = bytes_eq }

abbrev titles_where : Filter → List Cells
titles_where f = means.selected of_resources (level (name (codes "resources") []) (Some (shows (codes "title") ∷ [])) (clause f) [] unpaged)

a_tag_of_two : titles_where (compare Equal (field.Tag []) (record { value = scalar.Text (codes "ntp"); place = [] })) ≡ one (codes "Ntp") ∷ []
unfolding entity_named
a_tag_of_two = refl

no_such_tag : titles_where (compare Equal (field.Tag []) (record { value = scalar.Text (codes "nt"); place = [] })) ≡ []
unfolding entity_named
no_such_tag = refl

a_parameter : titles_where (compare Equal (field.Parameter (name (codes "ensure") [])) (record { value = scalar.Text (codes "present"); place = [] })) ≡ one (codes "Ntp") ∷ []
unfolding entity_named
a_parameter = refl

-- a parameter that isn't there is null
no_such_parameter : titles_where (is_null (field.Parameter (name (codes "mode") [])) true) ≡ one (codes "Ntp") ∷ []
unfolding entity_named
no_such_parameter = refl

-- ---- sums

half_below_zero : scaled_text (neg_ℤ (pos 500_000_000_000_000_000)) ≡ codes "-0.5"
unfolding digits
half_below_zero = refl

a_whole_sum : scaled_text (pos 10_000_000_000_000_000_000) ≡ codes "10"
unfolding digits
a_whole_sum = refl

the_least_part : scaled_text (pos 1) ≡ codes "0.000000000000000001"
unfolding digits
the_least_part = refl

abbrev repeated : ℕ → Cells → List Cells
repeated zero row = []
repeated (suc k) row = row ∷ repeated k row

-- so many facts of almost 10^37 units each
abbrev of_large : ℕ → World
of_large count = record { rows = (λ e. elim e [ Facts ↦ repeated count (fact (codes "a") (codes "k") (n (codes "9999999999999999999"))) | _ ↦ [] ]); is_inactive = (λ node. false); matches = bytes_eq }

abbrev summed : Level
summed = level (name (codes "facts") []) (Some (selected.Rows ∷ selected.Function Sum (name (codes "value") (2 ∷ 1 ∷ 1 ∷ 2 ∷ [])) ∷ [])) no_clause [] unpaged

seventeen_fit : too_large (of_large 17) summed ≡ None
unfolding entity_named scaled
seventeen_fit = refl

eighteen_do_not : too_large (of_large 18) summed ≡ Some (2 ∷ 1 ∷ 1 ∷ 2 ∷ [])
unfolding entity_named scaled
eighteen_do_not = refl
