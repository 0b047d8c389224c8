-- Computed examples of the AST: each form once, and each fault with its place.
use Rattle.std.proofs.Common.{◌≡◌, ℕ, suc, zero, List, [], ◌∷◌, ◌++◌, true, false, Some, None, Ok, Err, refl}
use Rattle.std.specs.Prelude.{codes}
use Rattle.fleet_rows.specs.text_spec.Json as json
use Rattle.fleet_rows.specs.text_spec.Json.{Json, items_of}
use Rattle.query_spec.specs.declared.parts.Field.TheVariants as field
use Rattle.query_spec.specs.declared.parts.Function.TheVariants.{Sum}
use Rattle.query_spec.specs.declared.parts.Op.TheVariants.{Equal, AtLeast}
use Rattle.query_spec.specs.declared.parts.Scalar.TheVariants as scalar
use Rattle.query_spec.specs.declared.parts.Selected.TheVariants as selected
use Rattle.query_spec.specs.Answer.{query, answer_of, unknown_entity, unknown_field, bad_operand}
use Rattle.query_spec.specs.Ast.{Read, order}
use Rattle.query_spec.specs.Check.{entity_named}
use Rattle.query_spec.specs.Parts.{name, field_named, unpaged}
use Rattle.query_spec.specs.Query.{Filter, compare, matches, is_null, in_list, in_level, subquery, negation, all_of, any_of, filters_of, no_clause, clause, Level, level}
use Rattle.query_spec.specs.Words.{filter_word, field_word, inner_word, part_word, function_named}

-- ---- how examples are written

abbrev l : List Json → Json
l js = json.array (items_of js)

abbrev t : List ℕ → Json
t s = json.string s

abbrev n : List ℕ → Json
n s = json.number s

-- ["=", "certname", "a"]
abbrev is_a : Json
is_a = l (t (codes "=") ∷ t (codes "certname") ∷ t (codes "a") ∷ [])

abbrev is_a_at : List ℕ → Filter
is_a_at p =
    compare Equal (field.Column (name (codes "certname") (p ++ 1 ∷ [])))
    (record { value = scalar.Text (codes "a"); place = p ++ 2 ∷ [] })

abbrev nodes_from : List Json → Json
nodes_from js = l (t (codes "from") ∷ t (codes "nodes") ∷ js)

abbrev of_nodes : Filter → Read Level
of_nodes f = Ok (level (name (codes "nodes") (1 ∷ [])) None (clause f) [] unpaged)

-- ---- filters

all_nodes : query (nodes_from []) ≡ Ok (level (name (codes "nodes") (1 ∷ [])) None no_clause [] unpaged)
all_nodes = refl

a_comparison : query (nodes_from (is_a ∷ [])) ≡ of_nodes (is_a_at (2 ∷ []))
unfolding filter_word part_word field_named
a_comparison = refl

-- ["and", a], ["or", a, a], ["not", a]
joined : query (nodes_from (l (t (codes "and") ∷ l (t (codes "or") ∷ is_a ∷ is_a ∷ []) ∷ l (t (codes "not") ∷ is_a ∷ []) ∷ []) ∷ [])) ≡ of_nodes (all_of (filters_of (any_of (filters_of (is_a_at (2 ∷ 1 ∷ 1 ∷ []) ∷ is_a_at (2 ∷ 1 ∷ 2 ∷ []) ∷ [])) ∷ negation (is_a_at (2 ∷ 2 ∷ 1 ∷ [])) ∷ [])))
unfolding filter_word part_word field_named
joined = refl

nothing_joined : query (nodes_from (l (t (codes "and") ∷ []) ∷ [])) ≡ Err (2 ∷ [])
unfolding filter_word part_word
nothing_joined = refl

two_negated : query (nodes_from (l (t (codes "not") ∷ is_a ∷ is_a ∷ []) ∷ [])) ≡ Err (2 ∷ [])
unfolding filter_word part_word
two_negated = refl

a_pattern : query (nodes_from (l (t (codes "~") ∷ t (codes "certname") ∷ t (codes "^a") ∷ []) ∷ [])) ≡ of_nodes (matches (field.Column (name (codes "certname") (2 ∷ 1 ∷ []))) (record { text = codes "^a"; place = 2 ∷ 2 ∷ [] }))
unfolding filter_word part_word field_named
a_pattern = refl

a_null_test : query (nodes_from (l (t (codes "null?") ∷ t (codes "expired") ∷ json.boolean true ∷ []) ∷ [])) ≡ of_nodes (is_null (field.Column (name (codes "expired") (2 ∷ 1 ∷ []))) true)
unfolding filter_word part_word field_named
a_null_test = refl

a_fact : query (nodes_from (l (t (codes ">=") ∷ l (t (codes "fact") ∷ t (codes "cores") ∷ []) ∷ n (codes "8") ∷ []) ∷ [])) ≡ of_nodes (compare AtLeast (field.Fact (name (codes "cores") (2 ∷ 1 ∷ 1 ∷ []))) (record { value = scalar.Num (codes "8"); place = 2 ∷ 2 ∷ [] }))
unfolding filter_word part_word field_word
a_fact = refl

the_state_of_a_node : query (nodes_from (l (t (codes "=") ∷ t (codes "node_state") ∷ t (codes "any") ∷ []) ∷ [])) ≡ of_nodes (compare Equal (field.NodeState (2 ∷ 1 ∷ [])) (record { value = scalar.Text (codes "any"); place = 2 ∷ 2 ∷ [] }))
unfolding filter_word part_word field_named
the_state_of_a_node = refl

a_literal_that_is_none : query (nodes_from (l (t (codes "=") ∷ t (codes "certname") ∷ json.null ∷ []) ∷ [])) ≡ Err (2 ∷ 2 ∷ [])
unfolding filter_word part_word
a_literal_that_is_none = refl

-- the place of a literal in a list
an_array : query (nodes_from (l (t (codes "in") ∷ t (codes "certname") ∷ l (t (codes "array") ∷ l (t (codes "a") ∷ n (codes "1") ∷ []) ∷ []) ∷ []) ∷ [])) ≡ of_nodes (in_list (field.Column (name (codes "certname") (2 ∷ 1 ∷ [])) ∷ []) (2 ∷ 2 ∷ []) (record { value = scalar.Text (codes "a"); place = 2 ∷ 2 ∷ 1 ∷ 0 ∷ [] } ∷ record { value = scalar.Num (codes "1"); place = 2 ∷ 2 ∷ 1 ∷ 1 ∷ [] } ∷ []))
unfolding filter_word part_word field_named inner_word
an_array = refl

selected_rows : query (nodes_from (l (t (codes "in") ∷ l (t (codes "certname") ∷ []) ∷ l (t (codes "extract") ∷ t (codes "certname") ∷ l (t (codes "select_facts") ∷ is_a ∷ []) ∷ []) ∷ []) ∷ [])) ≡ of_nodes (in_level (field.Column (name (codes "certname") (2 ∷ 1 ∷ 0 ∷ [])) ∷ []) (2 ∷ 2 ∷ []) (level (name (codes "facts") (2 ∷ 2 ∷ 2 ∷ 0 ∷ [])) (Some (selected.Column (name (codes "certname") (2 ∷ 2 ∷ 1 ∷ [])) ∷ [])) (clause (is_a_at (2 ∷ 2 ∷ 2 ∷ 1 ∷ []))) [] unpaged))
unfolding filter_word part_word field_named inner_word
selected_rows = refl

a_query_within : query (nodes_from (l (t (codes "in") ∷ t (codes "certname") ∷ l (t (codes "from") ∷ t (codes "facts") ∷ l (t (codes "extract") ∷ t (codes "certname") ∷ []) ∷ l (t (codes "limit") ∷ n (codes "1") ∷ []) ∷ []) ∷ []) ∷ [])) ≡ of_nodes (in_level (field.Column (name (codes "certname") (2 ∷ 1 ∷ [])) ∷ []) (2 ∷ 2 ∷ []) (level (name (codes "facts") (2 ∷ 2 ∷ 1 ∷ [])) (Some (selected.Column (name (codes "certname") (2 ∷ 2 ∷ 2 ∷ 1 ∷ [])) ∷ [])) no_clause [] (record unpaged { limit = Some 1 })))
unfolding filter_word part_word field_named inner_word
a_query_within = refl

-- a query within `in` says what it shows
nothing_shown_within : query (nodes_from (l (t (codes "in") ∷ t (codes "certname") ∷ l (t (codes "from") ∷ t (codes "facts") ∷ is_a ∷ []) ∷ []) ∷ [])) ≡ Err (2 ∷ 2 ∷ 2 ∷ [])
unfolding filter_word part_word field_named inner_word
nothing_shown_within = refl

a_subquery : query (nodes_from (l (t (codes "subquery") ∷ t (codes "facts") ∷ is_a ∷ []) ∷ [])) ≡ of_nodes (subquery (name (codes "facts") (2 ∷ 1 ∷ [])) (clause (is_a_at (2 ∷ 2 ∷ []))))
unfolding filter_word part_word field_named
a_subquery = refl

-- ---- extracts and paging

counted_groups : query (nodes_from (l (t (codes "extract") ∷ l (t (codes "certname") ∷ l (t (codes "function") ∷ t (codes "count") ∷ []) ∷ l (t (codes "function") ∷ t (codes "sum") ∷ t (codes "expired") ∷ []) ∷ []) ∷ is_a ∷ l (t (codes "group_by") ∷ t (codes "certname") ∷ []) ∷ []) ∷ [])) ≡ Ok (level (name (codes "nodes") (1 ∷ [])) (Some (selected.Column (name (codes "certname") (2 ∷ 1 ∷ 0 ∷ [])) ∷ selected.Rows ∷ selected.Function Sum (name (codes "expired") (2 ∷ 1 ∷ 2 ∷ 2 ∷ [])) ∷ [])) (clause (is_a_at (2 ∷ 2 ∷ []))) (name (codes "certname") (2 ∷ 3 ∷ 1 ∷ []) ∷ []) unpaged)
unfolding filter_word part_word field_named function_named
counted_groups = refl

-- two outputs of one name are refused at the second, two columns of one name aren't
counted_twice : query (nodes_from (l (t (codes "extract") ∷ l (l (t (codes "function") ∷ t (codes "count") ∷ []) ∷ l (t (codes "function") ∷ t (codes "count") ∷ t (codes "certname") ∷ []) ∷ []) ∷ []) ∷ [])) ≡ Err (2 ∷ 1 ∷ 1 ∷ [])
unfolding part_word function_named
counted_twice = refl

a_column_twice : query (nodes_from (l (t (codes "extract") ∷ l (t (codes "certname") ∷ t (codes "certname") ∷ []) ∷ []) ∷ [])) ≡ Ok (level (name (codes "nodes") (1 ∷ [])) (Some (selected.Column (name (codes "certname") (2 ∷ 1 ∷ 0 ∷ [])) ∷ selected.Column (name (codes "certname") (2 ∷ 1 ∷ 1 ∷ [])) ∷ [])) no_clause [] unpaged)
unfolding part_word
a_column_twice = refl

paged : query (nodes_from (l (t (codes "offset") ∷ n (codes "2") ∷ []) ∷ l (t (codes "order_by") ∷ l (l (t (codes "certname") ∷ t (codes "desc") ∷ []) ∷ t (codes "expired") ∷ []) ∷ []) ∷ l (t (codes "limit") ∷ n (codes "1") ∷ []) ∷ [])) ≡ Ok (level (name (codes "nodes") (1 ∷ [])) None no_clause [] (record { order = order (name (codes "certname") (3 ∷ 1 ∷ 0 ∷ 0 ∷ [])) true ∷ order (name (codes "expired") (3 ∷ 1 ∷ 1 ∷ [])) false ∷ []; offset = Some 2; limit = Some 1; include_total = false }))
unfolding part_word
paged = refl

limited_twice : query (nodes_from (l (t (codes "limit") ∷ n (codes "1") ∷ []) ∷ l (t (codes "limit") ∷ n (codes "x") ∷ []) ∷ [])) ≡ Err (3 ∷ [])
unfolding part_word
limited_twice = refl

-- 2^63 - 1 is the greatest count, and only digits spell one
the_greatest_count : query (nodes_from (l (t (codes "limit") ∷ n (codes "9223372036854775807") ∷ []) ∷ [])) ≡ Ok (level (name (codes "nodes") (1 ∷ [])) None no_clause [] (record unpaged { limit = Some 9223372036854775807 }))
unfolding part_word
the_greatest_count = refl

one_more : query (nodes_from (l (t (codes "limit") ∷ n (codes "9223372036854775808") ∷ []) ∷ [])) ≡ Err (2 ∷ 1 ∷ [])
unfolding part_word
one_more = refl

a_fraction : query (nodes_from (l (t (codes "limit") ∷ n (codes "1.0") ∷ []) ∷ [])) ≡ Err (2 ∷ 1 ∷ [])
unfolding part_word
a_fraction = refl

-- paging ends the filters
a_filter_behind_paging : query (nodes_from (l (t (codes "limit") ∷ n (codes "1") ∷ []) ∷ is_a ∷ [])) ≡ Err (3 ∷ [])
unfolding part_word
a_filter_behind_paging = refl

-- ---- depth

abbrev nots : ℕ → Json → Json
nots zero v = v
nots (suc k) v = l (t (codes "not") ∷ nots k v ∷ [])

abbrev negations : ℕ → List ℕ → (List ℕ → Filter) → Filter
negations zero p f = f p
negations (suc k) p f = negation (negations k (p ++ 1 ∷ []) f)

abbrev ones : ℕ → List ℕ
ones zero = []
ones (suc k) = 1 ∷ ones k

-- 99 negations of a comparison are read, and the comparison within one more stands at depth 101
the_deepest : query (nodes_from (nots 99 is_a ∷ [])) ≡ of_nodes (negations 99 (2 ∷ []) is_a_at)
unfolding filter_word part_word field_named
the_deepest = refl

one_deeper : query (nodes_from (nots 100 is_a ∷ [])) ≡ Err (2 ∷ ones 100)
unfolding filter_word part_word
one_deeper = refl

-- ---- names and operands: the first kind of fault, and of one kind the first

unknown_first : answer_of (query (l (t (codes "from") ∷ t (codes "node") ∷ l (t (codes "=") ∷ t (codes "nme") ∷ t (codes "a") ∷ []) ∷ []))) ≡ Err (unknown_entity (1 ∷ []))
unfolding filter_word part_word field_named entity_named
unknown_first = refl

-- an order other than of numbers, before a column that isn't there
a_field_before_an_operand : answer_of (query (nodes_from (l (t (codes "or") ∷ l (t (codes "<") ∷ t (codes "certname") ∷ t (codes "a") ∷ []) ∷ l (t (codes "=") ∷ t (codes "nme") ∷ t (codes "a") ∷ []) ∷ []) ∷ []))) ≡ Err (unknown_field (2 ∷ 2 ∷ 1 ∷ []))
unfolding filter_word part_word field_named entity_named
a_field_before_an_operand = refl

the_first_of_two_operands : answer_of (query (nodes_from (l (t (codes "or") ∷ l (t (codes "<") ∷ t (codes "certname") ∷ t (codes "a") ∷ []) ∷ l (t (codes "<") ∷ t (codes "certname") ∷ t (codes "b") ∷ []) ∷ []) ∷ []))) ≡ Err (bad_operand (2 ∷ 1 ∷ 2 ∷ []))
unfolding filter_word part_word field_named entity_named
the_first_of_two_operands = refl

ordered_by_what_is_not_there : answer_of (query (nodes_from (l (t (codes "order_by") ∷ l (t (codes "nme") ∷ []) ∷ []) ∷ []))) ≡ Err (unknown_field (2 ∷ 1 ∷ 0 ∷ []))
unfolding part_word entity_named
ordered_by_what_is_not_there = refl

-- rows that aren't grouped are ordered by any column of the entity
ordered_by_what_is_not_shown : answer_of (query (nodes_from (l (t (codes "extract") ∷ t (codes "certname") ∷ []) ∷ l (t (codes "order_by") ∷ l (t (codes "expired") ∷ []) ∷ []) ∷ []))) ≡ Ok (level (name (codes "nodes") (1 ∷ [])) (Some (selected.Column (name (codes "certname") (2 ∷ 1 ∷ [])) ∷ [])) no_clause [] (record unpaged { order = order (name (codes "expired") (3 ∷ 1 ∷ 0 ∷ [])) false ∷ [] }))
unfolding part_word entity_named
ordered_by_what_is_not_shown = refl

-- groups are ordered by what they show
groups_ordered_by_another_column : answer_of (query (nodes_from (l (t (codes "extract") ∷ l (t (codes "certname") ∷ l (t (codes "function") ∷ t (codes "count") ∷ []) ∷ []) ∷ l (t (codes "group_by") ∷ t (codes "certname") ∷ []) ∷ []) ∷ l (t (codes "order_by") ∷ l (t (codes "count") ∷ t (codes "expired") ∷ []) ∷ []) ∷ []))) ≡ Err (unknown_field (3 ∷ 1 ∷ 1 ∷ []))
unfolding part_word function_named entity_named
groups_ordered_by_another_column = refl

-- a column that stands twice counts once in a side of `in`
sides_of_different_counts : answer_of (query (nodes_from (l (t (codes "in") ∷ l (t (codes "certname") ∷ t (codes "expired") ∷ []) ∷ l (t (codes "extract") ∷ l (t (codes "certname") ∷ t (codes "certname") ∷ []) ∷ l (t (codes "select_facts") ∷ []) ∷ []) ∷ []) ∷ []))) ≡ Err (bad_operand (2 ∷ 2 ∷ []))
unfolding filter_word part_word field_named inner_word entity_named
sides_of_different_counts = refl

a_column_beside_a_count : answer_of (query (nodes_from (l (t (codes "extract") ∷ l (l (t (codes "function") ∷ t (codes "count") ∷ []) ∷ t (codes "certname") ∷ []) ∷ []) ∷ []))) ≡ Err (bad_operand (2 ∷ 1 ∷ 1 ∷ []))
unfolding part_word function_named entity_named
a_column_beside_a_count = refl

a_moment_that_is_none : answer_of (query (nodes_from (l (t (codes "=") ∷ t (codes "expired") ∷ n (codes "1") ∷ []) ∷ []))) ≡ Err (bad_operand (2 ∷ 2 ∷ []))
unfolding filter_word part_word field_named entity_named
a_moment_that_is_none = refl

another_state : answer_of (query (nodes_from (l (t (codes "=") ∷ t (codes "node_state") ∷ t (codes "all") ∷ []) ∷ []))) ≡ Err (bad_operand (2 ∷ 2 ∷ []))
unfolding filter_word part_word field_named entity_named
another_state = refl

tags_of_a_node : answer_of (query (nodes_from (l (t (codes "=") ∷ t (codes "tag") ∷ t (codes "a") ∷ []) ∷ []))) ≡ Err (unknown_field (2 ∷ 1 ∷ []))
unfolding filter_word part_word field_named entity_named
tags_of_a_node = refl

a_pattern_on_a_state : answer_of (query (nodes_from (l (t (codes "~") ∷ t (codes "node_state") ∷ t (codes "a") ∷ []) ∷ []))) ≡ Err (bad_operand (2 ∷ 1 ∷ []))
unfolding filter_word part_word field_named entity_named
a_pattern_on_a_state = refl

a_literal_that_equals_no_moment : answer_of (query (nodes_from (l (t (codes "in") ∷ t (codes "expired") ∷ l (t (codes "array") ∷ l (n (codes "1") ∷ []) ∷ []) ∷ []) ∷ []))) ≡ Err (bad_operand (2 ∷ 2 ∷ 1 ∷ 0 ∷ []))
unfolding filter_word part_word field_named inner_word entity_named
a_literal_that_equals_no_moment = refl
