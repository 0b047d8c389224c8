-- Computed examples: bytes that are tokens, and forms with their tokens and their queries.
use Rattle.std.proofs.Common.{◌≡◌, ℕ, List, [], ◌∷◌, true, false, Some, refl, codes, inl, inr, ◌+◌, arith}
use Rattle.std.specs.Char.{encode_utf8}
use Rattle.query_spec.proofs.of_plain_laws.Booleans.{neq_is}
use Rattle.query_spec.specs.Ast.{order}
use Rattle.query_spec.specs.declared.parts.Field.TheVariants as field
use Rattle.query_spec.specs.declared.parts.Function.TheVariants.{Count}
use Rattle.query_spec.specs.declared.parts.Literal.{Literal}
use Rattle.query_spec.specs.declared.parts.Name.{Name}
use Rattle.query_spec.specs.declared.parts.Op.TheVariants.{Equal, AtLeast}
use Rattle.query_spec.specs.declared.parts.Scalar.TheVariants as scalar
use Rattle.query_spec.specs.declared.parts.Selected.TheVariants as show
use Rattle.query_spec.specs.Parts.{name, field_named, unpaged}
use Rattle.query_spec.specs.Query.{Filter, compare, is_null, in_list, in_level, subquery, negation, all_of, any_of, filters_of, no_clause, clause, Level, level}
use Rattle.query_spec.specs.Words.{function_named}
use Rattle.pql_spec.specs.declared.token.Token.{Token}
use Rattle.pql_spec.specs.declared.token.Token.TheVariants as token
use Rattle.pql_spec.specs.Tokens.{plain, escaped, backslash, Spells, a_word, a_text, a_mark, word_token, mark_token, literal_token}
use Rattle.pql_spec.specs.Grammar.{compared, differing, not_null_test, one, several, no_count, count, column, row_count, columns, IsFresh, no_group, group_by, MayGroup, unsaid, said, ordered, no_order, order_by, Page, test, listed, selected, implicit, negated, parens, Operand, operand_value, no_and, and_then, no_or, or_then, no_body, body, Tree, is_count, PqlSpells}

-- ---- tokens

a_name : Spells 3 (codes "certname") (token.Word (name (codes "certname") (3 ∷ [])))
unfolding word_token
a_name = a_word (refl, (refl, (refl, (refl, (refl, (refl, (refl, (refl, tt)))))))) refl

a_word_of_its_own : Spells 3 (codes "null") token.Null
unfolding word_token
a_word_of_its_own = a_word (refl, (refl, (refl, (refl, tt)))) refl

a_mark_of_two : Spells 3 (codes ">=") (token.Comparison AtLeast)
unfolding mark_token
a_mark_of_two = a_mark refl

-- 'a\'b\c\\': the quote and the backslash are escaped, and before c a backslash stands for itself
a_quoted_text : Spells 3 (39 ∷ 97 ∷ 92 ∷ 39 ∷ 98 ∷ 92 ∷ 99 ∷ 92 ∷ 92 ∷ 39 ∷ []) (literal_token (scalar.Text (97 ∷ 39 ∷ 98 ∷ 92 ∷ 99 ∷ 92 ∷ [])) (3 ∷ []))
unfolding encode_utf8
a_quoted_text = a_text 39 (plain 97 ∷ escaped 39 ∷ plain 98 ∷ backslash 99 ∷ escaped 92 ∷ []) (inl refl)
    ((neq_is 97 39 refl, neq_is 97 92 refl), (inl refl, ((neq_is 98 39 refl, neq_is 98 92 refl), ((neq_is 99 39 refl, neq_is 99 92 refl), (inr refl, tt)))))
    (97 ∷ 39 ∷ 98 ∷ 92 ∷ 99 ∷ 92 ∷ [], (refl, refl)) refl refl

-- ---- forms

abbrev n : List ℕ → ℕ → Name
n s k = name s (k ∷ [])

abbrev l : List ℕ → ℕ → Literal
l s k = record { value = scalar.Text s; place = k ∷ [] }

abbrev plain_page : Page
plain_page = record { group = no_group; order = no_order; limit = no_count; offset = no_count }

-- the condition x = 'x', whose first token has number k
abbrev is_x : ℕ → Operand
is_x k = test (n (codes "x") k) (compared Equal (l (codes "x") (k + 2)))

abbrev x_is : ℕ → Filter
x_is k = compare Equal (field.Column (n (codes "x") k)) (l (codes "x") (k + 2))

-- x = 'x' or x = 'x' and ! x = 'x' or x = 'x': `and` binds tighter than `or`, `!` tighter than both, and what is joined is one list
joined : operand_value (parens (is_x 1) no_and (or_then (is_x 5) (and_then (negated (is_x 10)) no_and) (or_then (is_x 14) no_and no_or)))
    ≡ any_of (filters_of (x_is 1 ∷ all_of (filters_of (x_is 5 ∷ negation (x_is 10) ∷ [])) ∷ x_is 14 ∷ []))
unfolding field_named
joined = refl

-- (x = 'x'): parentheses alone mean nothing
alone : operand_value (parens (is_x 1) no_and no_or) ≡ x_is 1
unfolding field_named
alone = refl

-- x != 'x'
differs : operand_value (test (n (codes "x") 0) (differing (l (codes "x") 2))) ≡ negation (x_is 0)
unfolding field_named
differs = refl

-- node_state is not null: no column
not_null : operand_value (test (n (codes "node_state") 4) not_null_test) ≡ is_null (field.NodeState (4 ∷ [])) false
unfolding field_named
not_null = refl

-- [x, tag] in ['x']: the right side stands at its bracket
in_a_list : operand_value (listed (several (0 ∷ []) (n (codes "x") 1 ∷ []) (n (codes "tag") 3)) (6 ∷ []) [] (l (codes "x") 7))
    ≡ in_list (field.Column (n (codes "x") 1) ∷ field.Tag (3 ∷ []) ∷ []) (6 ∷ []) (l (codes "x") 7 ∷ [])
unfolding field_named
in_a_list = refl

-- x in facts[x] { }: the right side stands at its entity
in_rows : operand_value (selected (one (n (codes "x") 0)) (n (codes "facts") 2) (3 ∷ []) [] (column (n (codes "x") 4)) no_body plain_page)
    ≡ in_level (field.Column (n (codes "x") 0) ∷ []) (2 ∷ []) (level (n (codes "facts") 2) (Some (show.Column (n (codes "x") 4) ∷ [])) no_clause [] unpaged)
unfolding field_named
in_rows = refl

-- facts[count(), name]{ resources { } group by name order by name desc, count limit 9 offset 1 }
abbrev whole : Tree
whole = record {
  entity = n (codes "facts") 0;
  columns = columns (1 ∷ []) (row_count (n (codes "count") 2) ∷ []) (column (n (codes "name") 6));
  body = body (implicit (n (codes "resources") 9) no_body) no_and no_or;
  page = record {
    group = group_by [] (n (codes "name") 14);
    order = order_by (ordered (n (codes "name") 17) (said true) ∷ []) (ordered (n (codes "count") 20) unsaid);
    limit = count (codes "9") (22 ∷ []);
    offset = count (codes "1") (24 ∷ []);
  };
}

abbrev whole_query : Level
whole_query =
    level (n (codes "facts") 0) (Some (show.Rows ∷ show.Column (n (codes "name") 6) ∷ [])) (clause (subquery (n (codes "resources") 9) no_clause)) (n (codes "name") 14 ∷ [])
    (record { order = order (n (codes "name") 17) true ∷ order (n (codes "count") 20) false ∷ []; offset = Some 1; limit = Some 9; include_total = false })

abbrev whole_text : List Token
whole_text =
    token.Word (n (codes "facts") 0) ∷ token.OpenBracket (1 ∷ []) ∷ token.Word (n (codes "count") 2) ∷ token.OpenParen ∷ token.CloseParen ∷ token.Comma
    ∷ token.Word (n (codes "name") 6) ∷ token.CloseBracket ∷ token.OpenBrace ∷ token.Word (n (codes "resources") 9) ∷ token.OpenBrace ∷ token.CloseBrace
    ∷ token.Group ∷ token.By ∷ token.Word (n (codes "name") 14) ∷ token.Order ∷ token.By ∷ token.Word (n (codes "name") 17) ∷ token.Desc ∷ token.Comma
    ∷ token.Word (n (codes "count") 20) ∷ token.Limit ∷ literal_token (scalar.Num (codes "9")) (22 ∷ []) ∷ token.Offset
    ∷ literal_token (scalar.Num (codes "1")) (24 ∷ []) ∷ token.CloseBrace ∷ []

a_whole_query : PqlSpells whole_text whole_query
unfolding is_count function_named
a_whole_query = record { tree = whole; is_tree = ((tt, tt, tt), (tt, refl, refl), (((refl, refl), tt), (tt, refl))); tokens_are = refl; query_is = refl; depth = omega arith }

-- ---- what no form allows

-- without columns there are no groups
no_groups : MayGroup false (group_by [] (n (codes "name") 4)) → ⊥
no_groups h = h

-- a column that stands twice counts once, and no function has the name of another output
twice : IsFresh (show.Column (n (codes "name") 2) ∷ []) (show.Column (n (codes "name") 4))
twice = refl

two_counts : IsFresh (show.Rows ∷ []) (show.Function Count (n (codes "name") 7)) → ⊥
two_counts h = cc

a_column_named_count : IsFresh (show.Rows ∷ []) (show.Column (n (codes "count") 6)) → ⊥
a_column_named_count h = cc

-- 2^63 is no count, and neither is a number with a sign, a fraction or an exponent
too_great : is_count (codes "9223372036854775808") ≡ false
unfolding is_count
too_great = refl

greatest : is_count (codes "9223372036854775807") ≡ true
unfolding is_count
greatest = refl

no_digit : is_count (codes "1e2") ≡ false
unfolding is_count
no_digit = refl
