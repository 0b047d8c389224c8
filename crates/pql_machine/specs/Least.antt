-- The least query that continues a state of the machine, and the nesting depth of its filters.
use Rattle.std.specs.Prelude.{codes, ℕ, List, [], ◌∷◌, ◌++◌, true, false, Some, None}
use Rattle.pql_spec.specs.query_spec.declared.parts.Literal.{Literal}
use Rattle.pql_spec.specs.query_spec.declared.parts.Name.{Name}
use Rattle.pql_spec.specs.query_spec.declared.parts.Op.TheVariants.{Equal as equal}
use Rattle.pql_spec.specs.query_spec.declared.parts.Scalar.TheVariants.{Text as string}
use Rattle.pql_spec.specs.query_spec.declared.parts.Selected.{Selected}
use Rattle.pql_spec.specs.query_spec.declared.parts.Selected.TheVariants.{Column as plain, Function as applied}
use Rattle.pql_spec.specs.query_spec.Parts.{field_named}
use Rattle.pql_spec.specs.query_spec.Query.{Filter, compare, matches, is_null, subquery, negation, Clause, no_clause, clause, Level, level_height}
use Rattle.pql_spec.specs.Grammar.{empty, among, among_rows, level_with, pattern}
use Rattle.pql_machine.specs.Machine.{Pending, Frame, parens, implicit, inner, Head, Owner, outermost, right_of, Mode, operand, named, compare_to, differ_from, match_with, null_or_not, not_null, left_next, left_behind, in_expected, right, literal_next, literal_behind, Column, column_next, column_behind, in_function, in_argument, column_closed, inner_bracket, inner_columns, inner_brace, State, start, headed, head_columns, head_brace, body, within, done, paged, complete, negate, region}

abbrev pub some_name : Name
some_name = record { text = codes "a"; place = 0 ∷ [] }

abbrev pub some_text : Literal
some_text = record { value = string []; place = 0 ∷ [] }

-- the region's filter after one more operand under n negations
abbrev pub put : Pending → ℕ → Filter → Filter
put p n f = region (record { any = p.any; all = p.all ++ negate n f ∷ [] })

-- the query if the innermost region's filter is f and everything closes after it
abbrev pub wrap : Head → List Frame → Filter → Level
wrap h [] f = level_with h.entity h.columns (clause f) empty
wrap h (parens p n ∷ fs) f = wrap h fs (put p n f)
wrap h (implicit e p n ∷ fs) f = wrap h fs (put p n (subquery e (clause f)))
wrap h (inner ls e cs p n ∷ fs) f = wrap h fs (put p n (among_rows ls e (level_with e (Some cs) (clause f) empty)))

-- the query if the innermost braces have no filter; parentheses always have one
abbrev pub wrap_nothing : Head → List Frame → Level
wrap_nothing h [] = level_with h.entity h.columns no_clause empty
wrap_nothing h (parens p n ∷ fs) = wrap h fs (put p n (is_null (field_named some_name) true))
wrap_nothing h (implicit e p n ∷ fs) = wrap h fs (put p n (subquery e no_clause))
wrap_nothing h (inner ls e cs p n ∷ fs) = wrap h fs (put p n (among_rows ls e (level_with e (Some cs) no_clause empty)))

abbrev pub least_list : List Name → Filter
least_list cs = among cs (0 ∷ []) (some_text ∷ [])

abbrev pub least_level : List Name → Name → List Selected → Filter
least_level ls e cs = among_rows ls e (level_with e (Some cs) no_clause empty)

abbrev pub least_columns : List Selected → Column → List Selected
least_columns cs column_next = cs ++ plain some_name ∷ []
least_columns cs (column_behind c) = cs ++ plain c ∷ []
least_columns cs (in_function c g) = cs ++ applied g some_name ∷ []
least_columns cs (in_argument c g d) = cs ++ applied g d ∷ []
least_columns cs (column_closed c x) = cs ++ x ∷ []

abbrev pub least : Mode → Filter
least operand = is_null (field_named some_name) true
least (named c) = is_null (field_named c) true
least (compare_to c op) = compare op (field_named c) some_text
least (differ_from c) = negation (compare equal (field_named c) some_text)
least (match_with c) = matches (field_named c) (pattern [] (0 ∷ []))
least (null_or_not c) = is_null (field_named c) true
least (not_null c) = is_null (field_named c) false
least (left_next cs) = least_list (cs ++ some_name ∷ [])
least (left_behind cs c) = least_list (cs ++ c ∷ [])
least (in_expected cs) = least_list cs
least (right cs) = least_list cs
least (literal_next cs at ls) = among cs at (ls ++ some_text ∷ [])
least (literal_behind cs at ls l) = among cs at (ls ++ l ∷ [])
least (inner_bracket ls e) = least_level ls e (plain some_name ∷ [])
least (inner_columns ls e cs k) = least_level ls e (least_columns cs k)
least (inner_brace ls e cs) = least_level ls e cs

abbrev pub wrap_level : Head → Owner → Clause → Level
wrap_level h outermost k = level_with h.entity h.columns k empty
wrap_level h (right_of fs ls e cs p n) k = wrap h fs (put p n (among_rows ls e (level_with e (Some cs) k empty)))

-- the least query of a state, without regard to paging
abbrev pub least_query : State → Level
least_query start = level_with some_name None no_clause empty
least_query (headed e) = level_with e None no_clause empty
least_query (head_columns e cs k) = level_with e (Some cs) no_clause empty
least_query (head_brace e cs) = level_with e (Some cs) no_clause empty
least_query (body h fs) = wrap_nothing h fs
least_query (within h fs p n m) = wrap h fs (put p n (least m))
least_query (done h fs p) = wrap h fs (region p)
least_query (paged h o k g x) = wrap_level h o k
least_query (complete q) = q

-- the depth of a state: each query that continues it is at least as deep, and one is exactly as deep
abbrev pub need : State → ℕ
need s = level_height (least_query s)
