-- What completes a query can be spelt.
use Rattle.std.proofs.Common.{List, [], ◌∷◌, refl, codes, None, false, inl, arith}
use Rattle.std.specs.List.{AllByRecursion}
use Rattle.pql_spec.specs.declared.token.Token.{Token}
use Rattle.pql_spec.specs.declared.token.Token.TheVariants.{Word as word, Literal as literal, OpenBracket as open_bracket, CloseBracket as close_bracket, OpenBrace as open_brace, CloseBrace as close_brace, CloseParen as close_paren, In as in_word, Is as is_word, Null as null_word, By as by_word}
use Rattle.pql_spec.specs.Texts.{IsToken}
use Rattle.pql_spec.specs.Tokens.{a_word, a_number, a_text, a_mark, word_token, mark_token}
use Rattle.pql_machine.specs.Machine.{Frame, parens, implicit, inner, Owner, outermost, right_of, PagingStage, group_by, group_next, group_behind, order_by, order_next, order_behind, order_directed, limit_count, behind_limit, offset_count, behind_offset, Column, column_next, column_behind, in_function, in_argument, column_closed, Mode, operand, named, compare_to, differ_from, match_with, null_or_not, not_null, left_next, left_behind, in_expected, right, literal_next, literal_behind, inner_bracket, inner_columns, inner_brace, State, start, headed, head_columns, head_brace, body, within, done, paged, complete}
use Rattle.pql_machine.specs.Least.{some_name, some_text}
use Rattle.pql_machine.proofs.Completion.{zero_count, all_ends, list_test, braces, column_end, mode_end, body_end, owner_end, stage_end, completion}

abbrev Are : List Token → Type 0
Are = AllByRecursion IsToken

a_name : IsToken (word some_name)
unfolding word_token
a_name = (0, codes "a", a_word (refl, tt) refl)

a_string : IsToken (literal some_text)
a_string = (0, codes "''", a_text 39 [] (inl refl) tt ([], (refl, refl)) refl refl)

zero : IsToken (literal zero_count)
zero = (0, codes "0", a_number (record { minus = false; whole = codes "0"; fraction = None; exponent = None }, (((omega arith, tt), (λ e. refl)), tt, tt), refl) refl)

is_is : IsToken is_word
unfolding word_token
is_is = (0, codes "is", a_word (refl, (refl, tt)) refl)

null_is : IsToken null_word
unfolding word_token
null_is = (0, codes "null", a_word (refl, (refl, (refl, (refl, tt)))) refl)

in_is : IsToken in_word
unfolding word_token
in_is = (0, codes "in", a_word (refl, (refl, tt)) refl)

by_is : IsToken by_word
unfolding word_token
by_is = (0, codes "by", a_word (refl, (refl, tt)) refl)

bracket : IsToken (open_bracket (0 ∷ []))
unfolding mark_token
bracket = (0, codes "[", a_mark refl)

bracket_end : IsToken close_bracket
unfolding mark_token
bracket_end = (0, codes "]", a_mark refl)

brace : IsToken open_brace
unfolding mark_token
brace = (0, codes "{", a_mark refl)

brace_end : IsToken close_brace
unfolding mark_token
brace_end = (0, codes "}", a_mark refl)

paren_end : IsToken close_paren
unfolding mark_token
paren_end = (0, codes ")", a_mark refl)

all_ended : (fs : List Frame) → Are (all_ends fs)
all_ended [] = (brace_end, tt)
all_ended (parens p n ∷ fs) = (paren_end, all_ended fs)
all_ended (implicit e p n ∷ fs) = (brace_end, all_ended fs)
all_ended (inner ls e cs p n ∷ fs) = (brace_end, all_ended fs)

module _ (r : List Token) (a : Are r) where
  list_tested : Are (list_test r)
  list_tested = (bracket, (a_string, (bracket_end, a)))

  braced : Are (braces r)
  braced = (brace, (brace_end, a))

  column_ended : (k : Column) → Are (column_end k r)
  column_ended column_next = (a_name, (bracket_end, a))
  column_ended (column_behind c) = (bracket_end, a)
  column_ended (in_function c g) = (a_name, (paren_end, (bracket_end, a)))
  column_ended (in_argument c g d) = (paren_end, (bracket_end, a))
  column_ended (column_closed c x) = (bracket_end, a)

  stage_ended : (x : PagingStage) → Are (stage_end x r)
  stage_ended group_by = (by_is, (a_name, (brace_end, a)))
  stage_ended (group_next cs) = (a_name, (brace_end, a))
  stage_ended (group_behind cs c) = (brace_end, a)
  stage_ended order_by = (by_is, (a_name, (brace_end, a)))
  stage_ended (order_next os) = (a_name, (brace_end, a))
  stage_ended (order_behind os c) = (brace_end, a)
  stage_ended (order_directed os c b) = (brace_end, a)
  stage_ended limit_count = (zero, (brace_end, a))
  stage_ended behind_limit = (brace_end, a)
  stage_ended offset_count = (zero, (brace_end, a))
  stage_ended behind_offset = (brace_end, a)

mode_ended : (m : Mode) (r : List Token) → Are r → Are (mode_end m r)
mode_ended operand r a = (a_name, (is_is, (null_is, a)))
mode_ended (named c) r a = (is_is, (null_is, a))
mode_ended (compare_to c op) r a = (a_string, a)
mode_ended (differ_from c) r a = (a_string, a)
mode_ended (match_with c) r a = (a_string, a)
mode_ended (null_or_not c) r a = (null_is, a)
mode_ended (not_null c) r a = (null_is, a)
mode_ended (left_next cs) r a = (a_name, (bracket_end, (in_is, list_tested r a)))
mode_ended (left_behind cs c) r a = (bracket_end, (in_is, list_tested r a))
mode_ended (in_expected cs) r a = (in_is, list_tested r a)
mode_ended (right cs) r a = list_tested r a
mode_ended (literal_next cs at ls) r a = (a_string, (bracket_end, a))
mode_ended (literal_behind cs at ls l) r a = (bracket_end, a)
mode_ended (inner_bracket ls e) r a = (bracket, (a_name, (bracket_end, braced r a)))
mode_ended (inner_columns ls e cs k) r a = column_ended (braces r) (braced r a) k
mode_ended (inner_brace ls e cs) r a = braced r a

body_ended : (fs : List Frame) → Are (body_end fs)
body_ended [] = (brace_end, tt)
body_ended (parens p n ∷ fs) = (a_name, (is_is, (null_is, (paren_end, all_ended fs))))
body_ended (implicit e p n ∷ fs) = (brace_end, all_ended fs)
body_ended (inner ls e cs p n ∷ fs) = (brace_end, all_ended fs)

owner_ended : (o : Owner) → Are (owner_end o)
owner_ended outermost = tt
owner_ended (right_of fs ls e cs p n) = all_ended fs

pub completed : (s : State) → Are (completion s)
completed start = (a_name, braced [] tt)
completed (headed e) = braced [] tt
completed (head_columns e cs k) = column_ended (braces []) (braced [] tt) k
completed (head_brace e cs) = braced [] tt
completed (body h fs) = body_ended fs
completed (within h fs p n m) = mode_ended m (all_ends fs) (all_ended fs)
completed (done h fs p) = all_ended fs
completed (paged h o k g x) = stage_ended (owner_end o) (owner_ended o) x
completed (complete q) = tt
