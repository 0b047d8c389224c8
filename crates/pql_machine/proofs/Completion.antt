-- Law 2: each state of the machine has a completion, which spells a query as deep as the state needs.
use Rattle.std.proofs.Common.{◌≡◌, ◌∙◌, ℕ, List, [], ◌∷◌, ◌++◌, refl, sym, ap, if◌then◌else◌, codes, true, Some, None}
use Rattle.pql_spec.specs.query_spec.declared.parts.Literal.{Literal}
use Rattle.pql_spec.specs.query_spec.declared.parts.Scalar.TheVariants.{Num as number}
use Rattle.pql_spec.specs.query_spec.declared.parts.Selected.TheVariants.{Column as plain}
use Rattle.pql_spec.specs.query_spec.Parts.{field_named}
use Rattle.pql_spec.specs.query_spec.Query.{is_null, Clause, no_clause, Level, level_height}
use Rattle.pql_spec.specs.declared.token.Token.{Token}
use Rattle.pql_spec.specs.declared.token.Token.TheVariants.{Word as word, Literal as literal, OpenBracket as open_bracket, CloseBracket as close_bracket, OpenBrace as open_brace, CloseBrace as close_brace, CloseParen as close_paren, In as in_word, Is as is_word, Null as null_word, By as by_word}
use Rattle.pql_spec.specs.Grammar.{Tail, among_rows, level_with, is_count, empty}
use Rattle.pql_machine.specs.Machine.{Pending, Frame, parens, implicit, inner, Head, Owner, outermost, right_of, PagingStage, group_by, group_next, group_behind, order_by, order_next, order_behind, order_directed, limit_count, behind_limit, offset_count, behind_offset, Column, column_next, column_behind, in_function, in_argument, column_closed, goes, inner_goes, head_goes, Mode, operand, named, compare_to, differ_from, match_with, null_or_not, not_null, left_next, left_behind, in_expected, right, literal_next, literal_behind, inner_bracket, inner_columns, inner_brace, State, start, headed, head_columns, head_brace, body, within, done, paged, complete, negate, region, level_done, and_then, read}
use Rattle.pql_machine.specs.Least.{some_name, some_text, put, wrap, wrap_nothing, wrap_level, least, least_level, least_query}
use Rattle.pql_machine.specs.Depth.{depth_of}
use Rattle.pql_machine.proofs.Fresh.{some-fresh}
use Rattle.pql_machine.proofs.Heights.{put-height, wrap-height}

abbrev pub all_ends : List Frame → List Token
all_ends [] = close_brace ∷ []
all_ends (parens p n ∷ fs) = close_paren ∷ all_ends fs
all_ends (implicit e p n ∷ fs) = close_brace ∷ all_ends fs
all_ends (inner ls e cs p n ∷ fs) = close_brace ∷ all_ends fs

abbrev pub null_test : List Token → List Token
null_test r = is_word ∷ null_word ∷ r

abbrev pub list_test : List Token → List Token
list_test r = open_bracket (0 ∷ []) ∷ literal some_text ∷ close_bracket ∷ r

abbrev pub braces : List Token → List Token
braces r = open_brace ∷ close_brace ∷ r

abbrev pub column_end : Column → List Token → List Token
column_end column_next r = word some_name ∷ close_bracket ∷ r
column_end (column_behind c) r = close_bracket ∷ r
column_end (in_function c g) r = word some_name ∷ close_paren ∷ close_bracket ∷ r
column_end (in_argument c g d) r = close_paren ∷ close_bracket ∷ r
column_end (column_closed c x) r = close_bracket ∷ r

abbrev pub mode_end : Mode → List Token → List Token
mode_end operand r = word some_name ∷ null_test r
mode_end (named c) r = null_test r
mode_end (compare_to c op) r = literal some_text ∷ r
mode_end (differ_from c) r = literal some_text ∷ r
mode_end (match_with c) r = literal some_text ∷ r
mode_end (null_or_not c) r = null_word ∷ r
mode_end (not_null c) r = null_word ∷ r
mode_end (left_next cs) r = word some_name ∷ close_bracket ∷ in_word ∷ list_test r
mode_end (left_behind cs c) r = close_bracket ∷ in_word ∷ list_test r
mode_end (in_expected cs) r = in_word ∷ list_test r
mode_end (right cs) r = list_test r
mode_end (literal_next cs at ls) r = literal some_text ∷ close_bracket ∷ r
mode_end (literal_behind cs at ls l) r = close_bracket ∷ r
mode_end (inner_bracket ls e) r = open_bracket (0 ∷ []) ∷ word some_name ∷ close_bracket ∷ braces r
mode_end (inner_columns ls e cs k) r = column_end k (braces r)
mode_end (inner_brace ls e cs) r = braces r

abbrev pub body_end : List Frame → List Token
body_end [] = close_brace ∷ []
body_end (parens p n ∷ fs) = word some_name ∷ null_test (close_paren ∷ all_ends fs)
body_end (implicit e p n ∷ fs) = close_brace ∷ all_ends fs
body_end (inner ls e cs p n ∷ fs) = close_brace ∷ all_ends fs

abbrev pub owner_end : Owner → List Token
owner_end outermost = []
owner_end (right_of fs ls e cs p n) = all_ends fs

abbrev pub zero_count : Literal
zero_count = record { value = number (codes "0"); place = 0 ∷ [] }

abbrev pub stage_end : PagingStage → List Token → List Token
stage_end group_by r = by_word ∷ word some_name ∷ close_brace ∷ r
stage_end (group_next cs) r = word some_name ∷ close_brace ∷ r
stage_end (group_behind cs c) r = close_brace ∷ r
stage_end order_by r = by_word ∷ word some_name ∷ close_brace ∷ r
stage_end (order_next os) r = word some_name ∷ close_brace ∷ r
stage_end (order_behind os c) r = close_brace ∷ r
stage_end (order_directed os c b) r = close_brace ∷ r
stage_end limit_count r = literal zero_count ∷ close_brace ∷ r
stage_end behind_limit r = close_brace ∷ r
stage_end offset_count r = literal zero_count ∷ close_brace ∷ r
stage_end behind_offset r = close_brace ∷ r

abbrev pub completion : State → List Token
completion start = word some_name ∷ braces []
completion (headed e) = braces []
completion (head_columns e cs k) = column_end k (braces [])
completion (head_brace e cs) = braces []
completion (body h fs) = body_end fs
completion (within h fs p n m) = mode_end m (all_ends fs)
completion (done h fs p) = all_ends fs
completion (paged h o k g x) = stage_end x (owner_end o)
completion (complete q) = []

-- a query of that depth is read
abbrev pub Reads : State → List Token → Level → Type 0
Reads s ts least = (q : Level) × (read s ts ≡ Some q) × (level_height q ≡ level_height least)

module _ (h : Head) where
  done-ends : (fs : List Frame) (p : Pending) → Reads (done h fs p) (all_ends fs) (wrap h fs (region p))
  done-ends [] p = (_, refl, refl)
  done-ends (parens q n ∷ fs) p = done-ends fs (record { any = q.any; all = q.all ++ negate n (region p) ∷ [] })
  done-ends (implicit e q n ∷ fs) p = done-ends fs (record { any = q.any; all = _ })
  done-ends (inner ls e cs q n ∷ fs) p = done-ends fs (record { any = q.any; all = _ })

  mode-ends : (fs : List Frame) (p : Pending) (n : ℕ) (m : Mode) → Reads (within h fs p n m) (mode_end m (all_ends fs)) (wrap h fs (put p n (least m)))
  mode-ends fs p n operand = done-ends fs _
  mode-ends fs p n (named c) = done-ends fs _
  mode-ends fs p n (compare_to c op) = done-ends fs _
  mode-ends fs p n (differ_from c) = done-ends fs _
  mode-ends fs p n (match_with c) = done-ends fs _
  mode-ends fs p n (null_or_not c) = done-ends fs _
  mode-ends fs p n (not_null c) = done-ends fs _
  mode-ends fs p n (left_next cs) = done-ends fs _
  mode-ends fs p n (left_behind cs c) = done-ends fs _
  mode-ends fs p n (in_expected cs) = done-ends fs _
  mode-ends fs p n (right cs) = done-ends fs _
  mode-ends fs p n (literal_next cs at ls) = done-ends fs _
  mode-ends fs p n (literal_behind cs at ls l) = done-ends fs _
  mode-ends fs p n (inner_bracket ls e) = done-ends fs _
  mode-ends fs p n (inner_columns ls e cs column_next) =
      let d = done-ends fs (record { any = p.any; all = p.all ++ negate n (least_level ls e (cs ++ plain some_name ∷ [])) ∷ [] }) in (
        d.0,
        ap (λ b. and_then (inner_goes h fs p n ls e (if b then None else Some (goes cs (column_behind some_name)))) (λ q. read q (close_bracket ∷ braces (all_ends fs)))) (some-fresh cs) ∙ d.1,
        d.2,
      )
  mode-ends fs p n (inner_columns ls e cs (column_behind c)) = done-ends fs _
  mode-ends fs p n (inner_columns ls e cs (in_function c g)) = done-ends fs _
  mode-ends fs p n (inner_columns ls e cs (in_argument c g d)) = done-ends fs _
  mode-ends fs p n (inner_columns ls e cs (column_closed c x)) = done-ends fs _
  mode-ends fs p n (inner_brace ls e cs) = done-ends fs _

  body-ends : (fs : List Frame) → Reads (body h fs) (body_end fs) (wrap_nothing h fs)
  body-ends [] = (_, refl, refl)
  body-ends (parens p n ∷ fs) = done-ends (parens p n ∷ fs) (record { any = []; all = is_null (field_named some_name) true ∷ [] })
  body-ends (implicit e p n ∷ fs) = done-ends fs _
  body-ends (inner ls e cs p n ∷ fs) = done-ends fs _

  -- how a level is paged says nothing of its depth
  paged-depth : (o : Owner) (k : Clause) (g : Tail) → Reads (level_done h o k g) (owner_end o) (wrap_level h o k)
  paged-depth outermost k g = (_, refl, refl)
  paged-depth (right_of fs ls e cs p n) k g =
      let f = among_rows ls e (level_with e (Some cs) k g) in
      let u = among_rows ls e (level_with e (Some cs) k empty) in
      let r = done-ends fs (record { any = p.any; all = p.all ++ negate n f ∷ [] }) in (
        r.0,
        r.1,
        r.2 ∙ wrap-height h fs (put p n f) ∙ ap (depth_of fs) (put-height p n f ∙ sym (put-height p n u)) ∙ sym (wrap-height h fs (put p n u)),
      )

  paged-ends : (o : Owner) (k : Clause) (g : Tail) (x : PagingStage) → Reads (paged h o k g x) (stage_end x (owner_end o)) (wrap_level h o k)
  unfolding is_count
  paged-ends o k g group_by = paged-depth o k _
  paged-ends o k g (group_next cs) = paged-depth o k _
  paged-ends o k g (group_behind cs c) = paged-depth o k _
  paged-ends o k g order_by = paged-depth o k _
  paged-ends o k g (order_next os) = paged-depth o k _
  paged-ends o k g (order_behind os c) = paged-depth o k _
  paged-ends o k g (order_directed os c b) = paged-depth o k _
  paged-ends o k g limit_count = paged-depth o k _
  paged-ends o k g behind_limit = paged-depth o k _
  paged-ends o k g offset_count = paged-depth o k _
  paged-ends o k g behind_offset = paged-depth o k _

-- law 2
pub completes : (s : State) → Reads s (completion s) (least_query s)
completes start = (_, refl, refl)
completes (headed e) = (_, refl, refl)
completes (head_columns e cs column_next) = (
  level_with e (Some (cs ++ plain some_name ∷ [])) no_clause empty,
  ap (λ b. and_then (head_goes e (if b then None else Some (goes cs (column_behind some_name)))) (λ q. read q (close_bracket ∷ braces []))) (some-fresh cs),
  refl,
)
completes (head_columns e cs (column_behind c)) = (_, refl, refl)
completes (head_columns e cs (in_function c g)) = (_, refl, refl)
completes (head_columns e cs (in_argument c g d)) = (_, refl, refl)
completes (head_columns e cs (column_closed c x)) = (_, refl, refl)
completes (head_brace e cs) = (_, refl, refl)
completes (body h fs) = body-ends h fs
completes (within h fs p n m) = mode-ends h fs p n m
completes (done h fs p) = done-ends h fs p
completes (paged h o k g x) = paged-ends h o k g x
completes (complete q) = (_, refl, refl)
