-- A token makes no query less deep.
use Rattle.std.proofs.Common.{◌≡◌, ℕ, suc, ◌≤◌, List, [], ◌∷◌, ◌++◌, sym, subst, arith, true, false, Option, Some, None}
use Rattle.pql_spec.specs.query_spec.Ast.{order}
use Rattle.pql_spec.specs.query_spec.declared.parts.Literal.{Literal}
use Rattle.pql_spec.specs.query_spec.declared.parts.Name.{Name}
use Rattle.pql_spec.specs.query_spec.declared.parts.Op.TheVariants.{Equal as equal}
use Rattle.pql_spec.specs.query_spec.declared.parts.Scalar.{Scalar}
use Rattle.pql_spec.specs.query_spec.declared.parts.Scalar.TheVariants.{Text as string, Num as number, Bool as boolean}
use Rattle.pql_spec.specs.query_spec.declared.parts.Selected.{Selected}
use Rattle.pql_spec.specs.query_spec.Parts.{field_named}
use Rattle.pql_spec.specs.query_spec.Query.{Filter, compare, matches, is_null, subquery, negation, Clause, no_clause, clause, Level, height, level_height}
use Rattle.pql_spec.specs.declared.token.Token.{Token}
use Rattle.pql_spec.specs.declared.token.Token.TheVariants.{Word as word, Literal as literal, OpenBracket as open_bracket, CloseBracket as close_bracket, OpenBrace as open_brace, CloseBrace as close_brace, OpenParen as open_paren, CloseParen as close_paren, Comma as comma, Bang as bang, Tilde as tilde, Comparison as comparison, Differs as differs, And as and_word, Or as or_word, In as in_word, Is as is_word, Not as not_word, Null as null_word, Group as group_word, Order as order_word, By as by_word, Asc as asc_word, Desc as desc_word, Limit as limit_word, Offset as offset_word}
use Rattle.pql_spec.specs.Grammar.{Tail, among, pattern, is_count, number_of, join_all, empty, with_group, with_order}
use Rattle.pql_machine.specs.Machine.{Pending, Frame, parens, implicit, inner, Head, Owner, outermost, right_of, PagingStage, group_by, group_next, group_behind, order_by, order_next, order_behind, order_directed, limit_count, behind_limit, offset_count, behind_offset, Column, column_next, Gone, goes, ends, column_step, inner_goes, Mode, operand, named, compare_to, differ_from, match_with, null_or_not, not_null, left_next, left_behind, in_expected, right, literal_next, literal_behind, inner_bracket, inner_columns, inner_brace, State, start, headed, head_columns, head_brace, body, within, done, paged, complete, nothing, finish, region, level_done, from_end, from_offset, from_limit, from_order, may_group, level_ends, clause_ends, parens_end, operand_begins, with_text, with_count, mode_step, stage_step, body_step, region_ends, done_step, step}
use Rattle.pql_machine.specs.Least.{some_name, put, wrap, wrap_nothing, wrap_level, least, need}
use Rattle.pql_machine.specs.Depth.{joined}
use Rattle.pql_machine.proofs.Heights.{tall-append, join_any-height, put-height, wrap-height, joined-mono, put-mono, depth-mono}
use Rattle.pql_spec.proofs.of_plain_laws.Options.{none_some, some_same, choose}

grown : (m : ℕ) (s q : State) → Some s ≡ Some q → m ≤ need s → m ≤ need q
grown m s q e h = subst (λ x. m ≤ need x) (sym (some_same s q e)) h

wrap-mono : (h : Head) (fs : List Frame) (f g : Filter) → height f ≤ height g → level_height (wrap h fs f) ≤ level_height (wrap h fs g)
wrap-mono h fs f g e = omega (arith, wrap-height h fs f, wrap-height h fs g, depth-mono fs (height f) (height g) e)

put_wrap-mono : (h : Head) (fs : List Frame) (p : Pending) (n : ℕ) (f g : Filter) → height f ≤ height g → level_height (wrap h fs (put p n f)) ≤ level_height (wrap h fs (put p n g))
put_wrap-mono h fs p n f g e = wrap-mono h fs (put p n f) (put p n g) (omega (arith, put-height p n f, put-height p n g, put-mono p n (height f) (height g) e))

level-depth : (h : Head) (o : Owner) (k : Clause) (g : Tail) → level_height (wrap_level h o k) ≤ need (level_done h o k g)
level-depth h outermost k g = omega arith
level-depth h (right_of fs ls e cs p n) k g = put_wrap-mono h fs p n _ _ (omega arith)

from_end-grows : (h : Head) (o : Owner) (k : Clause) (g : Tail) (t : Token) (q : State) → from_end h o k g t ≡ Some q → level_height (wrap_level h o k) ≤ need q
from_end-grows h o k g close_brace q e = grown _ (level_done h o k g) q e (level-depth h o k g)
from_end-grows h o k g _ q e = none_some q e

from_offset-grows : (h : Head) (o : Owner) (k : Clause) (g : Tail) (t : Token) (q : State) → from_offset h o k g t ≡ Some q → level_height (wrap_level h o k) ≤ need q
from_offset-grows h o k g offset_word q e = grown _ (paged h o k g offset_count) q e (omega arith)
from_offset-grows h o k g t q e = from_end-grows h o k g t q e

from_limit-grows : (h : Head) (o : Owner) (k : Clause) (g : Tail) (t : Token) (q : State) → from_limit h o k g t ≡ Some q → level_height (wrap_level h o k) ≤ need q
from_limit-grows h o k g limit_word q e = grown _ (paged h o k g limit_count) q e (omega arith)
from_limit-grows h o k g t q e = from_offset-grows h o k g t q e

from_order-grows : (h : Head) (o : Owner) (k : Clause) (g : Tail) (t : Token) (q : State) → from_order h o k g t ≡ Some q → level_height (wrap_level h o k) ≤ need q
from_order-grows h o k g order_word q e = grown _ (paged h o k g order_by) q e (omega arith)
from_order-grows h o k g t q e = from_limit-grows h o k g t q e

level_ends-grows : (h : Head) (o : Owner) (k : Clause) (t : Token) (q : State) → level_ends h o k t ≡ Some q → level_height (wrap_level h o k) ≤ need q
level_ends-grows h o k group_word q e = choose (may_group h o) (Some (paged h o k empty group_by)) None (Some q) (level_height (wrap_level h o k) ≤ need q) e (λ i x. grown _ (paged h o k empty group_by) q x (omega arith)) (λ i x. none_some q x)
level_ends-grows h o k t q e = from_order-grows h o k empty t q e

-- the query, where a clause is the whole of the innermost braces
abbrev wrap_clause : Head → List Frame → Clause → Level
wrap_clause h fs no_clause = wrap_nothing h fs
wrap_clause h fs (clause f) = wrap h fs f

clause_ends-grows : (h : Head) (fs : List Frame) (k : Clause) (t : Token) (q : State) → clause_ends h fs k t ≡ Some q → level_height (wrap_clause h fs k) ≤ need q
clause_ends-grows h [] no_clause t q e = level_ends-grows h outermost no_clause t q e
clause_ends-grows h [] (clause f) t q e = level_ends-grows h outermost (clause f) t q e
clause_ends-grows h (parens p n ∷ fs) k t q e = none_some q e
clause_ends-grows h (implicit a p n ∷ fs) no_clause close_brace q e = grown _ (finish h fs p n (subquery a no_clause)) q e (omega arith)
clause_ends-grows h (implicit a p n ∷ fs) (clause f) close_brace q e = grown _ (finish h fs p n (subquery a (clause f))) q e (omega arith)
clause_ends-grows h (implicit a p n ∷ fs) k _ q e = none_some q e
clause_ends-grows h (inner ls a cs p n ∷ fs) no_clause t q e = level_ends-grows h (right_of fs ls a cs p n) no_clause t q e
clause_ends-grows h (inner ls a cs p n ∷ fs) (clause f) t q e = level_ends-grows h (right_of fs ls a cs p n) (clause f) t q e

parens_end-grows : (h : Head) (fs : List Frame) (f : Filter) (q : State) → parens_end h fs f ≡ Some q → level_height (wrap h fs f) ≤ need q
parens_end-grows h [] f q e = none_some q e
parens_end-grows h (parens p n ∷ fs) f q e = grown _ (finish h fs p n f) q e (omega arith)
parens_end-grows h (implicit a p n ∷ fs) f q e = none_some q e
parens_end-grows h (inner ls a cs p n ∷ fs) f q e = none_some q e

-- an operand that begins needs a filter of height 1
abbrev leaf_need : Head → List Frame → Pending → ℕ → ℕ
leaf_need h fs p n = level_height (wrap h fs (put p n (is_null (field_named some_name) true)))

operand_begins-grows : (h : Head) (fs : List Frame) (p : Pending) (n : ℕ) (t : Token) (q : State) → operand_begins h fs p n t ≡ Some q → leaf_need h fs p n ≤ need q
operand_begins-grows h fs p n (word c) q e = grown _ (within h fs p n (named c)) q e (put_wrap-mono h fs p n _ _ (omega arith))
operand_begins-grows h fs p n (open_bracket at) q e = grown _ (within h fs p n (left_next [])) q e (put_wrap-mono h fs p n _ _ (omega arith))
operand_begins-grows h fs p n bang q e = grown _ (within h fs p (suc n) operand) q e (put_wrap-mono h fs p n (is_null (field_named some_name) true) (negation (is_null (field_named some_name) true)) (omega arith))
operand_begins-grows h fs p n open_paren q e = grown _ (within h (parens p n ∷ fs) nothing 0 operand) q e (omega arith)
operand_begins-grows h fs p n _ q e = none_some q e

module _ (h : Head) (fs : List Frame) (p : Pending) (n : ℕ) where
  to_mode : (m l : Mode) (q : State) → Some (within h fs p n l) ≡ Some q → height (least m) ≤ height (least l) → need (within h fs p n m) ≤ need q
  to_mode m l q e b = grown _ (within h fs p n l) q e (put_wrap-mono h fs p n (least m) (least l) b)

  to_end : (m : Mode) (f : Filter) (q : State) → Some (finish h fs p n f) ≡ Some q → height (least m) ≤ height f → need (within h fs p n m) ≤ need q
  to_end m f q e b = grown _ (finish h fs p n f) q e (put_wrap-mono h fs p n (least m) f b)

  text-grows : (c : Name) (l : Literal) (v : Scalar) (q : State) → with_text v (λ s. finish h fs p n (matches (field_named c) (pattern s l.place))) ≡ Some q → need (within h fs p n (match_with c)) ≤ need q
  text-grows c l (string s) q e = to_end (match_with c) (matches (field_named c) (pattern s l.place)) q e (omega arith)
  text-grows c l (number s) q e = none_some q e
  text-grows c l (boolean b) q e = none_some q e

  gone-grows : (ls : List Name) (a : Name) (cs : List Selected) (k : Column) (o : Option Gone) (q : State) → inner_goes h fs p n ls a o ≡ Some q → need (within h fs p n (inner_columns ls a cs k)) ≤ need q
  gone-grows ls a cs k None q e = none_some q e
  gone-grows ls a cs k (Some (goes ds l)) q e = to_mode (inner_columns ls a cs k) (inner_columns ls a ds l) q e (omega arith)
  gone-grows ls a cs k (Some (ends ds)) q e = to_mode (inner_columns ls a cs k) (inner_brace ls a ds) q e (omega arith)

  mode-grows : (m : Mode) (t : Token) (q : State) → mode_step h fs p n m t ≡ Some q → need (within h fs p n m) ≤ need q
  mode-grows operand t q e = operand_begins-grows h fs p n t q e
  mode-grows (named c) (comparison op) q e = to_mode (named c) (compare_to c op) q e (omega arith)
  mode-grows (named c) differs q e = to_mode (named c) (differ_from c) q e (omega arith)
  mode-grows (named c) tilde q e = to_mode (named c) (match_with c) q e (omega arith)
  mode-grows (named c) is_word q e = to_mode (named c) (null_or_not c) q e (omega arith)
  mode-grows (named c) in_word q e = to_mode (named c) (right (c ∷ [])) q e (omega arith)
  mode-grows (named c) open_brace q e = grown _ (body h (implicit c p n ∷ fs)) q e (put_wrap-mono h fs p n (is_null (field_named c) true) (subquery c no_clause) (omega arith))
  mode-grows (named c) _ q e = none_some q e
  mode-grows (compare_to c op) (literal l) q e = to_end (compare_to c op) (compare op (field_named c) l) q e (omega arith)
  mode-grows (compare_to c op) _ q e = none_some q e
  mode-grows (differ_from c) (literal l) q e = to_end (differ_from c) (negation (compare equal (field_named c) l)) q e (omega arith)
  mode-grows (differ_from c) _ q e = none_some q e
  mode-grows (match_with c) (literal l) q e = text-grows c l l.value q e
  mode-grows (match_with c) _ q e = none_some q e
  mode-grows (null_or_not c) null_word q e = to_end (null_or_not c) (is_null (field_named c) true) q e (omega arith)
  mode-grows (null_or_not c) not_word q e = to_mode (null_or_not c) (not_null c) q e (omega arith)
  mode-grows (null_or_not c) _ q e = none_some q e
  mode-grows (not_null c) null_word q e = to_end (not_null c) (is_null (field_named c) false) q e (omega arith)
  mode-grows (not_null c) _ q e = none_some q e
  mode-grows (left_next cs) (word c) q e = to_mode (left_next cs) (left_behind cs c) q e (omega arith)
  mode-grows (left_next cs) _ q e = none_some q e
  mode-grows (left_behind cs c) comma q e = to_mode (left_behind cs c) (left_next (cs ++ c ∷ [])) q e (omega arith)
  mode-grows (left_behind cs c) close_bracket q e = to_mode (left_behind cs c) (in_expected (cs ++ c ∷ [])) q e (omega arith)
  mode-grows (left_behind cs c) _ q e = none_some q e
  mode-grows (in_expected cs) in_word q e = to_mode (in_expected cs) (right cs) q e (omega arith)
  mode-grows (in_expected cs) _ q e = none_some q e
  mode-grows (right cs) (open_bracket at) q e = to_mode (right cs) (literal_next cs at []) q e (omega arith)
  mode-grows (right cs) (word a) q e = to_mode (right cs) (inner_bracket cs a) q e (omega arith)
  mode-grows (right cs) _ q e = none_some q e
  mode-grows (literal_next cs at ls) (literal l) q e = to_mode (literal_next cs at ls) (literal_behind cs at ls l) q e (omega arith)
  mode-grows (literal_next cs at ls) _ q e = none_some q e
  mode-grows (literal_behind cs at ls l) comma q e = to_mode (literal_behind cs at ls l) (literal_next cs at (ls ++ l ∷ [])) q e (omega arith)
  mode-grows (literal_behind cs at ls l) close_bracket q e = to_end (literal_behind cs at ls l) (among cs at (ls ++ l ∷ [])) q e (omega arith)
  mode-grows (literal_behind cs at ls l) _ q e = none_some q e
  mode-grows (inner_bracket ls a) (open_bracket at) q e = to_mode (inner_bracket ls a) (inner_columns ls a [] column_next) q e (omega arith)
  mode-grows (inner_bracket ls a) _ q e = none_some q e
  mode-grows (inner_columns ls a cs k) t q e = gone-grows ls a cs k (column_step cs k t) q e
  mode-grows (inner_brace ls a cs) open_brace q e = grown _ (body h (inner ls a cs p n ∷ fs)) q e (omega arith)
  mode-grows (inner_brace ls a cs) _ q e = none_some q e

-- ---- paging

counted-grows : (m : ℕ) (v : Scalar) (f : ℕ → State) (q : State) → with_count v f ≡ Some q → ((s : ℕ) → m ≤ need (f s)) → m ≤ need q
counted-grows m (number s) f q e b = choose (is_count s) (Some (f (number_of s))) None (Some q) (m ≤ need q) e (λ i g. grown m (f (number_of s)) q g (b (number_of s))) (λ i g. none_some q g)
counted-grows m (string s) f q e b = none_some q e
counted-grows m (boolean c) f q e b = none_some q e

stage-grows : (h : Head) (o : Owner) (k : Clause) (g : Tail) (x : PagingStage) (t : Token) (q : State) → stage_step h o k g x t ≡ Some q → level_height (wrap_level h o k) ≤ need q
stage-grows h o k g group_by by_word q e = grown _ (paged h o k g (group_next [])) q e (omega arith)
stage-grows h o k g group_by _ q e = none_some q e
stage-grows h o k g (group_next cs) (word c) q e = grown _ (paged h o k g (group_behind cs c)) q e (omega arith)
stage-grows h o k g (group_next cs) _ q e = none_some q e
stage-grows h o k g (group_behind cs c) comma q e = grown _ (paged h o k g (group_next (cs ++ c ∷ []))) q e (omega arith)
stage-grows h o k g (group_behind cs c) t q e = from_order-grows h o k (with_group g (cs ++ c ∷ [])) t q e
stage-grows h o k g order_by by_word q e = grown _ (paged h o k g (order_next [])) q e (omega arith)
stage-grows h o k g order_by _ q e = none_some q e
stage-grows h o k g (order_next os) (word c) q e = grown _ (paged h o k g (order_behind os c)) q e (omega arith)
stage-grows h o k g (order_next os) _ q e = none_some q e
stage-grows h o k g (order_behind os c) comma q e = grown _ (paged h o k g (order_next (os ++ order c false ∷ []))) q e (omega arith)
stage-grows h o k g (order_behind os c) asc_word q e = grown _ (paged h o k g (order_directed os c false)) q e (omega arith)
stage-grows h o k g (order_behind os c) desc_word q e = grown _ (paged h o k g (order_directed os c true)) q e (omega arith)
stage-grows h o k g (order_behind os c) t q e = from_limit-grows h o k (with_order g (os ++ order c false ∷ [])) t q e
stage-grows h o k g (order_directed os c b) comma q e = grown _ (paged h o k g (order_next (os ++ order c b ∷ []))) q e (omega arith)
stage-grows h o k g (order_directed os c b) t q e = from_limit-grows h o k (with_order g (os ++ order c b ∷ [])) t q e
stage-grows h o k g limit_count (literal l) q e = counted-grows _ l.value _ q e (λ s. omega arith)
stage-grows h o k g limit_count _ q e = none_some q e
stage-grows h o k g behind_limit t q e = from_offset-grows h o k g t q e
stage-grows h o k g offset_count (literal l) q e = counted-grows _ l.value _ q e (λ s. omega arith)
stage-grows h o k g offset_count _ q e = none_some q e
stage-grows h o k g behind_offset t q e = from_end-grows h o k g t q e

-- ---- bodies

-- an operand in braces needs no less than none
nothing-mono : (h : Head) (fs : List Frame) → level_height (wrap_nothing h fs) ≤ leaf_need h fs nothing 0
nothing-mono h [] = omega arith
nothing-mono h (parens p n ∷ fs) = omega arith
nothing-mono h (implicit a p n ∷ fs) = put_wrap-mono h fs p n _ _ (omega arith)
nothing-mono h (inner ls a cs p n ∷ fs) = put_wrap-mono h fs p n _ _ (omega arith)

body-begins : (h : Head) (fs : List Frame) (t : Token) (q : State) → operand_begins h fs nothing 0 t ≡ Some q → level_height (wrap_nothing h fs) ≤ need q
body-begins h fs t q e = omega (arith, nothing-mono h fs, operand_begins-grows h fs nothing 0 t q e)

body-grows : (h : Head) (fs : List Frame) (t : Token) (q : State) → body_step h fs t ≡ Some q → level_height (wrap_nothing h fs) ≤ need q
body-grows h fs (word c) q e = body-begins h fs (word c) q e
body-grows h fs (open_bracket at) q e = body-begins h fs (open_bracket at) q e
body-grows h fs bang q e = body-begins h fs bang q e
body-grows h fs open_paren q e = body-begins h fs open_paren q e
body-grows h fs t q e = clause_ends-grows h fs no_clause t q e

-- one more operand of a group, and one more group
all-mono : (fs : List Filter) → height (join_all fs) ≤ joined fs 1
all-mono [] = omega arith
all-mono (f ∷ []) = omega arith
all-mono (f ∷ g ∷ fs) = omega arith

any-mono : (fs : List Filter) (g : Filter) → joined fs (height g) ≤ joined (fs ++ g ∷ []) 1
any-mono [] g = omega arith
any-mono (f ∷ fs) g = omega (arith, tall-append fs g)

region-height : (p : Pending) → height (region p) ≡ joined p.any (height (join_all p.all))
region-height p = join_any-height p.any (join_all p.all)

and-grows : (h : Head) (fs : List Frame) (p : Pending) → level_height (wrap h fs (region p)) ≤ leaf_need h fs p 0
and-grows h fs p = wrap-mono h fs (region p) (put p 0 (is_null (field_named some_name) true))
    (omega (arith, region-height p, put-height p 0 (is_null (field_named some_name) true), joined-mono p.any (height (join_all p.all)) (joined p.all 1) (all-mono p.all)))

or-grows : (h : Head) (fs : List Frame) (p : Pending) → level_height (wrap h fs (region p)) ≤ leaf_need h fs (record { any = p.any ++ join_all p.all ∷ []; all = [] }) 0
or-grows h fs p = wrap-mono h fs (region p) (put (record { any = p.any ++ join_all p.all ∷ []; all = [] }) 0 (is_null (field_named some_name) true))
    (omega (arith, region-height p, put-height (record { any = p.any ++ join_all p.all ∷ []; all = [] }) 0 (is_null (field_named some_name) true), any-mono p.any (join_all p.all)))

region-grows : (h : Head) (fs : List Frame) (f : Filter) (t : Token) (q : State) → region_ends h fs f t ≡ Some q → level_height (wrap h fs f) ≤ need q
region-grows h fs f close_paren q e = parens_end-grows h fs f q e
region-grows h fs f t q e = clause_ends-grows h fs (clause f) t q e

done-grows : (h : Head) (fs : List Frame) (p : Pending) (t : Token) (q : State) → done_step h fs p t ≡ Some q → level_height (wrap h fs (region p)) ≤ need q
done-grows h fs p and_word q e = grown _ (within h fs p 0 operand) q e (and-grows h fs p)
done-grows h fs p or_word q e = grown _ (within h fs _ 0 operand) q e (or-grows h fs p)
done-grows h fs p t q e = region-grows h fs (region p) t q e

-- law 4
pub step-grows : (s : State) (t : Token) (q : State) → step s t ≡ Some q → need s ≤ need q
step-grows start t q e = omega arith
step-grows (headed a) t q e = omega arith
step-grows (head_columns a cs k) t q e = omega arith
step-grows (head_brace a cs) t q e = omega arith
step-grows (body h fs) t q e = body-grows h fs t q e
step-grows (within h fs p n m) t q e = mode-grows h fs p n m t q e
step-grows (done h fs p) t q e = done-grows h fs p t q e
step-grows (paged h o k g x) t q e = stage-grows h o k g x t q e
step-grows (complete a) t q e = none_some q e
