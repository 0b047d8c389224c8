-- A machine that reads PQL token by token. Only laws and private clauses refer to it.
use Rattle.std.specs.Prelude.{ℕ, zero, suc, List, [], ◌∷◌, ◌++◌, Bool, true, false, if◌then◌else◌, Option, Some, None}
use Rattle.std.specs.List.{list_any}
use Rattle.pql_spec.specs.query_spec.Ast.{order}
use Rattle.pql_spec.specs.query_spec.declared.parts.Function.{Function}
use Rattle.pql_spec.specs.query_spec.declared.parts.Function.TheVariants.{Count as counts}
use Rattle.pql_spec.specs.query_spec.declared.parts.Literal.{Literal}
use Rattle.pql_spec.specs.query_spec.declared.parts.Name.{Name}
use Rattle.pql_spec.specs.query_spec.declared.parts.Op.{Op}
use Rattle.pql_spec.specs.query_spec.declared.parts.Op.TheVariants.{Equal as equal}
use Rattle.pql_spec.specs.query_spec.declared.parts.Order.{Order}
use Rattle.pql_spec.specs.query_spec.declared.parts.Scalar.{Scalar}
use Rattle.pql_spec.specs.query_spec.declared.parts.Scalar.TheVariants.{Text as string, Num as number}
use Rattle.pql_spec.specs.query_spec.declared.parts.Selected.{Selected}
use Rattle.pql_spec.specs.query_spec.declared.parts.Selected.TheVariants.{Column as plain, Rows as rows_counted, Function as applied}
use Rattle.pql_spec.specs.query_spec.Parts.{field_named, clashes}
use Rattle.pql_spec.specs.query_spec.Query.{Filter, compare, matches, is_null, subquery, negation, Clause, no_clause, clause, Level}
use Rattle.pql_spec.specs.query_spec.Words.{function_named}
use Rattle.pql_spec.specs.declared.token.Token.{Token}
use Rattle.pql_spec.specs.declared.token.Token.TheVariants.{Word as word, Literal as literal, OpenBracket as open_bracket, CloseBracket as close_bracket, OpenBrace as open_brace, CloseBrace as close_brace, OpenParen as open_paren, CloseParen as close_paren, Comma as comma, Bang as bang, Tilde as tilde, Comparison as comparison, Differs as differs, And as and_word, Or as or_word, In as in_word, Is as is_word, Not as not_word, Null as null_word, Group as group_word, Order as order_word, By as by_word, Asc as asc_word, Desc as desc_word, Limit as limit_word, Offset as offset_word}
use Rattle.pql_spec.specs.Grammar.{Tail, among, among_rows, level_with, pattern, is_count, number_of, join_all, join_any, empty, with_group, with_order, with_limit, with_offset}

-- the filters of the earlier groups (`any`), and the operands of the current group (`all`)
pub record Pending : Type 0 where
  pub any : List Filter
  pub all : List Filter

-- what is open around a filter: parentheses, an implicit subquery, or a level on the right of `in`. Each is an operand of what is
-- around it, with the pending filters there and a number of negations
pub data Frame : Type 0 where
  parens : Pending → ℕ → Frame
  implicit : Name → Pending → ℕ → Frame
  inner : List Name → Name → List Selected → Pending → ℕ → Frame

-- the outermost level
pub record Head : Type 0 where
  pub entity : Name
  pub columns : Option (List Selected)

-- the level whose paging is read
pub data Owner : Type 0 where
  outermost : Owner
  right_of : List Frame → List Name → Name → List Selected → Pending → ℕ → Owner

pub data PagingStage : Type 0 where
  group_by : PagingStage
  group_next : List Name → PagingStage
  group_behind : List Name → Name → PagingStage
  order_by : PagingStage
  order_next : List Order → PagingStage
  order_behind : List Order → Name → PagingStage
  order_directed : List Order → Name → Bool → PagingStage
  limit_count : PagingStage
  behind_limit : PagingStage
  offset_count : PagingStage
  behind_offset : PagingStage

-- the state within the columns of a level
pub data Column : Type 0 where
  column_next : Column
  column_behind : Name → Column
  in_function : Name → Function → Column
  in_argument : Name → Function → Name → Column
  column_closed : Name → Selected → Column

-- the state within an operand
pub data Mode : Type 0 where
  operand : Mode
  named : Name → Mode
  compare_to : Name → Op → Mode
  differ_from : Name → Mode
  match_with : Name → Mode
  null_or_not : Name → Mode
  not_null : Name → Mode
  left_next : List Name → Mode
  left_behind : List Name → Name → Mode
  in_expected : List Name → Mode
  right : List Name → Mode
  literal_next : List Name → List ℕ → List Literal → Mode
  literal_behind : List Name → List ℕ → List Literal → Literal → Mode
  inner_bracket : List Name → Name → Mode
  inner_columns : List Name → Name → List Selected → Column → Mode
  inner_brace : List Name → Name → List Selected → Mode

pub data State : Type 0 where
  start : State
  headed : Name → State
  head_columns : Name → List Selected → Column → State
  head_brace : Name → List Selected → State
  body : Head → List Frame → State
  within : Head → List Frame → Pending → ℕ → Mode → State
  done : Head → List Frame → Pending → State
  paged : Head → Owner → Clause → Tail → PagingStage → State
  complete : Level → State

abbrev pub nothing : Pending
nothing = record { any = []; all = [] }

abbrev pub negate : ℕ → Filter → Filter
negate zero f = f
negate (suc n) f = negate n (negation f)

-- adds one more operand, under n negations, to the group
abbrev pub finish : Head → List Frame → Pending → ℕ → Filter → State
finish h fs p n f = done h fs (record { any = p.any; all = p.all ++ negate n f ∷ [] })

-- the filter of a region that ends here
abbrev pub region : Pending → Filter
region p = join_any (p.any ++ join_all p.all ∷ [])

abbrev pub level_done : Head → Owner → Clause → Tail → State
level_done h outermost k g = complete (level_with h.entity h.columns k g)
level_done h (right_of fs ls e cs p n) k g = finish h fs p n (among_rows ls e (level_with e (Some cs) k g))

-- the step after each part that follows a clause
abbrev pub from_end : Head → Owner → Clause → Tail → Token → Option State
from_end h o k g close_brace = Some (level_done h o k g)
from_end h o k g _ = None

abbrev pub from_offset : Head → Owner → Clause → Tail → Token → Option State
from_offset h o k g offset_word = Some (paged h o k g offset_count)
from_offset h o k g t = from_end h o k g t

abbrev pub from_limit : Head → Owner → Clause → Tail → Token → Option State
from_limit h o k g limit_word = Some (paged h o k g limit_count)
from_limit h o k g t = from_offset h o k g t

abbrev pub from_order : Head → Owner → Clause → Tail → Token → Option State
from_order h o k g order_word = Some (paged h o k g order_by)
from_order h o k g t = from_limit h o k g t

abbrev pub is_there : Option (List Selected) → Bool
is_there None = false
is_there (Some cs) = true

abbrev pub may_group : Head → Owner → Bool
may_group h outermost = is_there h.columns
may_group h (right_of fs ls e cs p n) = true

-- the step after the clause of a level
abbrev pub level_ends : Head → Owner → Clause → Token → Option State
level_ends h o k group_word = if may_group h o then Some (paged h o k empty group_by) else None
level_ends h o k t = from_order h o k empty t

-- the step after the content of braces
abbrev pub clause_ends : Head → List Frame → Clause → Token → Option State
clause_ends h [] k t = level_ends h outermost k t
clause_ends h (parens p n ∷ fs) k t = None
clause_ends h (implicit e p n ∷ fs) k close_brace = Some (finish h fs p n (subquery e k))
clause_ends h (implicit e p n ∷ fs) k _ = None
clause_ends h (inner ls e cs p n ∷ fs) k t = level_ends h (right_of fs ls e cs p n) k t

abbrev pub parens_end : Head → List Frame → Filter → Option State
parens_end h (parens p n ∷ fs) f = Some (finish h fs p n f)
parens_end h _ f = None

abbrev pub operand_begins : Head → List Frame → Pending → ℕ → Token → Option State
operand_begins h fs p n (word c) = Some (within h fs p n (named c))
operand_begins h fs p n (open_bracket at) = Some (within h fs p n (left_next []))
operand_begins h fs p n bang = Some (within h fs p (suc n) operand)
operand_begins h fs p n open_paren = Some (within h (parens p n ∷ fs) nothing 0 operand)
operand_begins h fs p n _ = None

-- continues with a text or a count; fails for any other literal
abbrev pub with_text : Scalar → (List ℕ → State) → Option State
with_text (string s) f = Some (f s)
with_text _ f = None

abbrev pub with_count : Scalar → (ℕ → State) → Option State
with_count (number s) f = if is_count s then Some (f (number_of s)) else None
with_count _ f = None

-- the result of a token among columns: they continue or they end. A word or parenthesis is refused if an output already has the
-- name
pub data Gone : Type 0 where
  goes : List Selected → Column → Gone
  ends : List Selected → Gone

abbrev pub opens : Option Function → List Selected → Name → Option Gone
opens None cs c = None
opens (Some g) cs c = if list_any (clashes (applied g c)) cs then None else Some (goes cs (in_function c g))

abbrev pub counts_rows : Function → List Selected → Name → Option Gone
counts_rows counts cs c = Some (goes cs (column_closed c rows_counted))
counts_rows _ cs c = None

abbrev pub column_step : List Selected → Column → Token → Option Gone
column_step cs column_next (word c) = if list_any (clashes (plain c)) cs then None else Some (goes cs (column_behind c))
column_step cs column_next _ = None
column_step cs (column_behind c) comma = Some (goes (cs ++ plain c ∷ []) column_next)
column_step cs (column_behind c) close_bracket = Some (ends (cs ++ plain c ∷ []))
column_step cs (column_behind c) open_paren = opens (function_named c.text) cs c
column_step cs (column_behind c) _ = None
column_step cs (in_function c g) (word d) = Some (goes cs (in_argument c g d))
column_step cs (in_function c g) close_paren = counts_rows g cs c
column_step cs (in_function c g) _ = None
column_step cs (in_argument c g d) close_paren = Some (goes cs (column_closed c (applied g d)))
column_step cs (in_argument c g d) _ = None
column_step cs (column_closed c x) comma = Some (goes (cs ++ x ∷ []) column_next)
column_step cs (column_closed c x) close_bracket = Some (ends (cs ++ x ∷ []))
column_step cs (column_closed c x) _ = None

abbrev pub inner_goes : Head → List Frame → Pending → ℕ → List Name → Name → Option Gone → Option State
inner_goes h fs p n ls e None = None
inner_goes h fs p n ls e (Some (goes cs k)) = Some (within h fs p n (inner_columns ls e cs k))
inner_goes h fs p n ls e (Some (ends cs)) = Some (within h fs p n (inner_brace ls e cs))

abbrev pub head_goes : Name → Option Gone → Option State
head_goes e None = None
head_goes e (Some (goes cs k)) = Some (head_columns e cs k)
head_goes e (Some (ends cs)) = Some (head_brace e cs)

abbrev pub mode_step : Head → List Frame → Pending → ℕ → Mode → Token → Option State
mode_step h fs p n operand t = operand_begins h fs p n t
mode_step h fs p n (named c) (comparison op) = Some (within h fs p n (compare_to c op))
mode_step h fs p n (named c) differs = Some (within h fs p n (differ_from c))
mode_step h fs p n (named c) tilde = Some (within h fs p n (match_with c))
mode_step h fs p n (named c) is_word = Some (within h fs p n (null_or_not c))
mode_step h fs p n (named c) in_word = Some (within h fs p n (right (c ∷ [])))
mode_step h fs p n (named c) open_brace = Some (body h (implicit c p n ∷ fs))
mode_step h fs p n (named c) _ = None
mode_step h fs p n (compare_to c op) (literal l) = Some (finish h fs p n (compare op (field_named c) l))
mode_step h fs p n (compare_to c op) _ = None
mode_step h fs p n (differ_from c) (literal l) = Some (finish h fs p n (negation (compare equal (field_named c) l)))
mode_step h fs p n (differ_from c) _ = None
mode_step h fs p n (match_with c) (literal l) = with_text l.value (λ s. finish h fs p n (matches (field_named c) (pattern s l.place)))
mode_step h fs p n (match_with c) _ = None
mode_step h fs p n (null_or_not c) null_word = Some (finish h fs p n (is_null (field_named c) true))
mode_step h fs p n (null_or_not c) not_word = Some (within h fs p n (not_null c))
mode_step h fs p n (null_or_not c) _ = None
mode_step h fs p n (not_null c) null_word = Some (finish h fs p n (is_null (field_named c) false))
mode_step h fs p n (not_null c) _ = None
mode_step h fs p n (left_next cs) (word c) = Some (within h fs p n (left_behind cs c))
mode_step h fs p n (left_next cs) _ = None
mode_step h fs p n (left_behind cs c) comma = Some (within h fs p n (left_next (cs ++ c ∷ [])))
mode_step h fs p n (left_behind cs c) close_bracket = Some (within h fs p n (in_expected (cs ++ c ∷ [])))
mode_step h fs p n (left_behind cs c) _ = None
mode_step h fs p n (in_expected cs) in_word = Some (within h fs p n (right cs))
mode_step h fs p n (in_expected cs) _ = None
mode_step h fs p n (right cs) (open_bracket at) = Some (within h fs p n (literal_next cs at []))
mode_step h fs p n (right cs) (word e) = Some (within h fs p n (inner_bracket cs e))
mode_step h fs p n (right cs) _ = None
mode_step h fs p n (literal_next cs at ls) (literal l) = Some (within h fs p n (literal_behind cs at ls l))
mode_step h fs p n (literal_next cs at ls) _ = None
mode_step h fs p n (literal_behind cs at ls l) comma = Some (within h fs p n (literal_next cs at (ls ++ l ∷ [])))
mode_step h fs p n (literal_behind cs at ls l) close_bracket = Some (finish h fs p n (among cs at (ls ++ l ∷ [])))
mode_step h fs p n (literal_behind cs at ls l) _ = None
mode_step h fs p n (inner_bracket ls e) (open_bracket at) = Some (within h fs p n (inner_columns ls e [] column_next))
mode_step h fs p n (inner_bracket ls e) _ = None
mode_step h fs p n (inner_columns ls e cs k) t = inner_goes h fs p n ls e (column_step cs k t)
mode_step h fs p n (inner_brace ls e cs) open_brace = Some (body h (inner ls e cs p n ∷ fs))
mode_step h fs p n (inner_brace ls e cs) _ = None

abbrev pub stage_step : Head → Owner → Clause → Tail → PagingStage → Token → Option State
stage_step h o k g group_by by_word = Some (paged h o k g (group_next []))
stage_step h o k g group_by _ = None
stage_step h o k g (group_next cs) (word c) = Some (paged h o k g (group_behind cs c))
stage_step h o k g (group_next cs) _ = None
stage_step h o k g (group_behind cs c) comma = Some (paged h o k g (group_next (cs ++ c ∷ [])))
stage_step h o k g (group_behind cs c) t = from_order h o k (with_group g (cs ++ c ∷ [])) t
stage_step h o k g order_by by_word = Some (paged h o k g (order_next []))
stage_step h o k g order_by _ = None
stage_step h o k g (order_next os) (word c) = Some (paged h o k g (order_behind os c))
stage_step h o k g (order_next os) _ = None
stage_step h o k g (order_behind os c) comma = Some (paged h o k g (order_next (os ++ order c false ∷ [])))
stage_step h o k g (order_behind os c) asc_word = Some (paged h o k g (order_directed os c false))
stage_step h o k g (order_behind os c) desc_word = Some (paged h o k g (order_directed os c true))
stage_step h o k g (order_behind os c) t = from_limit h o k (with_order g (os ++ order c false ∷ [])) t
stage_step h o k g (order_directed os c b) comma = Some (paged h o k g (order_next (os ++ order c b ∷ [])))
stage_step h o k g (order_directed os c b) t = from_limit h o k (with_order g (os ++ order c b ∷ [])) t
stage_step h o k g limit_count (literal l) = with_count l.value (λ n. paged h o k (with_limit g n) behind_limit)
stage_step h o k g limit_count _ = None
stage_step h o k g behind_limit t = from_offset h o k g t
stage_step h o k g offset_count (literal l) = with_count l.value (λ n. paged h o k (with_offset g n) behind_offset)
stage_step h o k g offset_count _ = None
stage_step h o k g behind_offset t = from_end h o k g t

abbrev pub body_step : Head → List Frame → Token → Option State
body_step h fs (word c) = operand_begins h fs nothing 0 (word c)
body_step h fs (open_bracket at) = operand_begins h fs nothing 0 (open_bracket at)
body_step h fs bang = operand_begins h fs nothing 0 bang
body_step h fs open_paren = operand_begins h fs nothing 0 open_paren
body_step h fs t = clause_ends h fs no_clause t

-- the step after a filter that is the whole region
abbrev pub region_ends : Head → List Frame → Filter → Token → Option State
region_ends h fs f close_paren = parens_end h fs f
region_ends h fs f t = clause_ends h fs (clause f) t

abbrev pub done_step : Head → List Frame → Pending → Token → Option State
done_step h fs p and_word = Some (within h fs p 0 operand)
done_step h fs p or_word = Some (within h fs (record { any = p.any ++ join_all p.all ∷ []; all = [] }) 0 operand)
done_step h fs p t = region_ends h fs (region p) t

-- the step of a token, regardless of depth
abbrev pub step : State → Token → Option State
step start (word e) = Some (headed e)
step start _ = None
step (headed e) (open_bracket at) = Some (head_columns e [] column_next)
step (headed e) open_brace = Some (body (record { entity = e; columns = None }) [])
step (headed e) _ = None
step (head_columns e cs k) t = head_goes e (column_step cs k t)
step (head_brace e cs) open_brace = Some (body (record { entity = e; columns = Some cs }) [])
step (head_brace e cs) _ = None
step (body h fs) t = body_step h fs t
step (within h fs p n m) t = mode_step h fs p n m t
step (done h fs p) t = done_step h fs p t
step (paged h o k g x) t = stage_step h o k g x t
step (complete q) t = None

-- the query, if it may end in this state
abbrev pub ended : State → Option Level
ended (complete q) = Some q
ended _ = None

abbrev pub and_then : {A B : Type 0} → Option A → (A → Option B) → Option B
and_then None f = None
and_then (Some a) f = f a

abbrev pub read : State → List Token → Option Level
read s [] = ended s
read s (t ∷ ts) = and_then (step s t) (λ q. read q ts)
