-- The grammar of PQL as syntax trees, with one constructor for each form. A form has tokens, written before those that follow it,
-- and a meaning, which is a part of a query.
--
-- A list with commas is stored as its elements but the last, each followed by a comma, and the last element.
use Rattle.std.specs.Prelude.{◌≡◌, ◌≤◌, ℕ, List, [], ◌∷◌, ◌++◌, Bool, true, false, ◌&&◌, nat_lt, map, Option, Some, None}
use Rattle.std.specs.List.{list_any}
use Rattle.std.specs.Str.Parse.{digits_value}
use Rattle.query_spec.specs.Ast.{order}
use Rattle.query_spec.specs.declared.parts.Function.{Function}
use Rattle.query_spec.specs.declared.parts.Function.TheVariants.{Count as counts}
use Rattle.query_spec.specs.declared.parts.Literal.{Literal}
use Rattle.query_spec.specs.declared.parts.Name.{Name}
use Rattle.query_spec.specs.declared.parts.Op.{Op}
use Rattle.query_spec.specs.declared.parts.Op.TheVariants.{Equal as equal}
use Rattle.query_spec.specs.declared.parts.Order.{Order}
use Rattle.query_spec.specs.declared.parts.Paging.{Paging}
use Rattle.query_spec.specs.declared.parts.Pattern.{Pattern}
use Rattle.query_spec.specs.declared.parts.Scalar.TheVariants.{Text as string, Num as number}
use Rattle.query_spec.specs.declared.parts.Selected.{Selected}
use Rattle.query_spec.specs.declared.parts.Selected.TheVariants.{Column as plain, Rows as rows_counted, Function as applied}
use Rattle.query_spec.specs.Parts.{field_named, clashes, unpaged, are_digits}
use Rattle.query_spec.specs.Query.{Filter, compare, matches, is_null, in_list, in_level, subquery, negation, all_of, any_of, filters_of, Clause, no_clause, clause, Level, level, level_height}
use Rattle.query_spec.specs.Words.{function_named}
use Rattle.pql_spec.specs.declared.token.Token.{Token}
use Rattle.pql_spec.specs.declared.token.Token.TheVariants.{Word as word, Literal as literal, OpenBracket as open_bracket, CloseBracket as close_bracket, OpenBrace as open_brace, CloseBrace as close_brace, OpenParen as open_paren, CloseParen as close_paren, Comma as comma, Bang as bang, Tilde as tilde, Comparison as comparison, Differs as differs, And as and_word, Or as or_word, In as in_word, Is as is_word, Not as not_word, Null as null_word, Group as group_word, Order as order_word, By as by_word, Asc as asc_word, Desc as desc_word, Limit as limit_word, Offset as offset_word}
use Rattle.query_spec.specs.Limits.{most_depth}

-- ---- conditions

-- the test of a field
pub data Test : Type 0 where
  compared : Op → Literal → Test
  differing : Literal → Test
  matching : List ℕ → List ℕ → Test
  null_test : Test
  not_null_test : Test

-- a text literal with its place
abbrev pub text_literal : List ℕ → List ℕ → Literal
text_literal s p = record { value = string s; place = p }

abbrev pub pattern : List ℕ → List ℕ → Pattern
pattern s p = record { text = s; place = p }

abbrev pub test_text : Test → List Token → List Token
test_text (compared op l) r = comparison op ∷ literal l ∷ r
test_text (differing l) r = differs ∷ literal l ∷ r
test_text (matching s p) r = tilde ∷ literal (text_literal s p) ∷ r
test_text null_test r = is_word ∷ null_word ∷ r
test_text not_null_test r = is_word ∷ not_word ∷ null_word ∷ r

abbrev pub test_value : Name → Test → Filter
test_value c (compared op l) = compare op (field_named c) l
test_value c (differing l) = negation (compare equal (field_named c) l)
test_value c (matching s p) = matches (field_named c) (pattern s p)
test_value c null_test = is_null (field_named c) true
test_value c not_null_test = is_null (field_named c) false

-- the names, each followed by a comma
abbrev pub names_text : List Name → List Token → List Token
names_text [] r = r
names_text (c ∷ cs) r = word c ∷ comma ∷ names_text cs r

abbrev pub literals_text : List Literal → List Token → List Token
literals_text [] r = r
literals_text (l ∷ ls) r = literal l ∷ comma ∷ literals_text ls r

-- the left side of `in`: a column, or columns in brackets
pub data Left : Type 0 where
  one : Name → Left
  several : List ℕ → List Name → Name → Left

abbrev pub left_text : Left → List Token → List Token
left_text (one c) r = word c ∷ r
left_text (several p cs c) r = open_bracket p ∷ names_text cs (word c ∷ close_bracket ∷ r)

abbrev pub left_columns : Left → List Name
left_columns (one c) = c ∷ []
left_columns (several p cs c) = cs ++ c ∷ []

-- the filters of `in`. The right side is a list with the place of its bracket, or a level with the place of its entity
abbrev pub among : List Name → List ℕ → List Literal → Filter
among cs p ls = in_list (map field_named cs) p ls

abbrev pub among_rows : List Name → Name → Level → Filter
among_rows cs e q = in_level (map field_named cs) e.place q

-- ---- counts: numbers of digits only, below 2^63

abbrev pub number_of : List ℕ → ℕ
number_of s = digits_value 10 s

unfoldable pub is_count : List ℕ → Bool
is_count s = are_digits s && nat_lt (number_of s) 9223372036854775808

abbrev pub number_literal : List ℕ → List ℕ → Literal
number_literal s p = record { value = number s; place = p }

-- `limit` or `offset` with a count and its place
pub data Count : Type 0 where
  no_count : Count
  count : List ℕ → List ℕ → Count

abbrev pub count_text : Token → Count → List Token → List Token
count_text t no_count r = r
count_text t (count s p) r = t ∷ literal (number_literal s p) ∷ r

abbrev pub IsCount : Count → Type 0
IsCount no_count = Unit {0}
IsCount (count s p) = is_count s ≡ true

-- ---- what is shown

-- one output: a column, `count()`, or a function of a column
pub data Item : Type 0 where
  column : Name → Item
  row_count : Name → Item
  function : Name → Function → Name → Item

abbrev pub item_text : Item → List Token → List Token
item_text (column c) r = word c ∷ r
item_text (row_count f) r = word f ∷ open_paren ∷ close_paren ∷ r
item_text (function f g c) r = word f ∷ open_paren ∷ word c ∷ close_paren ∷ r

abbrev pub item_value : Item → Selected
item_value (column c) = plain c
item_value (row_count f) = rows_counted
item_value (function f g c) = applied g c

abbrev pub IsItem : Item → Type 0
IsItem (column c) = Unit {0}
IsItem (row_count f) = function_named f.text ≡ Some counts
IsItem (function f g c) = function_named f.text ≡ Some g

abbrev pub items_text : List Item → List Token → List Token
items_text [] r = r
items_text (x ∷ xs) r = item_text x (comma ∷ items_text xs r)

abbrev pub item_values : List Item → List Selected
item_values [] = []
item_values (x ∷ xs) = item_value x ∷ item_values xs

-- no earlier output has this name, unless both are columns; a column that occurs twice counts once
abbrev pub IsFresh : List Selected → Selected → Type 0
IsFresh earlier s = list_any (clashes s) earlier ≡ false

abbrev pub IsNext : List Selected → Item → Type 0
IsNext earlier x = IsItem x × IsFresh earlier (item_value x)

abbrev pub AreItems : List Selected → List Item → Type 0
AreItems earlier [] = Unit {0}
AreItems earlier (x ∷ xs) = IsNext earlier x × AreItems (earlier ++ item_value x ∷ []) xs

-- the columns of a level, in brackets
pub data Columns : Type 0 where
  no_columns : Columns
  columns : List ℕ → List Item → Item → Columns

abbrev pub columns_text : Columns → List Token → List Token
columns_text no_columns r = r
columns_text (columns p xs x) r = open_bracket p ∷ items_text xs (item_text x (close_bracket ∷ r))

abbrev pub columns_value : Columns → Option (List Selected)
columns_value no_columns = None
columns_value (columns p xs x) = Some (item_values xs ++ item_value x ∷ [])

abbrev pub AreColumns : Columns → Type 0
AreColumns no_columns = Unit {0}
AreColumns (columns p xs x) = AreItems [] xs × IsNext (item_values xs) x

-- `group by` and its columns
pub data Group : Type 0 where
  no_group : Group
  group_by : List Name → Name → Group

abbrev pub group_text : Group → List Token → List Token
group_text no_group r = r
group_text (group_by cs c) r = group_word ∷ by_word ∷ names_text cs (word c ∷ r)

-- only a level with columns may have groups
abbrev pub MayGroup : Bool → Group → Type 0
MayGroup b no_group = Unit {0}
MayGroup true (group_by cs c) = Unit {0}
MayGroup false (group_by cs c) = ⊥

-- the direction of a column after `order by`
pub data Direction : Type 0 where
  unsaid : Direction
  said : Bool → Direction

abbrev pub direction_word : Bool → Token
direction_word true = desc_word
direction_word false = asc_word

abbrev pub direction_text : Direction → List Token → List Token
direction_text unsaid r = r
direction_text (said b) r = direction_word b ∷ r

abbrev pub descends : Direction → Bool
descends unsaid = false
descends (said b) = b

pub data Ordered : Type 0 where
  ordered : Name → Direction → Ordered

abbrev pub ordered_text : Ordered → List Token → List Token
ordered_text (ordered c d) r = word c ∷ direction_text d r

abbrev pub ordered_value : Ordered → Order
ordered_value (ordered c d) = order c (descends d)

abbrev pub orders_text : List Ordered → List Token → List Token
orders_text [] r = r
orders_text (o ∷ os) r = ordered_text o (comma ∷ orders_text os r)

abbrev pub order_values : List Ordered → List Order
order_values [] = []
order_values (o ∷ os) = ordered_value o ∷ order_values os

pub data OrderPart : Type 0 where
  no_order : OrderPart
  order_by : List Ordered → Ordered → OrderPart

abbrev pub order_text : OrderPart → List Token → List Token
order_text no_order r = r
order_text (order_by os o) r = order_word ∷ by_word ∷ orders_text os (ordered_text o r)

-- everything after the filter
pub record Page : Type 0 where
  pub group : Group
  pub order : OrderPart
  pub limit : Count
  pub offset : Count

abbrev pub page_text : Page → List Token → List Token
page_text g r = group_text g.group (order_text g.order (count_text limit_word g.limit (count_text offset_word g.offset r)))

-- the groups and the paging that these parts give, in their order
pub record Tail : Type 0 where
  pub group : List Name
  pub paging : Paging

abbrev pub empty : Tail
empty = record { group = []; paging = unpaged }

abbrev pub with_group : Tail → List Name → Tail
with_group g cs = record { group = cs; paging = g.paging }

abbrev pub with_order : Tail → List Order → Tail
with_order g os = record { group = g.group; paging = record g.paging { order = os } }

abbrev pub with_limit : Tail → ℕ → Tail
with_limit g n = record { group = g.group; paging = record g.paging { limit = Some n } }

abbrev pub with_offset : Tail → ℕ → Tail
with_offset g n = record { group = g.group; paging = record g.paging { offset = Some n } }

abbrev pub level_with : Name → Option (List Selected) → Clause → Tail → Level
level_with e cs k g = level e cs k g.group g.paging

abbrev pub add_group : Tail → Group → Tail
add_group g no_group = g
add_group g (group_by cs c) = with_group g (cs ++ c ∷ [])

abbrev pub add_order : Tail → OrderPart → Tail
add_order g no_order = g
add_order g (order_by os o) = with_order g (order_values os ++ ordered_value o ∷ [])

abbrev pub add_limit : Tail → Count → Tail
add_limit g no_count = g
add_limit g (count s p) = with_limit g (number_of s)

abbrev pub add_offset : Tail → Count → Tail
add_offset g no_count = g
add_offset g (count s p) = with_offset g (number_of s)

abbrev pub page_value : Page → Tail
page_value g = add_offset (add_limit (add_order (add_group empty g.group) g.order) g.limit) g.offset

abbrev pub IsPage : Bool → Page → Type 0
IsPage b g = MayGroup b g.group × IsCount g.limit × IsCount g.offset

-- the conjunction and the disjunction of filters; a single filter is itself
abbrev pub join_all : List Filter → Filter
join_all [] = all_of (filters_of [])
join_all (f ∷ []) = f
join_all (f ∷ g ∷ fs) = all_of (filters_of (f ∷ g ∷ fs))

abbrev pub join_any : List Filter → Filter
join_any [] = any_of (filters_of [])
join_any (f ∷ []) = f
join_any (f ∷ g ∷ fs) = any_of (filters_of (f ∷ g ∷ fs))

mutual
  pub data Operand : Type 0 where
    test : Name → Test → Operand
    -- `in` and literals in brackets
    listed : Left → List ℕ → List Literal → Literal → Operand
    -- `in`, an entity, its columns, and the content of its braces
    selected : Left → Name → List ℕ → List Item → Item → Body → Page → Operand
    implicit : Name → Body → Operand
    negated : Operand → Operand
    parens : Operand → Ands → Ors → Operand

  -- operands, each after `and`
  pub data Ands : Type 0 where
    no_and : Ands
    and_then : Operand → Ands → Ands

  -- groups, each after `or`
  pub data Ors : Type 0 where
    no_or : Ors
    or_then : Operand → Ands → Ors → Ors

  -- the filter in braces, or none
  pub data Body : Type 0 where
    no_body : Body
    body : Operand → Ands → Ors → Body

abbrev mutual
  pub operand_text : Operand → List Token → List Token
  operand_text (test c t) r = word c ∷ test_text t r
  operand_text (listed l p ls m) r = left_text l (in_word ∷ open_bracket p ∷ literals_text ls (literal m ∷ close_bracket ∷ r))
  operand_text (selected l e p xs x b g) r =
      left_text l (in_word ∷ word e ∷ open_bracket p ∷ items_text xs (item_text x (close_bracket ∷ open_brace ∷ body_text b (page_text g (close_brace ∷ r)))))
  operand_text (implicit e b) r = word e ∷ open_brace ∷ body_text b (close_brace ∷ r)
  operand_text (negated o) r = bang ∷ operand_text o r
  operand_text (parens o t u) r = open_paren ∷ operand_text o (ands_text t (ors_text u (close_paren ∷ r)))

  pub ands_text : Ands → List Token → List Token
  ands_text no_and r = r
  ands_text (and_then o t) r = and_word ∷ operand_text o (ands_text t r)

  pub ors_text : Ors → List Token → List Token
  ors_text no_or r = r
  ors_text (or_then o t u) r = or_word ∷ operand_text o (ands_text t (ors_text u r))

  pub body_text : Body → List Token → List Token
  body_text no_body r = r
  body_text (body o t u) r = operand_text o (ands_text t (ors_text u r))

abbrev mutual
  pub operand_value : Operand → Filter
  operand_value (test c t) = test_value c t
  operand_value (listed l p ls m) = among (left_columns l) p (ls ++ m ∷ [])
  operand_value (selected l e p xs x b g) = among_rows (left_columns l) e (level_with e (Some (item_values xs ++ item_value x ∷ [])) (body_value b) (page_value g))
  operand_value (implicit e b) = subquery e (body_value b)
  operand_value (negated o) = negation (operand_value o)
  operand_value (parens o t u) = join_any (join_all (operand_value o ∷ and_values t) ∷ or_values u)

  pub and_values : Ands → List Filter
  and_values no_and = []
  and_values (and_then o t) = operand_value o ∷ and_values t

  pub or_values : Ors → List Filter
  or_values no_or = []
  or_values (or_then o t u) = join_all (operand_value o ∷ and_values t) ∷ or_values u

  pub body_value : Body → Clause
  body_value no_body = no_clause
  body_value (body o t u) = clause (join_any (join_all (operand_value o ∷ and_values t) ∷ or_values u))

abbrev mutual
  pub IsOperand : Operand → Type 0
  IsOperand (test c t) = Unit {0}
  IsOperand (listed l p ls m) = Unit {0}
  IsOperand (selected l e p xs x b g) = IsBody b × IsPage true g × AreItems [] xs × IsNext (item_values xs) x
  IsOperand (implicit e b) = IsBody b
  IsOperand (negated o) = IsOperand o
  IsOperand (parens o t u) = IsOperand o × AreAnds t × AreOrs u

  pub AreAnds : Ands → Type 0
  AreAnds no_and = Unit {0}
  AreAnds (and_then o t) = IsOperand o × AreAnds t

  pub AreOrs : Ors → Type 0
  AreOrs no_or = Unit {0}
  AreOrs (or_then o t u) = IsOperand o × AreAnds t × AreOrs u

  pub IsBody : Body → Type 0
  IsBody no_body = Unit {0}
  IsBody (body o t u) = IsOperand o × AreAnds t × AreOrs u

abbrev pub has_columns : Columns → Bool
has_columns no_columns = false
has_columns (columns p xs x) = true

-- a whole query
pub record Tree : Type 0 where
  pub entity : Name
  pub columns : Columns
  pub body : Body
  pub page : Page

abbrev pub text : Tree → List Token
text t = word t.entity ∷ columns_text t.columns (open_brace ∷ body_text t.body (page_text t.page (close_brace ∷ [])))

abbrev pub value : Tree → Level
value t = level_with t.entity (columns_value t.columns) (body_value t.body) (page_value t.page)

abbrev pub IsTree : Tree → Type 0
IsTree t = IsBody t.body × IsPage (has_columns t.columns) t.page × AreColumns t.columns

-- ---- the relation between tokens and the query that they spell

-- the tokens spell the query, whose filters nest at most n levels
pub record SpellsWithin (n : ℕ) (tokens : List Token) (q : Level) : Type 0 where
  pub tree : Tree
  pub is_tree : IsTree tree
  pub tokens_are : tokens ≡ text tree
  pub query_is : q ≡ value tree
  pub depth : level_height q ≤ n

abbrev pub PqlSpells : List Token → Level → Type 0
PqlSpells = SpellsWithin most_depth
