-- The grammar of the AST as syntax trees, with one constructor for each form. A form has a JSON value. At a place it has a
-- meaning: a part of a query, in which each name and operand has a place.
--
-- In the comments C is a column's name and E an entity's; [x, ..] has at least one element; x? is x or nothing.
use Rattle.std.specs.Prelude.{◌≡◌, ◌<◌, ◌≤◌, ℕ, suc, ◌+◌, List, [], ◌∷◌, ◌++◌, Bool, true, false, ◌&&◌, ◌||◌, Option, Some, None, map, codes, IsTrue, if◌then◌else◌}
use Rattle.std.specs.List.{list_any, AllByRecursion}
use Rattle.std.specs.Str.{bytes_eq}
use Rattle.std.specs.Str.Parse.{digits_value}
use Rattle.json_machine.specs.text_spec.Json as json
use Rattle.json_machine.specs.text_spec.Json.{Json, Items, no_items, item}
use Rattle.query_spec.specs.declared.parts.Field.{Field}
use Rattle.query_spec.specs.declared.parts.Field.TheVariants as field
use Rattle.query_spec.specs.declared.parts.Function.{Function}
use Rattle.query_spec.specs.declared.parts.Literal.{Literal}
use Rattle.query_spec.specs.declared.parts.Name.{Name}
use Rattle.query_spec.specs.declared.parts.Op.{Op}
use Rattle.query_spec.specs.declared.parts.Op.TheVariants.{Equal, Less, AtMost, More, AtLeast}
use Rattle.query_spec.specs.declared.parts.Order.{Order}
use Rattle.query_spec.specs.declared.parts.Paging.{Paging}
use Rattle.query_spec.specs.declared.parts.Scalar.{Scalar}
use Rattle.query_spec.specs.declared.parts.Scalar.TheVariants as scalar
use Rattle.query_spec.specs.declared.parts.Selected.{Selected}
use Rattle.query_spec.specs.declared.parts.Selected.TheVariants as selected
use Rattle.query_spec.specs.Ast.{Extract, extracted, order}
use Rattle.query_spec.specs.Parts.{name, field_named, unpaged, are_digits}
use Rattle.query_spec.specs.Query.{Filter, compare, matches, is_null, in_list, in_level, subquery, negation, all_of, any_of, filters_of, Clause, no_clause, clause, Level, level, level_height}
use Rattle.query_spec.specs.Words.{function_name}
use Rattle.query_spec.specs.Limits.{most_depth}

-- a list with this head word
abbrev pub headed : List ℕ → Items → Json
headed h vs = json.array (item (json.string h) vs)

-- ---- columns and fields

-- C, or [C, ..]
pub data Columns : Type 0 where
  one : List ℕ → Columns
  listed : List ℕ → List (List ℕ) → Columns

abbrev pub texts_value : List (List ℕ) → Items
texts_value [] = no_items
texts_value (s ∷ ss) = item (json.string s) (texts_value ss)

abbrev pub columns_value : Columns → Json
columns_value (one s) = json.string s
columns_value (listed s ss) = json.array (item (json.string s) (texts_value ss))

-- the names with their places; the first is element i of the value at p
abbrev pub names_from : List ℕ → ℕ → List (List ℕ) → List Name
names_from p i [] = []
names_from p i (s ∷ ss) = name s (p ++ i ∷ []) ∷ names_from p (i + 1) ss

abbrev pub columns_meaning : List ℕ → Columns → List Name
columns_meaning p (one s) = name s p ∷ []
columns_meaning p (listed s ss) = names_from p 0 (s ∷ ss)

-- C, `tag` or `node_state`; ["parameter", name]; ["fact", name]
pub data FieldForm : Type 0 where
  named : List ℕ → FieldForm
  parameter : List ℕ → FieldForm
  fact : List ℕ → FieldForm

abbrev pub field_value : FieldForm → Json
field_value (named s) = json.string s
field_value (parameter s) = headed (codes "parameter") (item (json.string s) no_items)
field_value (fact s) = headed (codes "fact") (item (json.string s) no_items)

abbrev pub field_meaning : List ℕ → FieldForm → Field
field_meaning p (named s) = field_named (name s p)
field_meaning p (parameter s) = field.Parameter (name s (p ++ 1 ∷ []))
field_meaning p (fact s) = field.Fact (name s (p ++ 1 ∷ []))

-- ---- literals: a text, a number or a boolean

abbrev pub literal_value : Scalar → Json
literal_value (scalar.Text s) = json.string s
literal_value (scalar.Num s) = json.number s
literal_value (scalar.Bool b) = json.boolean b

abbrev pub literals_value : List Scalar → Items
literals_value [] = no_items
literals_value (l ∷ ls) = item (literal_value l) (literals_value ls)

abbrev pub literal : List ℕ → Scalar → Literal
literal p l = record { value = l; place = p }

abbrev pub literals_from : List ℕ → ℕ → List Scalar → List Literal
literals_from p i [] = []
literals_from p i (l ∷ ls) = literal (p ++ i ∷ []) l ∷ literals_from p (i + 1) ls

-- ---- what is shown

-- C; ["function", "count"]; or ["function", f, C]
pub data ShownForm : Type 0 where
  column : List ℕ → ShownForm
  rows : ShownForm
  applied : Function → List ℕ → ShownForm

-- C, or a list of columns and functions with at least one element
pub data SelectionForm : Type 0 where
  single : List ℕ → SelectionForm
  several : ShownForm → List ShownForm → SelectionForm

abbrev pub shown_value : ShownForm → Json
shown_value (column s) = json.string s
shown_value rows = headed (codes "function") (item (json.string (codes "count")) no_items)
shown_value (applied f s) = headed (codes "function") (item (json.string (function_name f)) (item (json.string s) no_items))

abbrev pub shown_values : List ShownForm → Items
shown_values [] = no_items
shown_values (s ∷ ss) = item (shown_value s) (shown_values ss)

abbrev pub selection_value : SelectionForm → Json
selection_value (single s) = json.string s
selection_value (several s ss) = json.array (item (shown_value s) (shown_values ss))

abbrev pub shown_meaning : List ℕ → ShownForm → Selected
shown_meaning p (column s) = selected.Column (name s p)
shown_meaning p rows = selected.Rows
shown_meaning p (applied f s) = selected.Function f (name s (p ++ 2 ∷ []))

abbrev pub shown_from : List ℕ → ℕ → List ShownForm → List Selected
shown_from p i [] = []
shown_from p i (s ∷ ss) = shown_meaning (p ++ i ∷ []) s ∷ shown_from p (i + 1) ss

abbrev pub selection_meaning : List ℕ → SelectionForm → List Selected
selection_meaning p (single s) = selected.Column (name s p) ∷ []
selection_meaning p (several s ss) = shown_from p 0 (s ∷ ss)

-- the output's name, from its column or its function
abbrev pub output : ShownForm → List ℕ
output (column s) = s
output rows = codes "count"
output (applied f s) = function_name f

abbrev pub is_applied : ShownForm → Bool
is_applied (column s) = false
is_applied _ = true

-- two outputs with the same name, at least one of them a function
abbrev pub collide : ShownForm → ShownForm → Bool
collide s t = bytes_eq (output s) (output t) && (is_applied s || is_applied t)

-- no output collides with an earlier one
abbrev pub AreApart : List ShownForm → List ShownForm → Type 0
AreApart earlier [] = Unit {0}
AreApart earlier (s ∷ ss) = (list_any (collide s) earlier ≡ false) × AreApart (earlier ++ s ∷ []) ss

abbrev pub IsSelection : SelectionForm → Type 0
IsSelection (single s) = Unit {0}
IsSelection (several s ss) = AreApart [] (s ∷ ss)

-- nothing, or ["group_by", C, ..]
pub data GroupForm : Type 0 where
  ungrouped : GroupForm
  grouped : List ℕ → List (List ℕ) → GroupForm

abbrev pub group_value : GroupForm → Items
group_value ungrouped = no_items
group_value (grouped s ss) = item (headed (codes "group_by") (item (json.string s) (texts_value ss))) no_items

abbrev pub group_meaning : List ℕ → GroupForm → List Name
group_meaning p ungrouped = []
group_meaning p (grouped s ss) = names_from p 1 (s ∷ ss)

-- ---- paging

-- C; [C, "asc"] or [C, "desc"]
pub data OrderForm : Type 0 where
  ascending : List ℕ → OrderForm
  directed : List ℕ → Bool → OrderForm

-- ["limit", n]; ["offset", n]; ["order_by", [o, ..]]
pub data PartForm : Type 0 where
  limit : List ℕ → PartForm
  offset : List ℕ → PartForm
  order_by : OrderForm → List OrderForm → PartForm

abbrev pub direction : Bool → List ℕ
direction descends = if descends then codes "desc" else codes "asc"

abbrev pub order_value : OrderForm → Json
order_value (ascending s) = json.string s
order_value (directed s b) = json.array (item (json.string s) (item (json.string (direction b)) no_items))

abbrev pub orders_value : List OrderForm → Items
orders_value [] = no_items
orders_value (o ∷ os) = item (order_value o) (orders_value os)

abbrev pub part_value : PartForm → Json
part_value (limit n) = headed (codes "limit") (item (json.number n) no_items)
part_value (offset n) = headed (codes "offset") (item (json.number n) no_items)
part_value (order_by o os) = headed (codes "order_by") (item (json.array (item (order_value o) (orders_value os))) no_items)

abbrev pub parts_value : List PartForm → Items
parts_value [] = no_items
parts_value (g ∷ gs) = item (part_value g) (parts_value gs)

abbrev pub order_meaning : List ℕ → OrderForm → Order
order_meaning p (ascending s) = order (name s p) false
order_meaning p (directed s b) = order (name s (p ++ 0 ∷ [])) b

abbrev pub orders_from : List ℕ → ℕ → List OrderForm → List Order
orders_from p i [] = []
orders_from p i (o ∷ os) = order_meaning (p ++ i ∷ []) o ∷ orders_from p (i + 1) os

-- the orders, the offset and the limit of the parts; the first part has the number i
abbrev pub order_of : List ℕ → ℕ → List PartForm → List Order
order_of p i [] = []
order_of p i (limit n ∷ gs) = order_of p (i + 1) gs
order_of p i (offset n ∷ gs) = order_of p (i + 1) gs
order_of p i (order_by o os ∷ gs) = orders_from ((p ++ i ∷ []) ++ 1 ∷ []) 0 (o ∷ os)

abbrev pub offset_of : List PartForm → Option ℕ
offset_of [] = None
offset_of (limit n ∷ gs) = offset_of gs
offset_of (offset n ∷ gs) = Some (digits_value 10 n)
offset_of (order_by o os ∷ gs) = offset_of gs

abbrev pub limit_of : List PartForm → Option ℕ
limit_of [] = None
limit_of (limit n ∷ gs) = Some (digits_value 10 n)
limit_of (offset n ∷ gs) = limit_of gs
limit_of (order_by o os ∷ gs) = limit_of gs

abbrev pub paging_from : List ℕ → ℕ → List PartForm → Paging
paging_from p i gs = record { order = order_of p i gs; offset = offset_of gs; limit = limit_of gs; include_total = false }

-- the number of parts of each kind
abbrev pub limits : List PartForm → ℕ
limits [] = 0
limits (limit n ∷ gs) = suc (limits gs)
limits (offset n ∷ gs) = limits gs
limits (order_by o os ∷ gs) = limits gs

abbrev pub offsets : List PartForm → ℕ
offsets [] = 0
offsets (limit n ∷ gs) = offsets gs
offsets (offset n ∷ gs) = suc (offsets gs)
offsets (order_by o os ∷ gs) = offsets gs

abbrev pub order_lists : List PartForm → ℕ
order_lists [] = 0
order_lists (limit n ∷ gs) = order_lists gs
order_lists (offset n ∷ gs) = order_lists gs
order_lists (order_by o os ∷ gs) = suc (order_lists gs)

-- only digits, and below 2^63
abbrev pub IsCount : List ℕ → Type 0
IsCount n = IsTrue (are_digits n) × (digits_value 10 n < 9223372036854775808)

abbrev pub IsPart : PartForm → Type 0
IsPart (limit n) = IsCount n
IsPart (offset n) = IsCount n
IsPart (order_by o os) = Unit {0}

-- each kind at most once, in any order
pub record IsPaging (gs : List PartForm) : Type 0 where
  pub parts : AllByRecursion IsPart gs
  pub one_limit : limits gs ≤ 1
  pub one_offset : offsets gs ≤ 1
  pub one_order : order_lists gs ≤ 1

-- ---- filters, and the selections within them

abbrev pub op_word : Op → List ℕ
op_word Equal = codes "="
op_word Less = codes "<"
op_word AtMost = codes "<="
op_word More = codes ">"
op_word AtLeast = codes ">="

mutual
  -- ["and", f, ..]; ["or", f, ..]; ["not", f]; [op, field, literal]; ["~", field, text]; ["null?", field, bool];
  -- ["in", cols, inner] with an inner of three forms: ["array", [literal, ..]]; ["extract", cols, ["select_E", f?]];
  -- ["from", E, extract, part, ..] with any number of parts; and ["subquery", E, f?]
  pub data FilterForm : Type 0 where
    conjunction : FilterForm → FilterForms → FilterForm
    disjunction : FilterForm → FilterForms → FilterForm
    negated : FilterForm → FilterForm
    comparison : Op → FieldForm → Scalar → FilterForm
    pattern_test : FieldForm → List ℕ → FilterForm
    null_test : FieldForm → Bool → FilterForm
    in_array : Columns → Scalar → List Scalar → FilterForm
    in_select : Columns → Columns → List ℕ → WhereForm → FilterForm
    in_query : Columns → List ℕ → ExtractForm → List PartForm → FilterForm
    subquery_of : List ℕ → WhereForm → FilterForm

  pub data FilterForms : Type 0 where
    last : FilterForms
    next : FilterForm → FilterForms → FilterForms

  -- f?
  pub data WhereForm : Type 0 where
    anywhere : WhereForm
    such_that : FilterForm → WhereForm

  -- ["extract", cols, f?, group?]
  pub data ExtractForm : Type 0 where
    extracting : SelectionForm → WhereForm → GroupForm → ExtractForm

abbrev mutual
  pub filter_value : FilterForm → Json
  filter_value (conjunction f fs) = headed (codes "and") (item (filter_value f) (filters_value fs))
  filter_value (disjunction f fs) = headed (codes "or") (item (filter_value f) (filters_value fs))
  filter_value (negated f) = headed (codes "not") (item (filter_value f) no_items)
  filter_value (comparison o f l) = headed (op_word o) (item (field_value f) (item (literal_value l) no_items))
  filter_value (pattern_test f s) = headed (codes "~") (item (field_value f) (item (json.string s) no_items))
  filter_value (null_test f b) = headed (codes "null?") (item (field_value f) (item (json.boolean b) no_items))
  filter_value (in_array c l ls) =
      headed (codes "in") (item (columns_value c) (item
      (headed (codes "array") (item (json.array (item (literal_value l) (literals_value ls))) no_items)) no_items))
  filter_value (in_select c s e w) =
      headed (codes "in") (item (columns_value c) (item
      (headed (codes "extract") (item (columns_value s) (item (headed (codes "select_" ++ e) (where_value w no_items)) no_items)))
      no_items))
  filter_value (in_query c e x gs) =
      headed (codes "in") (item (columns_value c) (item
      (headed (codes "from") (item (json.string e) (item (extract_value x) (parts_value gs)))) no_items))
  filter_value (subquery_of e w) = headed (codes "subquery") (item (json.string e) (where_value w no_items))

  pub filters_value : FilterForms → Items
  filters_value last = no_items
  filters_value (next f fs) = item (filter_value f) (filters_value fs)

  -- the value's elements, followed by more
  pub where_value : WhereForm → Items → Items
  where_value anywhere vs = vs
  where_value (such_that f) vs = item (filter_value f) vs

  pub extract_value : ExtractForm → Json
  extract_value (extracting s w g) = headed (codes "extract") (item (selection_value s) (where_value w (group_value g)))

-- the number of elements of an optional filter
abbrev pub where_count : WhereForm → ℕ
where_count anywhere = 0
where_count (such_that f) = 1

abbrev mutual
  pub filter_meaning : List ℕ → FilterForm → Filter
  filter_meaning p (conjunction f fs) = all_of (filters_of (filter_meaning (p ++ 1 ∷ []) f ∷ filters_from p 2 fs))
  filter_meaning p (disjunction f fs) = any_of (filters_of (filter_meaning (p ++ 1 ∷ []) f ∷ filters_from p 2 fs))
  filter_meaning p (negated f) = negation (filter_meaning (p ++ 1 ∷ []) f)
  filter_meaning p (comparison o f l) = compare o (field_meaning (p ++ 1 ∷ []) f) (literal (p ++ 2 ∷ []) l)
  filter_meaning p (pattern_test f s) = matches (field_meaning (p ++ 1 ∷ []) f) (record { text = s; place = p ++ 2 ∷ [] })
  filter_meaning p (null_test f b) = is_null (field_meaning (p ++ 1 ∷ []) f) b
  filter_meaning p (in_array c l ls) =
      in_list (map field_named (columns_meaning (p ++ 1 ∷ []) c)) (p ++ 2 ∷ [])
      (literals_from ((p ++ 2 ∷ []) ++ 1 ∷ []) 0 (l ∷ ls))
  filter_meaning p (in_select c s e w) =
      in_level (map field_named (columns_meaning (p ++ 1 ∷ []) c)) (p ++ 2 ∷ [])
      (level (name e (((p ++ 2 ∷ []) ++ 2 ∷ []) ++ 0 ∷ []))
      (Some (map selected.Column (columns_meaning ((p ++ 2 ∷ []) ++ 1 ∷ []) s)))
      (where_meaning (((p ++ 2 ∷ []) ++ 2 ∷ []) ++ 1 ∷ []) w) [] unpaged)
  filter_meaning p (in_query c e x gs) =
      in_level (map field_named (columns_meaning (p ++ 1 ∷ []) c)) (p ++ 2 ∷ [])
      (extracted (name e ((p ++ 2 ∷ []) ++ 1 ∷ [])) (extract_meaning ((p ++ 2 ∷ []) ++ 2 ∷ []) x) (paging_from (p ++ 2 ∷ []) 3 gs))
  filter_meaning p (subquery_of e w) = subquery (name e (p ++ 1 ∷ [])) (where_meaning (p ++ 2 ∷ []) w)

  pub filters_from : List ℕ → ℕ → FilterForms → List Filter
  filters_from p i last = []
  filters_from p i (next f fs) = filter_meaning (p ++ i ∷ []) f ∷ filters_from p (i + 1) fs

  pub where_meaning : List ℕ → WhereForm → Clause
  where_meaning p anywhere = no_clause
  where_meaning p (such_that f) = clause (filter_meaning p f)

  pub extract_meaning : List ℕ → ExtractForm → Extract
  extract_meaning p (extracting s w g) = record {
    shown = selection_meaning (p ++ 1 ∷ []) s;
    where_clause = where_meaning (p ++ 2 ∷ []) w;
    group = group_meaning (p ++ (2 + where_count w) ∷ []) g;
  }

-- all parts meet their conditions
abbrev mutual
  pub IsFilterForm : FilterForm → Type 0
  IsFilterForm (conjunction f fs) = IsFilterForm f × AreFilterForms fs
  IsFilterForm (disjunction f fs) = IsFilterForm f × AreFilterForms fs
  IsFilterForm (negated f) = IsFilterForm f
  IsFilterForm (comparison o f l) = Unit {0}
  IsFilterForm (pattern_test f s) = Unit {0}
  IsFilterForm (null_test f b) = Unit {0}
  IsFilterForm (in_array c l ls) = Unit {0}
  IsFilterForm (in_select c s e w) = IsWhereForm w
  IsFilterForm (in_query c e x gs) = IsExtractForm x × IsPaging gs
  IsFilterForm (subquery_of e w) = IsWhereForm w

  pub AreFilterForms : FilterForms → Type 0
  AreFilterForms last = Unit {0}
  AreFilterForms (next f fs) = IsFilterForm f × AreFilterForms fs

  pub IsWhereForm : WhereForm → Type 0
  IsWhereForm anywhere = Unit {0}
  IsWhereForm (such_that f) = IsFilterForm f

  pub IsExtractForm : ExtractForm → Type 0
  IsExtractForm (extracting s w g) = IsSelection s × IsWhereForm w

-- ---- whole queries

-- ["from", E, part, ..]; ["from", E, f, part, ..]; ["from", E, extract, part, ..], each with any number of parts
pub data QueryForm : Type 0 where
  from_all : List ℕ → List PartForm → QueryForm
  from_filter : List ℕ → FilterForm → List PartForm → QueryForm
  from_extract : List ℕ → ExtractForm → List PartForm → QueryForm

abbrev pub query_value : QueryForm → Json
query_value (from_all e gs) = headed (codes "from") (item (json.string e) (parts_value gs))
query_value (from_filter e f gs) = headed (codes "from") (item (json.string e) (item (filter_value f) (parts_value gs)))
query_value (from_extract e x gs) = headed (codes "from") (item (json.string e) (item (extract_value x) (parts_value gs)))

abbrev pub query_meaning : QueryForm → Level
query_meaning (from_all e gs) = level (name e (1 ∷ [])) None no_clause [] (paging_from [] 2 gs)
query_meaning (from_filter e f gs) =
    level (name e (1 ∷ [])) None (clause (filter_meaning (2 ∷ []) f)) [] (paging_from [] 3 gs)
query_meaning (from_extract e x gs) = extracted (name e (1 ∷ [])) (extract_meaning (2 ∷ []) x) (paging_from [] 3 gs)

abbrev pub IsQueryForm : QueryForm → Type 0
IsQueryForm (from_all e gs) = IsPaging gs
IsQueryForm (from_filter e f gs) = IsFilterForm f × IsPaging gs
IsQueryForm (from_extract e x gs) = IsExtractForm x × IsPaging gs

-- the filter or extract that an entity's route takes
pub data RouteForm : Type 0 where
  route_filter : FilterForm → RouteForm
  route_extract : ExtractForm → RouteForm

abbrev pub route_value : RouteForm → Json
route_value (route_filter f) = filter_value f
route_value (route_extract x) = extract_value x

abbrev pub route_meaning : Name → RouteForm → Level
route_meaning e (route_filter f) = level e None (clause (filter_meaning [] f)) [] unpaged
route_meaning e (route_extract x) = extracted e (extract_meaning [] x) unpaged

abbrev pub IsRouteForm : RouteForm → Type 0
IsRouteForm (route_filter f) = IsFilterForm f
IsRouteForm (route_extract x) = IsExtractForm x

-- ---- the relation between a value and a query

-- filters nest at most 100 levels
abbrev pub IsShallow : Level → Type 0
IsShallow q = level_height q ≤ most_depth

pub record SpellsQuery (v : Json) (q : Level) : Type 0 where
  pub form : QueryForm
  pub is_form : IsQueryForm form
  pub value_is : v ≡ query_value form
  pub means : q ≡ query_meaning form
  pub depth : IsShallow q

pub record SpellsRoute (e : Name) (v : Json) (q : Level) : Type 0 where
  pub form : RouteForm
  pub is_form : IsRouteForm form
  pub value_is : v ≡ route_value form
  pub means : q ≡ route_meaning e form
  pub depth : IsShallow q
