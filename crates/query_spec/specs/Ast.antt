-- The AST: the meaning of a JSON value at a place, or the place of the first value that no form allows.
--
-- A list is judged first by its head word, if its forms have one, and by its number of elements. Then its elements are read in
-- order, each at its own place. So the first fault in this order is the first in preorder. In the comments C is a column's name
-- and E an entity's; [x, ..] has at least one element; x? is x or nothing.
use Rattle.std.specs.Prelude.{ℕ, ◌+◌, List, [], ◌∷◌, ◌++◌, Bool, true, false, nat_lt, Option, Some, None, is_some, Result, Ok, Err, map, codes, if◌then◌else◌}
use Rattle.std.specs.List.{list_any}
use Rattle.std.specs.Str.{bytes_eq}
use Rattle.std.specs.Str.Parse.{digits_value}
use Rattle.fleet_rows.specs.text_spec.Json as json
use Rattle.fleet_rows.specs.text_spec.Json.{Json, Items, no_items, item}
use Rattle.query_spec.specs.declared.parts.Field.{Field}
use Rattle.query_spec.specs.declared.parts.Field.TheVariants as field
use Rattle.query_spec.specs.declared.parts.Function.{Function}
use Rattle.query_spec.specs.declared.parts.Function.TheVariants.{Count}
use Rattle.query_spec.specs.declared.parts.Literal.{Literal}
use Rattle.query_spec.specs.declared.parts.Name.{Name}
use Rattle.query_spec.specs.declared.parts.Op.{Op}
use Rattle.query_spec.specs.declared.parts.Order.{Order}
use Rattle.query_spec.specs.declared.parts.Paging.{Paging}
use Rattle.query_spec.specs.declared.parts.Pattern.{Pattern}
use Rattle.query_spec.specs.declared.parts.Scalar.TheVariants as scalar
use Rattle.query_spec.specs.declared.parts.Selected.{Selected}
use Rattle.query_spec.specs.declared.parts.Selected.TheVariants as selected
use Rattle.query_spec.specs.declared.words.FieldWord.TheVariants as of_field
use Rattle.query_spec.specs.declared.words.FilterWord.{FilterWord}
use Rattle.query_spec.specs.declared.words.FilterWord.TheVariants as of_filter
use Rattle.query_spec.specs.declared.words.InnerWord.TheVariants as of_inner
use Rattle.query_spec.specs.declared.words.PartWord.{PartWord}
use Rattle.query_spec.specs.declared.words.PartWord.TheVariants as of_part
use Rattle.query_spec.specs.Parts.{name, field_named, clashes, unpaged, are_digits}
use Rattle.query_spec.specs.Query.{Filter, compare, matches, is_null, in_list, in_level, subquery, negation, all_of, any_of, filters_of, Clause, no_clause, clause, Level, level}
use Rattle.query_spec.specs.Words.{filter_word, field_word, inner_word, part_word, function_named, behind_select}
use Rattle.query_spec.specs.Limits.{most_depth}

-- the part that is read, or the place of the fault
abbrev pub Read : Type 0 → Type 0
Read A = Result A (List ℕ)

infixl 10 ◌>>=◌
abbrev pub ◌>>=◌ : {A B : Type 0} → Read A → (A → Read B) → Read B
(Ok x) >>= f = f x
(Err p) >>= f = Err p

-- ---- names, fields, literals

abbrev pub name_at : List ℕ → Json → Read Name
name_at p (json.string s) = Ok (name s p)
name_at p _ = Err p

-- the names of a list from number i on
abbrev pub names_at : List ℕ → ℕ → Items → Read (List Name)
names_at p i no_items = Ok []
names_at p i (item v vs) = name_at (p ++ i ∷ []) v >>= λ n. names_at p (i + 1) vs >>= λ ns. Ok (n ∷ ns)

-- C or [C, ..]
abbrev pub columns_at : List ℕ → Json → Read (List Name)
columns_at p (json.string s) = Ok (name s p ∷ [])
columns_at p (json.array (item v vs)) = names_at p 0 (item v vs)
columns_at p _ = Err p

-- the left side of `in`: C or [C, ..]
abbrev pub fields_at : List ℕ → ℕ → Items → Read (List Field)
fields_at p i no_items = Ok []
fields_at p i (item v vs) = name_at (p ++ i ∷ []) v >>= λ n. fields_at p (i + 1) vs >>= λ fs. Ok (field_named n ∷ fs)

abbrev pub left_at : List ℕ → Json → Read (List Field)
left_at p (json.string s) = Ok (field_named (name s p) ∷ [])
left_at p (json.array (item v vs)) = fields_at p 0 (item v vs)
left_at p _ = Err p

-- C, ["parameter", name] or ["fact", name]
abbrev pub field_at : List ℕ → Json → Read Field
field_at p (json.string s) = Ok (field_named (name s p))
field_at p (json.array (item (json.string h) (item v no_items))) = elim (field_word h) [
  | of_field.Parameter ↦ name_at (p ++ 1 ∷ []) v >>= λ n. Ok (field.Parameter n)
  | of_field.Fact ↦ name_at (p ++ 1 ∷ []) v >>= λ n. Ok (field.Fact n)
  | of_field.Other ↦ Err p
]
field_at p _ = Err p

-- a text, a number or a boolean
abbrev pub literal_at : List ℕ → Json → Read Literal
literal_at p (json.string s) = Ok (record { value = scalar.Text s; place = p })
literal_at p (json.number s) = Ok (record { value = scalar.Num s; place = p })
literal_at p (json.boolean b) = Ok (record { value = scalar.Bool b; place = p })
literal_at p _ = Err p

abbrev pub literals_at : List ℕ → ℕ → Items → Read (List Literal)
literals_at p i no_items = Ok []
literals_at p i (item v vs) = literal_at (p ++ i ∷ []) v >>= λ l. literals_at p (i + 1) vs >>= λ ls. Ok (l ∷ ls)

-- [literal, ..]
abbrev pub array_at : List ℕ → Json → Read (List Literal)
array_at p (json.array (item v vs)) = literals_at p 0 (item v vs)
array_at p _ = Err p

abbrev pub pattern_at : List ℕ → Json → Read Pattern
pattern_at p (json.string s) = Ok (record { text = s; place = p })
pattern_at p _ = Err p

abbrev pub bool_at : List ℕ → Json → Read Bool
bool_at p (json.boolean b) = Ok b
bool_at p _ = Err p

-- ---- what is shown

-- a function of a column, after the function's name; no earlier output may have that name
abbrev pub applied_at : List ℕ → Function → Json → Read Selected
applied_at p f v = name_at (p ++ 2 ∷ []) v >>= λ n. Ok (selected.Function f n)

abbrev pub fresh : List ℕ → List Selected → Selected → Read Selected → Read Selected
fresh p earlier s r = if list_any (clashes s) earlier then Err p else r

abbrev pub rows_at : List ℕ → List Selected → Option Function → Read Selected
rows_at p earlier (Some Count) = fresh p earlier selected.Rows (Ok selected.Rows)
rows_at p earlier _ = Err (p ++ 1 ∷ [])

abbrev pub function_at : List ℕ → List Selected → Option Function → Json → Read Selected
function_at p earlier None v = Err (p ++ 1 ∷ [])
function_at p earlier (Some f) v = fresh p earlier (selected.Function f (name [] p)) (applied_at p f v)

-- ["function", "count"] or ["function", f, C], after the word
abbrev pub function_form : List ℕ → List Selected → Items → Read Selected
function_form p earlier (item (json.string f) no_items) = rows_at p earlier (function_named f)
function_form p earlier (item v no_items) = Err (p ++ 1 ∷ [])
function_form p earlier (item (json.string f) (item v no_items)) = function_at p earlier (function_named f) v
function_form p earlier (item v (item w no_items)) = Err (p ++ 1 ∷ [])
function_form p earlier _ = Err p

-- C, or a function; no earlier output may clash with its name
abbrev pub selected_at : List ℕ → List Selected → Json → Read Selected
selected_at p earlier (json.string s) = fresh p earlier (selected.Column (name s p)) (Ok (selected.Column (name s p)))
selected_at p earlier (json.array (item (json.string h) vs)) =
    if bytes_eq h (codes "function") then function_form p earlier vs else Err p
selected_at p earlier _ = Err p

-- the outputs from number i on, after the earlier ones
abbrev pub selection_at : List ℕ → ℕ → List Selected → Items → Read (List Selected)
selection_at p i earlier no_items = Ok earlier
selection_at p i earlier (item v vs) = selected_at (p ++ i ∷ []) earlier v >>= λ s. selection_at p (i + 1) (earlier ++ s ∷ []) vs

-- C, or a list of columns and functions
abbrev pub shown_at : List ℕ → Json → Read (List Selected)
shown_at p (json.string s) = Ok (selected.Column (name s p) ∷ [])
shown_at p (json.array (item v vs)) = selection_at p 0 [] (item v vs)
shown_at p _ = Err p

-- ["group_by", C, ..]
abbrev pub group_at : List ℕ → Json → Read (List Name)
group_at p (json.array (item (json.string h) (item v vs))) =
    if bytes_eq h (codes "group_by") then names_at p 1 (item v vs) else Err p
group_at p _ = Err p

-- ---- paging

-- the count, if it is below 2^63
abbrev pub below_limit : List ℕ → ℕ → Read ℕ
below_limit p n = if nat_lt n 9223372036854775808 then Ok n else Err p

-- a number of digits only
abbrev pub count_at : List ℕ → Json → Read ℕ
count_at p (json.number s) = if are_digits s then below_limit p (digits_value 10 s) else Err p
count_at p _ = Err p

abbrev pub descends_at : List ℕ → Json → Read Bool
descends_at p (json.string s) =
    if bytes_eq s (codes "asc") then Ok false else (if bytes_eq s (codes "desc") then Ok true else Err p)
descends_at p _ = Err p

abbrev pub order : Name → Bool → Order
order n d = record { column = n; descends = d }

-- C, [C, "asc"] or [C, "desc"]
abbrev pub order_at : List ℕ → Json → Read Order
order_at p (json.string s) = Ok (order (name s p) false)
order_at p (json.array (item c (item d no_items))) =
    name_at (p ++ 0 ∷ []) c >>= λ n. descends_at (p ++ 1 ∷ []) d >>= λ d. Ok (order n d)
order_at p _ = Err p

abbrev pub orders_at : List ℕ → ℕ → Items → Read (List Order)
orders_at p i no_items = Ok []
orders_at p i (item v vs) = order_at (p ++ i ∷ []) v >>= λ o. orders_at p (i + 1) vs >>= λ os. Ok (o ∷ os)

abbrev pub order_list_at : List ℕ → Json → Read (List Order)
order_list_at p (json.array (item v vs)) = orders_at p 0 (item v vs)
order_list_at p _ = Err p

abbrev pub is_empty : List Order → Bool
is_empty [] = true
is_empty (o ∷ os) = false

-- adds one part to the paging; fails if the paging already has it
abbrev pub with_limit : List ℕ → Paging → Json → Read Paging
with_limit p g v =
    if is_some g.limit then Err p else count_at (p ++ 1 ∷ []) v >>= λ n. Ok (record g { limit = Some n })

abbrev pub with_offset : List ℕ → Paging → Json → Read Paging
with_offset p g v =
    if is_some g.offset then Err p else count_at (p ++ 1 ∷ []) v >>= λ n. Ok (record g { offset = Some n })

abbrev pub with_order : List ℕ → Paging → Json → Read Paging
with_order p g v =
    if is_empty g.order then (order_list_at (p ++ 1 ∷ []) v >>= λ os. Ok (record g { order = os })) else Err p

-- ["limit", n], ["offset", n] or ["order_by", [o, ..]]
abbrev pub paged_at : List ℕ → Paging → Json → Read Paging
paged_at p g (json.array (item (json.string h) (item v no_items))) = elim (part_word h) [
  | of_part.Limit ↦ with_limit p g v
  | of_part.Offset ↦ with_offset p g v
  | of_part.OrderBy ↦ with_order p g v
  | of_part.Extract ↦ Err p
  | of_part.Other ↦ Err p
]
paged_at p g _ = Err p

-- the paging's parts from number i on, each at most once, in any order
abbrev pub paging_at : List ℕ → ℕ → Paging → Items → Read Paging
paging_at p i g no_items = Ok g
paging_at p i g (item v vs) = paged_at (p ++ i ∷ []) g v >>= λ g. paging_at p (i + 1) g vs

-- ---- filters, and the selections within them

-- the filter that this word begins; at depth 101 no word begins one
abbrev pub word_at : ℕ → List ℕ → FilterWord
word_at d h = if nat_lt most_depth d then of_filter.Other else filter_word h

-- the kind of a part after the entity, by its head word
abbrev pub word_of : Json → PartWord
word_of (json.array (item (json.string h) vs)) = part_word h
word_of _ = of_part.Other

abbrev pub compared_at : Op → List ℕ → Items → Read Filter
compared_at o p (item f (item l no_items)) =
    field_at (p ++ 1 ∷ []) f >>= λ f. literal_at (p ++ 2 ∷ []) l >>= λ l. Ok (compare o f l)
compared_at o p _ = Err p

abbrev pub matched_at : List ℕ → Items → Read Filter
matched_at p (item f (item t no_items)) =
    field_at (p ++ 1 ∷ []) f >>= λ f. pattern_at (p ++ 2 ∷ []) t >>= λ t. Ok (matches f t)
matched_at p _ = Err p

abbrev pub null_at : List ℕ → Items → Read Filter
null_at p (item f (item b no_items)) =
    field_at (p ++ 1 ∷ []) f >>= λ f. bool_at (p ++ 2 ∷ []) b >>= λ b. Ok (is_null f b)
null_at p _ = Err p

abbrev pub entity_behind : List ℕ → Option (List ℕ) → Read Name
entity_behind p None = Err p
entity_behind p (Some e) = Ok (name e (p ++ 0 ∷ []))

-- an extract: what is shown, the filter, and the columns of groups
pub record Extract : Type 0 where
  pub shown : List Selected
  pub where_clause : Clause
  pub group : List Name

abbrev pub extract : List Selected → Clause → List Name → Extract
extract s k g = record { shown = s; where_clause = k; group = g }

abbrev pub extracted : Name → Extract → Paging → Level
extracted e x g = level e (Some x.shown) x.where_clause x.group g

-- whether the value begins as ["group_by", ..] does
abbrev pub is_group : Json → Bool
is_group (json.array (item (json.string h) vs)) = bytes_eq h (codes "group_by")
is_group _ = false

abbrev mutual
  -- the filter of this value at depth d, which counts from 1
  pub filter_at : ℕ → List ℕ → Json → Read Filter
  filter_at d p (json.array (item (json.string h) vs)) = elim (word_at d h) [
    | of_filter.And ↦ some_at (d + 1) p vs >>= λ fs. Ok (all_of (filters_of fs))
    | of_filter.Or ↦ some_at (d + 1) p vs >>= λ fs. Ok (any_of (filters_of fs))
    | of_filter.Not ↦ one_at (d + 1) p vs >>= λ f. Ok (negation f)
    | of_filter.Compare o ↦ compared_at o p vs
    | of_filter.Matches ↦ matched_at p vs
    | of_filter.IsNull ↦ null_at p vs
    | of_filter.In ↦ in_at (d + 1) p vs
    | of_filter.Subquery ↦ subquery_at (d + 1) p vs
    | of_filter.Other ↦ Err p
  ]
  filter_at d p _ = Err p

  -- the filters from number i on
  pub filters_at : ℕ → List ℕ → ℕ → Items → Read (List Filter)
  filters_at d p i no_items = Ok []
  filters_at d p i (item v vs) = filter_at d (p ++ i ∷ []) v >>= λ f. filters_at d p (i + 1) vs >>= λ fs. Ok (f ∷ fs)

  -- at least one filter
  pub some_at : ℕ → List ℕ → Items → Read (List Filter)
  some_at d p no_items = Err p
  some_at d p (item v vs) = filter_at d (p ++ 1 ∷ []) v >>= λ f. filters_at d p 2 vs >>= λ fs. Ok (f ∷ fs)

  pub one_at : ℕ → List ℕ → Items → Read Filter
  one_at d p (item v no_items) = filter_at d (p ++ 1 ∷ []) v
  one_at d p _ = Err p

  -- ["in", C or [C, ..], inner], after the word
  pub in_at : ℕ → List ℕ → Items → Read Filter
  in_at d p (item c (item v no_items)) = left_at (p ++ 1 ∷ []) c >>= λ fs. inner_at d (p ++ 2 ∷ []) fs v
  in_at d p _ = Err p

  -- the right side of `in`, with the fields of the left side
  pub inner_at : ℕ → List ℕ → List Field → Json → Read Filter
  inner_at d p fs (json.array (item (json.string h) vs)) = elim (inner_word h) [
    | of_inner.Array ↦ listed_at p fs vs
    | of_inner.Extract ↦ select_at d p vs >>= λ q. Ok (in_level fs p q)
    | of_inner.From ↦ query_within d p vs >>= λ q. Ok (in_level fs p q)
    | of_inner.Other ↦ Err p
  ]
  inner_at d p fs _ = Err p

  -- ["array", [literal, ..]], after the word
  pub listed_at : List ℕ → List Field → Items → Read Filter
  listed_at p fs (item v no_items) = array_at (p ++ 1 ∷ []) v >>= λ ls. Ok (in_list fs p ls)
  listed_at p fs _ = Err p

  -- ["extract", C or [C, ..], ["select_E", filter?]], after the word
  pub select_at : ℕ → List ℕ → Items → Read Level
  select_at d p (item c (item v no_items)) = columns_at (p ++ 1 ∷ []) c >>= λ cs. rows_of_at d (p ++ 2 ∷ []) cs v
  select_at d p _ = Err p

  pub rows_of_at : ℕ → List ℕ → List Name → Json → Read Level
  rows_of_at d p cs (json.array (item (json.string s) no_items)) =
      entity_behind p (behind_select s) >>= λ e. Ok (level e (Some (map selected.Column cs)) no_clause [] unpaged)
  rows_of_at d p cs (json.array (item (json.string s) (item f no_items))) =
      entity_behind p (behind_select s) >>= λ e. filter_at d (p ++ 1 ∷ []) f
      >>= λ f. Ok (level e (Some (map selected.Column cs)) (clause f) [] unpaged)
  rows_of_at d p cs _ = Err p

  -- ["subquery", E, filter?], after the word
  pub subquery_at : ℕ → List ℕ → Items → Read Filter
  subquery_at d p (item e no_items) = name_at (p ++ 1 ∷ []) e >>= λ e. Ok (subquery e no_clause)
  subquery_at d p (item e (item f no_items)) =
      name_at (p ++ 1 ∷ []) e >>= λ e. filter_at d (p ++ 2 ∷ []) f >>= λ f. Ok (subquery e (clause f))
  subquery_at d p _ = Err p

  -- ["extract", shown, filter?, group?]
  pub extract_at : ℕ → List ℕ → Json → Read Extract
  extract_at d p (json.array (item (json.string h) vs)) = if bytes_eq h (codes "extract") then extracted_at d p vs else Err p
  extract_at d p _ = Err p

  pub extracted_at : ℕ → List ℕ → Items → Read Extract
  extracted_at d p (item s no_items) = shown_at (p ++ 1 ∷ []) s >>= λ s. Ok (extract s no_clause [])
  extracted_at d p (item s (item v no_items)) =
      shown_at (p ++ 1 ∷ []) s >>= λ s. if is_group v
      then (group_at (p ++ 2 ∷ []) v >>= λ g. Ok (extract s no_clause g))
      else (filter_at d (p ++ 2 ∷ []) v >>= λ f. Ok (extract s (clause f) []))
  extracted_at d p (item s (item f (item g no_items))) =
      shown_at (p ++ 1 ∷ []) s >>= λ s. filter_at d (p ++ 2 ∷ []) f >>= λ f. group_at (p ++ 3 ∷ []) g
      >>= λ g. Ok (extract s (clause f) g)
  extracted_at d p _ = Err p

  -- ["from", E, extract, paging ..], after the word: a query on the right side of `in`
  pub query_within : ℕ → List ℕ → Items → Read Level
  query_within d p (item e (item x vs)) =
      name_at (p ++ 1 ∷ []) e >>= λ e. extract_at d (p ++ 2 ∷ []) x >>= λ x. paging_at p 3 unpaged vs
      >>= λ g. Ok (extracted e x g)
  query_within d p _ = Err p

-- ---- whole queries

-- what may follow the entity of a query: an extract or a filter, then paging; or only paging
abbrev pub extract_body : List ℕ → Name → Json → Items → Read Level
extract_body p e v vs = extract_at 1 (p ++ 2 ∷ []) v >>= λ x. paging_at p 3 unpaged vs >>= λ g. Ok (extracted e x g)

abbrev pub filter_body : List ℕ → Name → Json → Items → Read Level
filter_body p e v vs = filter_at 1 (p ++ 2 ∷ []) v >>= λ f. paging_at p 3 unpaged vs >>= λ g. Ok (level e None (clause f) [] g)

abbrev pub paged_body : List ℕ → Name → Items → Read Level
paged_body p e vs = paging_at p 2 unpaged vs >>= λ g. Ok (level e None no_clause [] g)

abbrev pub body_at : List ℕ → Name → Items → Read Level
body_at p e no_items = Ok (level e None no_clause [] unpaged)
body_at p e (item v vs) = elim (word_of v) [
  | of_part.Extract ↦ extract_body p e v vs
  | of_part.Other ↦ filter_body p e v vs
  | of_part.Limit ↦ paged_body p e (item v vs)
  | of_part.Offset ↦ paged_body p e (item v vs)
  | of_part.OrderBy ↦ paged_body p e (item v vs)
]

-- ["from", E, filter or extract, paging ..]
abbrev pub query_at : List ℕ → Json → Read Level
query_at p (json.array (item (json.string h) (item e vs))) =
    if bytes_eq h (codes "from") then (name_at (p ++ 1 ∷ []) e >>= λ e. body_at p e vs) else Err p
query_at p _ = Err p

-- the filter or extract that an entity's route takes
abbrev pub filter_route : Name → List ℕ → Json → Read Level
filter_route e p v = filter_at 1 p v >>= λ f. Ok (level e None (clause f) [] unpaged)

abbrev pub extract_route : Name → List ℕ → Json → Read Level
extract_route e p v = extract_at 1 p v >>= λ x. Ok (extracted e x unpaged)

abbrev pub route_at : Name → List ℕ → Json → Read Level
route_at e p v = elim (word_of v) [
  | of_part.Extract ↦ extract_route e p v
  | of_part.Other ↦ filter_route e p v
  | of_part.Limit ↦ filter_route e p v
  | of_part.Offset ↦ filter_route e p v
  | of_part.OrderBy ↦ filter_route e p v
]
