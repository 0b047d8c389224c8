-- The places at which no form of the AST allows the value, in no order. A list is judged by its head word, if its forms have one, and by
-- its number of elements. These give each element a kind, and the element is judged by the forms of that kind.
use Rattle.std.specs.Prelude.{◌≡◌, ◌+◌, ℕ, zero, suc, List, [], ◌∷◌, ◌++◌, Bool, true, false, ◌&&◌, ◌||◌, nat_lt, Option, Some, None, Ok, Err, codes, if◌then◌else◌}
use Rattle.std.specs.List.{list_any}
use Rattle.std.specs.Str.{bytes_eq}
use Rattle.std.specs.Str.Parse.{digits_value}
use Rattle.json_machine.specs.text_spec.Json as json
use Rattle.json_machine.specs.text_spec.Json.{Json, Items, no_items, item}
use Rattle.query_spec.specs.declared.parts.Function.{Function}
use Rattle.query_spec.specs.declared.parts.Function.TheVariants.{Count}
use Rattle.query_spec.specs.declared.words.FieldWord.{FieldWord}
use Rattle.query_spec.specs.declared.words.FieldWord.TheVariants as of_field
use Rattle.query_spec.specs.declared.words.FilterWord.{FilterWord}
use Rattle.query_spec.specs.declared.words.FilterWord.TheVariants as of_filter
use Rattle.query_spec.specs.declared.words.InnerWord.{InnerWord}
use Rattle.query_spec.specs.declared.words.InnerWord.TheVariants as of_inner
use Rattle.query_spec.specs.declared.words.PartWord.{PartWord}
use Rattle.query_spec.specs.declared.words.PartWord.TheVariants as of_part
use Rattle.query_spec.specs.Ast.{Read, word_at, word_of, is_group}
use Rattle.query_spec.specs.Parts.{are_digits}
use Rattle.query_spec.specs.Words.{field_word, inner_word, part_word, function_named, function_name, behind_select}
use Rattle.query_laws.specs.Places.{element_of}

-- ---- kinds

-- what may stand at a place
pub data Kind : Type 0 where
  -- a whole query, what may follow its entity, and what an entity's route takes
  query : Kind
  body : Kind
  route : Kind
  -- a part of the paging, behind these elements
  part : List Json → Kind
  orders : Kind
  order : Kind
  -- an extract whose filters have this depth; what it shows; an output behind these; a filter or a group, or a group
  extract : ℕ → Kind
  shown : Kind
  output : List Json → Kind
  filter_or_group : ℕ → Kind
  group : Kind
  -- a filter at this depth; the right side of `in`, and `select_E`, whose filters have this depth
  filter : ℕ → Kind
  inner : ℕ → Kind
  select : ℕ → Kind
  -- C or [C, ..]; C, ["parameter", name] or ["fact", name]; [literal, ..]; a literal
  columns : Kind
  field : Kind
  literals : Kind
  literal : Kind
  -- a function's name, `count` alone if it has no column
  function_word : Bool → Kind
  -- a text, a boolean, the number of a limit, `asc` or `desc`; a word that was judged with its list
  text : Kind
  boolean : Kind
  count : Kind
  direction : Kind
  anything : Kind

-- ---- the elements of a list

-- each element has this kind
abbrev pub each : Kind → Items → List Kind
each k no_items = []
each k (item v vs) = k ∷ each k vs

-- behind the head word at least one element, each of this kind
abbrev pub some : Kind → Items → Option (List Kind)
some k no_items = None
some k (item v vs) = Some (anything ∷ k ∷ each k vs)

-- behind the head word one element
abbrev pub one : Kind → Items → Option (List Kind)
one k (item v no_items) = Some (anything ∷ k ∷ [])
one k _ = None

-- behind the head word two elements
abbrev pub two : Kind → Kind → Items → Option (List Kind)
two k l (item v (item w no_items)) = Some (anything ∷ k ∷ l ∷ [])
two k l _ = None

-- an output, or a part of the paging, depends on the elements before it
abbrev pub outputs : List Json → Items → List Kind
outputs earlier no_items = []
outputs earlier (item v vs) = output earlier ∷ outputs (earlier ++ v ∷ []) vs

abbrev pub parts : List Json → Items → List Kind
parts earlier no_items = []
parts earlier (item v vs) = part earlier ∷ parts (earlier ++ v ∷ []) vs

-- ---- what may stand only once

-- the name of an output, and whether it is a function's
pub data Named : Type 0 where
  unnamed : Named
  named : List ℕ → Bool → Named

abbrev pub counted : Option Function → Named
counted (Some Count) = named (function_name Count) true
counted _ = unnamed

abbrev pub applied : Option Function → Named
applied (Some f) = named (function_name f) true
applied None = unnamed

abbrev pub name_of : Json → Named
name_of (json.string s) = named s false
name_of (json.array (item (json.string h) (item (json.string f) no_items))) =
    if bytes_eq h (codes "function") then counted (function_named f) else unnamed
name_of (json.array (item (json.string h) (item (json.string f) (item v no_items)))) =
    if bytes_eq h (codes "function") then applied (function_named f) else unnamed
name_of _ = unnamed

-- two outputs with one name, at least one of them a function
abbrev pub are_alike : Named → Named → Bool
are_alike (named s f) (named t g) = bytes_eq s t && (f || g)
are_alike _ _ = false

abbrev pub is_output_twice : Json → List Json → Bool
is_output_twice v earlier = list_any (λ w. are_alike (name_of v) (name_of w)) earlier

-- two parts of one kind
abbrev pub same_part : PartWord → PartWord → Bool
same_part of_part.Limit of_part.Limit = true
same_part of_part.Offset of_part.Offset = true
same_part of_part.OrderBy of_part.OrderBy = true
same_part _ _ = false

abbrev pub is_part_twice : PartWord → List Json → Bool
is_part_twice w earlier = list_any (λ v. same_part w (word_of v)) earlier

-- ---- the forms of each kind

abbrev pub field_elements : FieldWord → Items → Option (List Kind)
field_elements of_field.Other vs = None
field_elements _ vs = one text vs

-- the inner filters have this depth
abbrev pub filter_elements : ℕ → FilterWord → Items → Option (List Kind)
filter_elements d of_filter.And vs = some (filter d) vs
filter_elements d of_filter.Or vs = some (filter d) vs
filter_elements d of_filter.Not vs = one (filter d) vs
filter_elements d (of_filter.Compare o) vs = two field literal vs
filter_elements d of_filter.Matches vs = two field text vs
filter_elements d of_filter.IsNull vs = two field boolean vs
filter_elements d of_filter.In vs = two columns (inner d) vs
filter_elements d of_filter.Subquery (item e no_items) = Some (anything ∷ text ∷ [])
filter_elements d of_filter.Subquery vs = two text (filter d) vs
filter_elements d of_filter.Other vs = None

abbrev pub of_filter_at : ℕ → Json → Option (List Kind)
of_filter_at d (json.array (item (json.string h) vs)) = filter_elements (d + 1) (word_at d h) vs
of_filter_at d _ = None

-- ["extract", cols], then optionally a filter, then optionally a group
abbrev pub extract_elements : ℕ → Items → Option (List Kind)
extract_elements d (item s no_items) = Some (anything ∷ shown ∷ [])
extract_elements d (item s (item v no_items)) = Some (anything ∷ shown ∷ filter_or_group d ∷ [])
extract_elements d (item s (item f (item g no_items))) = Some (anything ∷ shown ∷ filter d ∷ group ∷ [])
extract_elements d _ = None

abbrev pub of_extract : ℕ → Json → Option (List Kind)
of_extract d (json.array (item (json.string h) vs)) = if bytes_eq h (codes "extract") then extract_elements d vs else None
of_extract d _ = None

abbrev pub of_group : Json → Option (List Kind)
of_group (json.array (item (json.string h) vs)) = if bytes_eq h (codes "group_by") then some text vs else None
of_group _ = None

-- ["from", E, extract, part ..]
abbrev pub query_elements : ℕ → Items → Option (List Kind)
query_elements d (item e (item x vs)) = Some (anything ∷ text ∷ extract d ∷ parts [] vs)
query_elements d _ = None

abbrev pub inner_elements : ℕ → InnerWord → Items → Option (List Kind)
inner_elements d of_inner.Array vs = one literals vs
inner_elements d of_inner.Extract vs = two columns (select d) vs
inner_elements d of_inner.From vs = query_elements d vs
inner_elements d of_inner.Other vs = None

abbrev pub select_elements : ℕ → Option (List ℕ) → Items → Option (List Kind)
select_elements d (Some e) no_items = Some (anything ∷ [])
select_elements d (Some e) vs = one (filter d) vs
select_elements d None vs = None

abbrev pub output_elements : Json → Option (List Kind)
output_elements (json.string s) = Some []
output_elements (json.array (item (json.string h) (item f no_items))) =
    if bytes_eq h (codes "function") then Some (anything ∷ function_word true ∷ []) else None
output_elements (json.array (item (json.string h) (item f (item v no_items)))) =
    if bytes_eq h (codes "function") then Some (anything ∷ function_word false ∷ text ∷ []) else None
output_elements _ = None

abbrev pub paged_elements : PartWord → Items → Option (List Kind)
paged_elements of_part.Limit vs = one count vs
paged_elements of_part.Offset vs = one count vs
paged_elements of_part.OrderBy vs = one orders vs
paged_elements of_part.Extract vs = None
paged_elements of_part.Other vs = None

abbrev pub part_elements : Json → Option (List Kind)
part_elements (json.array (item (json.string h) vs)) = paged_elements (part_word h) vs
part_elements _ = None

-- an extract, a filter or a part, by its head word
abbrev pub body_elements : PartWord → Json → Option (List Kind)
body_elements of_part.Extract v = of_extract 1 v
body_elements of_part.Other v = of_filter_at 1 v
body_elements of_part.Limit v = part_elements v
body_elements of_part.Offset v = part_elements v
body_elements of_part.OrderBy v = part_elements v

abbrev pub route_elements : PartWord → Json → Option (List Kind)
route_elements of_part.Extract v = of_extract 1 v
route_elements _ v = of_filter_at 1 v

-- ["from", E], or with a body and parts
abbrev pub whole_elements : Items → Option (List Kind)
whole_elements no_items = None
whole_elements (item e no_items) = Some (anything ∷ text ∷ [])
whole_elements (item e (item v vs)) = Some (anything ∷ text ∷ body ∷ parts (v ∷ []) vs)

abbrev pub is_function_word : Bool → Option Function → Bool
is_function_word one_only None = false
is_function_word true (Some Count) = true
is_function_word true (Some f) = false
is_function_word false (Some f) = true

abbrev pub unless : Bool → Option (List Kind) → Option (List Kind)
unless b ks = if b then None else ks

abbrev pub when : Bool → Option (List Kind)
when b = if b then Some [] else None

-- The kinds of a value's elements, by the forms of its own kind; None if no form has its head word and its number of elements.
abbrev pub elements : Kind → Json → Option (List Kind)
elements anything v = Some []
elements query (json.array (item (json.string h) vs)) = if bytes_eq h (codes "from") then whole_elements vs else None
elements body v = body_elements (word_of v) v
elements route v = route_elements (word_of v) v
elements (part earlier) v = unless (is_part_twice (word_of v) earlier) (part_elements v)
elements orders (json.array (item v vs)) = Some (each order (item v vs))
elements order (json.string s) = Some []
elements order (json.array (item c (item d no_items))) = Some (text ∷ direction ∷ [])
elements (extract d) v = of_extract d v
elements shown (json.string s) = Some []
elements shown (json.array (item v vs)) = Some (outputs [] (item v vs))
elements (output earlier) v = unless (is_output_twice v earlier) (output_elements v)
elements (filter_or_group d) v = if is_group v then of_group v else of_filter_at d v
elements group v = of_group v
elements (filter d) v = of_filter_at d v
elements (inner d) (json.array (item (json.string h) vs)) = inner_elements d (inner_word h) vs
elements (select d) (json.array (item (json.string h) vs)) = select_elements d (behind_select h) vs
elements columns (json.string s) = Some []
elements columns (json.array (item v vs)) = Some (each text (item v vs))
elements field (json.string s) = Some []
elements field (json.array (item (json.string h) vs)) = field_elements (field_word h) vs
elements literals (json.array (item v vs)) = Some (each literal (item v vs))
elements literal (json.string s) = Some []
elements literal (json.number s) = Some []
elements literal (json.boolean b) = Some []
elements (function_word alone) (json.string s) = when (is_function_word alone (function_named s))
elements text (json.string s) = Some []
elements boolean (json.boolean b) = Some []
elements count (json.number s) = when (are_digits s && nat_lt (digits_value 10 s) 9223372036854775808)
elements direction (json.string s) = when (bytes_eq s (codes "asc") || bytes_eq s (codes "desc"))
elements _ v = None

-- ---- places

abbrev pub kind_at : ℕ → List Kind → Option Kind
kind_at i [] = None
kind_at zero (k ∷ ks) = Some k
kind_at (suc i) (k ∷ ks) = kind_at i ks

-- No form of its kind allows the value at the place: its own, or one in an element.
abbrev pub IsRefused : Kind → Json → List ℕ → Type 0
IsRefused k v [] = elements k v ≡ None
IsRefused k v (i ∷ p) =
    (ks : List Kind) × (j : Kind) × (w : Json) × (elements k v ≡ Some ks) × (kind_at i ks ≡ Some j) × (element_of i v ≡ Some w)
    × IsRefused j w p

-- the place that a reading tells, if it fails
abbrev pub told : {A : Type 0} → Read A → Option (List ℕ)
told (Ok x) = None
told (Err p) = Some p
