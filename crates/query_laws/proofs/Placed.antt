-- The place of a fault is a place in the value.
use Rattle.std.proofs.Common.{◌≡◌, ◌∙◌, ℕ, suc, ◌+◌, List, [], ◌∷◌, ◌++◌, Bool, true, false, Option, Some, None, is_some, Ok, Err, arith, refl, sym, ap, subst, append_assoc, if◌then◌else◌}
use Rattle.std.specs.Prelude.{nat_lt, IsTrue, codes}
use Rattle.std.specs.List.{list_any}
use Rattle.std.specs.Str.{bytes_eq}
use Rattle.std.specs.Str.Parse.{digits_value}
use Rattle.std.proofs.lemmas.List.{append-nil}
use Rattle.json_machine.specs.text_spec.Json as json
use Rattle.json_machine.specs.text_spec.Json.{Json, Items, no_items, item}
use Rattle.query_spec.specs.declared.parts.Field.{Field}
use Rattle.query_spec.specs.declared.parts.Function.{Function}
use Rattle.query_spec.specs.declared.parts.Function.TheVariants.{Count, Sum, Min, Max}
use Rattle.query_spec.specs.declared.parts.Name.{Name}
use Rattle.query_spec.specs.declared.parts.Op.{Op}
use Rattle.query_spec.specs.declared.parts.Paging.{Paging}
use Rattle.query_spec.specs.declared.parts.Selected.{Selected}
use Rattle.query_spec.specs.declared.parts.Selected.TheVariants as selected
use Rattle.query_spec.specs.declared.words.FieldWord.{FieldWord}
use Rattle.query_spec.specs.declared.words.FieldWord.TheVariants as of_field
use Rattle.query_spec.specs.declared.words.FilterWord.{FilterWord}
use Rattle.query_spec.specs.declared.words.FilterWord.TheVariants as of_filter
use Rattle.query_spec.specs.declared.words.InnerWord.{InnerWord}
use Rattle.query_spec.specs.declared.words.InnerWord.TheVariants as of_inner
use Rattle.query_spec.specs.declared.words.PartWord.{PartWord}
use Rattle.query_spec.specs.declared.words.PartWord.TheVariants as of_part
use Rattle.query_spec.specs.Answer.{query}
use Rattle.query_spec.specs.Ast.{Read, ◌>>=◌, name_at, names_at, columns_at, fields_at, left_at, field_at, literal_at, literals_at, array_at, pattern_at, bool_at, rows_at, function_at, function_form, selected_at, selection_at, shown_at, group_at, count_at, descends_at, order_at, orders_at, order_list_at, is_empty, paged_at, paging_at, word_at, word_of, compared_at, matched_at, null_at, entity_behind, is_group, filter_at, filters_at, some_at, one_at, in_at, inner_at, listed_at, select_at, rows_of_at, subquery_at, extract_at, extracted_at, query_within, body_at, route_at}
use Rattle.query_spec.specs.Parts.{name, unpaged, clashes, are_digits}
use Rattle.query_spec.specs.Query.{Level}
use Rattle.query_spec.specs.Words.{inner_word, part_word, field_word, function_named, behind_select}
use Rattle.query_laws.proofs.Arms.{field_arm, part_arm, filter_arm, inner_arm, body_arm, route_arm}
use Rattle.query_laws.specs.Laws.{FaultsStandInTheValue, FaultsOfRoutesStandInTheValue}
use Rattle.query_laws.specs.Places.{element, element_of, value_at, IsPlaceIn}

-- ---- faults in what stands at p

abbrev Placed : {A : Type 0} → List ℕ → Json → Read A → Type 0
Placed p v (Ok x) = Unit {0}
Placed p v (Err q) = (r : List ℕ) × (q ≡ p ++ r) × IsPlaceIn v r

-- at p itself
here : (p : List ℕ) (v : Json) → (r : List ℕ) × (p ≡ p ++ r) × IsPlaceIn v r
here p v = ([], sym (append-nil p), refl)

bind : {A B : Type 0} (p : List ℕ) (v : Json) (r : Read A) (k : A → Read B) → Placed p v r → ((x : A) → Placed p v (k x)) → Placed p v (r >>= k)
bind p v (Ok x) k h n = n x
bind p v (Err q) k h n = h

either : {A : Type 0} (p : List ℕ) (v : Json) (b : Bool) (x y : Read A) → Placed p v x → Placed p v y → Placed p v (if b then x else y)
either p v true x y h n = h
either p v false x y h n = n

-- in an element
within : {A : Type 0} (p : List ℕ) (v : Json) (i : ℕ) (w : Json) (r : Read A) → element_of i v ≡ Some w → Placed (p ++ i ∷ []) w r → Placed p v r
within p v i w (Ok x) e h = tt
within p v i w (Err q) e h =
    (i ∷ h.0, h.1 ∙ append_assoc p (i ∷ []) h.0, subst (λ o. IsTrue (is_some (value_at h.0 o))) (sym e) h.2)

-- the elements of v from number i on
abbrev Among : Json → ℕ → Items → Type 0
Among v i vs = (k : ℕ) → element_of (i + k) v ≡ element k vs

among_all : (vs : Items) → Among (json.array vs) 0 vs
among_all vs k = let same : 0 + k ≡ k = omega arith in ap (λ n. element n vs) same

among_next : (v : Json) (i : ℕ) (u : Json) (us : Items) → Among v i (item u us) → Among v (i + 1) us
among_next v i u us h k = let same : i + 1 + k ≡ i + suc k = omega arith in ap (λ n. element_of n v) same ∙ h (suc k)

among_head : (v : Json) (i : ℕ) (u : Json) (us : Items) → Among v i (item u us) → element_of i v ≡ Some u
among_head v i u us h = let same : i ≡ i + 0 = omega arith in ap (λ n. element_of n v) same ∙ h 0

behind_one : (a : Json) (vs : Items) → Among (json.array (item a vs)) 1 vs
behind_one a vs = among_next (json.array (item a vs)) 0 a vs (among_all (item a vs))

behind_two : (a b : Json) (vs : Items) → Among (json.array (item a (item b vs))) 2 vs
behind_two a b vs = among_next (json.array (item a (item b vs))) 1 b vs (behind_one a (item b vs))

behind_three : (a b c : Json) (vs : Items) → Among (json.array (item a (item b (item c vs)))) 3 vs
behind_three a b c vs = among_next (json.array (item a (item b (item c vs)))) 2 c vs (behind_two a b (item c vs))

-- ---- names, fields and literals

name_placed : (p : List ℕ) (v : Json) → Placed p v (name_at p v)
name_placed p (json.string s) = tt
name_placed p v = here p v

names_placed : (p : List ℕ) (v : Json) (i : ℕ) (vs : Items) → Among v i vs → Placed p v (names_at p i vs)
names_placed p v i no_items a = tt
names_placed p v i (item u us) a =
    bind p v _ _ (within p v i u _ (among_head v i u us a) (name_placed (p ++ i ∷ []) u))
    (λ n. bind p v _ _ (names_placed p v (i + 1) us (among_next v i u us a)) (λ ns. tt))

columns_placed : (p : List ℕ) (v : Json) → Placed p v (columns_at p v)
columns_placed p (json.string s) = tt
columns_placed p (json.array (item v vs)) = names_placed p _ 0 (item v vs) (among_all (item v vs))
columns_placed p v = here p v

fields_placed : (p : List ℕ) (v : Json) (i : ℕ) (vs : Items) → Among v i vs → Placed p v (fields_at p i vs)
fields_placed p v i no_items a = tt
fields_placed p v i (item u us) a =
    bind p v _ _ (within p v i u _ (among_head v i u us a) (name_placed (p ++ i ∷ []) u))
    (λ n. bind p v _ _ (fields_placed p v (i + 1) us (among_next v i u us a)) (λ ns. tt))

left_placed : (p : List ℕ) (v : Json) → Placed p v (left_at p v)
left_placed p (json.string s) = tt
left_placed p (json.array (item v vs)) = fields_placed p _ 0 (item v vs) (among_all (item v vs))
left_placed p v = here p v

field_by : (p h : List ℕ) (v : Json) (w : FieldWord) → Placed p (json.array (item (json.string h) (item v no_items))) (field_arm p w v)
field_by p h v of_field.Parameter = bind p _ _ _ (within p _ 1 v _ refl (name_placed (p ++ 1 ∷ []) v)) (λ n. tt)
field_by p h v of_field.Fact = bind p _ _ _ (within p _ 1 v _ refl (name_placed (p ++ 1 ∷ []) v)) (λ n. tt)
field_by p h v of_field.Other = here p (json.array (item (json.string h) (item v no_items)))

field_placed : (p : List ℕ) (v : Json) → Placed p v (field_at p v)
field_placed p (json.string s) = tt
field_placed p (json.array (item (json.string h) (item v no_items))) = field_by p h v (field_word h)
field_placed p v = here p v

literal_placed : (p : List ℕ) (v : Json) → Placed p v (literal_at p v)
literal_placed p (json.string s) = tt
literal_placed p (json.number s) = tt
literal_placed p (json.boolean s) = tt
literal_placed p v = here p v

literals_placed : (p : List ℕ) (v : Json) (i : ℕ) (vs : Items) → Among v i vs → Placed p v (literals_at p i vs)
literals_placed p v i no_items a = tt
literals_placed p v i (item u us) a =
    bind p v _ _ (within p v i u _ (among_head v i u us a) (literal_placed (p ++ i ∷ []) u))
    (λ n. bind p v _ _ (literals_placed p v (i + 1) us (among_next v i u us a)) (λ ns. tt))

array_placed : (p : List ℕ) (v : Json) → Placed p v (array_at p v)
array_placed p (json.array (item v vs)) = literals_placed p _ 0 (item v vs) (among_all (item v vs))
array_placed p v = here p v

pattern_placed : (p : List ℕ) (v : Json) → Placed p v (pattern_at p v)
pattern_placed p (json.string s) = tt
pattern_placed p v = here p v

bool_placed : (p : List ℕ) (v : Json) → Placed p v (bool_at p v)
bool_placed p (json.boolean s) = tt
bool_placed p v = here p v

-- ---- what is shown

rows_placed : (p : List ℕ) (earlier : List Selected) (h f : List ℕ) (o : Option Function) → Placed p (json.array (item (json.string h) (item (json.string f) no_items))) (rows_at p earlier o)
rows_placed p earlier h f (Some Count) = either p _ (list_any (clashes selected.Rows) earlier) _ _ (here p (json.array (item (json.string h) (item (json.string f) no_items)))) tt
rows_placed p earlier h f (Some Sum) = within {A = Selected} p _ 1 (json.string f) (Err (p ++ 1 ∷ [])) refl (here (p ++ 1 ∷ []) (json.string f))
rows_placed p earlier h f (Some Min) = within {A = Selected} p _ 1 (json.string f) (Err (p ++ 1 ∷ [])) refl (here (p ++ 1 ∷ []) (json.string f))
rows_placed p earlier h f (Some Max) = within {A = Selected} p _ 1 (json.string f) (Err (p ++ 1 ∷ [])) refl (here (p ++ 1 ∷ []) (json.string f))
rows_placed p earlier h f None = within {A = Selected} p _ 1 (json.string f) (Err (p ++ 1 ∷ [])) refl (here (p ++ 1 ∷ []) (json.string f))

function_placed : (p : List ℕ) (earlier : List Selected) (h f : List ℕ) (o : Option Function) (v : Json) → Placed p (json.array (item (json.string h) (item (json.string f) (item v no_items)))) (function_at p earlier o v)
function_placed p earlier h f None v = within {A = Selected} p _ 1 (json.string f) (Err (p ++ 1 ∷ [])) refl (here (p ++ 1 ∷ []) (json.string f))
function_placed p earlier h f (Some g) v =
    either p _ (list_any (clashes (selected.Function g (name [] p))) earlier) _ _
    (here p (json.array (item (json.string h) (item (json.string f) (item v no_items)))))
    (bind p _ _ _ (within p _ 2 v _ refl (name_placed (p ++ 2 ∷ []) v)) (λ n. tt))

form_placed : (p : List ℕ) (earlier : List Selected) (h : List ℕ) (vs : Items) → Placed p (json.array (item (json.string h) vs)) (function_form p earlier vs)
form_placed p earlier h (item (json.string f) no_items) = rows_placed p earlier h f (function_named f)
form_placed p earlier h (item (json.string f) (item v no_items)) = function_placed p earlier h f (function_named f) v
form_placed p earlier h (item v no_items) = within {A = Selected} p _ 1 v (Err (p ++ 1 ∷ [])) refl (here (p ++ 1 ∷ []) v)
form_placed p earlier h (item v (item w no_items)) = within {A = Selected} p _ 1 v (Err (p ++ 1 ∷ [])) refl (here (p ++ 1 ∷ []) v)
form_placed p earlier h vs = here p (json.array (item (json.string h) vs))

selected_placed : (p : List ℕ) (earlier : List Selected) (v : Json) → Placed p v (selected_at p earlier v)
selected_placed p earlier (json.string s) = either p _ (list_any (clashes (selected.Column (name s p))) earlier) _ _ (here p (json.string s)) tt
selected_placed p earlier (json.array (item (json.string h) vs)) =
    either p _ (bytes_eq h (codes "function")) _ _ (form_placed p earlier h vs) (here p (json.array (item (json.string h) vs)))
selected_placed p earlier v = here p v

selection_placed : (p : List ℕ) (v : Json) (i : ℕ) (earlier : List Selected) (vs : Items) → Among v i vs → Placed p v (selection_at p i earlier vs)
selection_placed p v i earlier no_items a = tt
selection_placed p v i earlier (item u us) a =
    bind p v _ _ (within p v i u _ (among_head v i u us a) (selected_placed (p ++ i ∷ []) earlier u))
    (λ s. selection_placed p v (i + 1) (earlier ++ s ∷ []) us (among_next v i u us a))

shown_placed : (p : List ℕ) (v : Json) → Placed p v (shown_at p v)
shown_placed p (json.string s) = tt
shown_placed p (json.array (item v vs)) = selection_placed p _ 0 [] (item v vs) (among_all (item v vs))
shown_placed p v = here p v

group_placed : (p : List ℕ) (v : Json) → Placed p v (group_at p v)
group_placed p (json.array (item (json.string h) (item v vs))) =
    either p _ (bytes_eq h (codes "group_by")) _ _
    (names_placed p _ 1 (item v vs) (behind_one (json.string h) (item v vs))) (here p (json.array (item (json.string h) (item v vs))))
group_placed p v = here p v

-- ---- paging

count_placed : (p : List ℕ) (v : Json) → Placed p v (count_at p v)
count_placed p (json.number s) =
    either p _ (are_digits s) _ _ (either p _ (nat_lt (digits_value 10 s) 9223372036854775808) _ _ tt (here p (json.number s)))
    (here p (json.number s))
count_placed p v = here p v

descends_placed : (p : List ℕ) (v : Json) → Placed p v (descends_at p v)
descends_placed p (json.string s) =
    either p _ (bytes_eq s (codes "asc")) _ _ tt (either p _ (bytes_eq s (codes "desc")) _ _ tt (here p (json.string s)))
descends_placed p v = here p v

order_placed : (p : List ℕ) (v : Json) → Placed p v (order_at p v)
order_placed p (json.string s) = tt
order_placed p (json.array (item c (item d no_items))) =
    bind p _ _ _ (within p _ 0 c _ refl (name_placed (p ++ 0 ∷ []) c))
    (λ n. bind p _ _ _ (within p _ 1 d _ refl (descends_placed (p ++ 1 ∷ []) d)) (λ d. tt))
order_placed p v = here p v

orders_placed : (p : List ℕ) (v : Json) (i : ℕ) (vs : Items) → Among v i vs → Placed p v (orders_at p i vs)
orders_placed p v i no_items a = tt
orders_placed p v i (item u us) a =
    bind p v _ _ (within p v i u _ (among_head v i u us a) (order_placed (p ++ i ∷ []) u))
    (λ n. bind p v _ _ (orders_placed p v (i + 1) us (among_next v i u us a)) (λ ns. tt))

order_list_placed : (p : List ℕ) (v : Json) → Placed p v (order_list_at p v)
order_list_placed p (json.array (item v vs)) = orders_placed p _ 0 (item v vs) (among_all (item v vs))
order_list_placed p v = here p v

part_by : (p h : List ℕ) (g : Paging) (v : Json) (w : PartWord) → Placed p (json.array (item (json.string h) (item v no_items))) (part_arm p w g v)
part_by p h g v of_part.Limit =
    either p _ (is_some g.limit) _ _ (here p (json.array (item (json.string h) (item v no_items))))
    (bind p _ _ _ (within p _ 1 v _ refl (count_placed (p ++ 1 ∷ []) v)) (λ n. tt))
part_by p h g v of_part.Offset =
    either p _ (is_some g.offset) _ _ (here p (json.array (item (json.string h) (item v no_items))))
    (bind p _ _ _ (within p _ 1 v _ refl (count_placed (p ++ 1 ∷ []) v)) (λ n. tt))
part_by p h g v of_part.OrderBy =
    either p _ (is_empty g.order) _ _ (bind p _ _ _ (within p _ 1 v _ refl (order_list_placed (p ++ 1 ∷ []) v)) (λ n. tt))
    (here p (json.array (item (json.string h) (item v no_items))))
part_by p h g v of_part.Extract = here p (json.array (item (json.string h) (item v no_items)))
part_by p h g v of_part.Other = here p (json.array (item (json.string h) (item v no_items)))

paged_placed : (p : List ℕ) (g : Paging) (v : Json) → Placed p v (paged_at p g v)
paged_placed p g (json.array (item (json.string h) (item v no_items))) = part_by p h g v (part_word h)
paged_placed p g v = here p v

paging_placed : (p : List ℕ) (v : Json) (i : ℕ) (g : Paging) (vs : Items) → Among v i vs → Placed p v (paging_at p i g vs)
paging_placed p v i g no_items a = tt
paging_placed p v i g (item u us) a =
    bind p v _ _ (within p v i u _ (among_head v i u us a) (paged_placed (p ++ i ∷ []) g u))
    (λ g. paging_placed p v (i + 1) g us (among_next v i u us a))

-- ---- filters

compared_placed : (o : Op) (p h : List ℕ) (vs : Items) → Placed p (json.array (item (json.string h) vs)) (compared_at o p vs)
compared_placed o p h (item f (item l no_items)) =
    bind p _ _ _ (within p _ 1 f _ refl (field_placed (p ++ 1 ∷ []) f))
    (λ f. bind p _ _ _ (within p _ 2 l _ refl (literal_placed (p ++ 2 ∷ []) l)) (λ l. tt))
compared_placed o p h vs = here p (json.array (item (json.string h) vs))

matched_placed : (p h : List ℕ) (vs : Items) → Placed p (json.array (item (json.string h) vs)) (matched_at p vs)
matched_placed p h (item f (item l no_items)) =
    bind p _ _ _ (within p _ 1 f _ refl (field_placed (p ++ 1 ∷ []) f))
    (λ f. bind p _ _ _ (within p _ 2 l _ refl (pattern_placed (p ++ 2 ∷ []) l)) (λ l. tt))
matched_placed p h vs = here p (json.array (item (json.string h) vs))

null_placed : (p h : List ℕ) (vs : Items) → Placed p (json.array (item (json.string h) vs)) (null_at p vs)
null_placed p h (item f (item l no_items)) =
    bind p _ _ _ (within p _ 1 f _ refl (field_placed (p ++ 1 ∷ []) f))
    (λ f. bind p _ _ _ (within p _ 2 l _ refl (bool_placed (p ++ 2 ∷ []) l)) (λ l. tt))
null_placed p h vs = here p (json.array (item (json.string h) vs))

entity_placed : (p : List ℕ) (v : Json) (o : Option (List ℕ)) → Placed p v (entity_behind p o)
entity_placed p v (Some e) = tt
entity_placed p v None = here p v

-- what a filter at depth d makes of its word, where each kind of what follows has its faults there
record Behind (d : ℕ) (p h : List ℕ) (vs : Items) : Type 0 where
  some : Placed p (json.array (item (json.string h) vs)) (some_at d p vs)
  one : Placed p (json.array (item (json.string h) vs)) (one_at d p vs)
  among : Placed p (json.array (item (json.string h) vs)) (in_at d p vs)
  sub : Placed p (json.array (item (json.string h) vs)) (subquery_at d p vs)

filter_by : (d : ℕ) (p h : List ℕ) (vs : Items) (w : FilterWord) → Behind (d + 1) p h vs → Placed p (json.array (item (json.string h) vs)) (filter_arm d p w vs)
filter_by d p h vs of_filter.And b = bind p _ _ _ b.some (λ fs. tt)
filter_by d p h vs of_filter.Or b = bind p _ _ _ b.some (λ fs. tt)
filter_by d p h vs of_filter.Not b = bind p _ _ _ b.one (λ fs. tt)
filter_by d p h vs (of_filter.Compare o) b = compared_placed o p h vs
filter_by d p h vs of_filter.Matches b = matched_placed p h vs
filter_by d p h vs of_filter.IsNull b = null_placed p h vs
filter_by d p h vs of_filter.In b = b.among
filter_by d p h vs of_filter.Subquery b = b.sub
filter_by d p h vs of_filter.Other b = here p (json.array (item (json.string h) vs))

listed_placed : (p h : List ℕ) (fs : List Field) (vs : Items) → Placed p (json.array (item (json.string h) vs)) (listed_at p fs vs)
listed_placed p h fs (item v no_items) = bind p _ _ _ (within p _ 1 v _ refl (array_placed (p ++ 1 ∷ []) v)) (λ ls. tt)
listed_placed p h fs vs = here p (json.array (item (json.string h) vs))

inner_by : (d : ℕ) (p h : List ℕ) (fs : List Field) (vs : Items) (w : InnerWord) → Placed p (json.array (item (json.string h) vs)) (select_at d p vs) → Placed p (json.array (item (json.string h) vs)) (query_within d p vs) → Placed p (json.array (item (json.string h) vs)) (inner_arm d p fs w vs)
inner_by d p h fs vs of_inner.Array s q = listed_placed p h fs vs
inner_by d p h fs vs of_inner.Extract s q = bind p _ _ _ s (λ q. tt)
inner_by d p h fs vs of_inner.From s q = bind p _ _ _ q (λ q. tt)
inner_by d p h fs vs of_inner.Other s q = here p (json.array (item (json.string h) vs))

mutual
  filter_placed : (d : ℕ) (p : List ℕ) (v : Json) → Placed p v (filter_at d p v)
  filter_placed d p (json.array (item (json.string h) vs)) =
      filter_by d p h vs (word_at d h) (record {
        some = some_placed (d + 1) p h vs;
        one = one_placed (d + 1) p h vs;
        among = in_placed (d + 1) p h vs;
        sub = subquery_placed (d + 1) p h vs;
      })
  filter_placed d p v = here p v

  filters_placed : (d : ℕ) (p : List ℕ) (v : Json) (i : ℕ) (vs : Items) → Among v i vs → Placed p v (filters_at d p i vs)
  filters_placed d p v i no_items a = tt
  filters_placed d p v i (item u us) a =
      bind p v _ _ (within p v i u _ (among_head v i u us a) (filter_placed d (p ++ i ∷ []) u))
      (λ f. bind p v _ _ (filters_placed d p v (i + 1) us (among_next v i u us a)) (λ fs. tt))

  some_placed : (d : ℕ) (p h : List ℕ) (vs : Items) → Placed p (json.array (item (json.string h) vs)) (some_at d p vs)
  some_placed d p h no_items = here p (json.array (item (json.string h) no_items))
  some_placed d p h (item u us) =
      bind p _ _ _ (within p _ 1 u _ refl (filter_placed d (p ++ 1 ∷ []) u))
      (λ f. bind p _ _ _ (filters_placed d p _ 2 us (behind_two (json.string h) u us)) (λ fs. tt))

  one_placed : (d : ℕ) (p h : List ℕ) (vs : Items) → Placed p (json.array (item (json.string h) vs)) (one_at d p vs)
  one_placed d p h (item u no_items) = within p _ 1 u _ refl (filter_placed d (p ++ 1 ∷ []) u)
  one_placed d p h vs = here p (json.array (item (json.string h) vs))

  in_placed : (d : ℕ) (p h : List ℕ) (vs : Items) → Placed p (json.array (item (json.string h) vs)) (in_at d p vs)
  in_placed d p h (item c (item v no_items)) =
      bind p _ _ _ (within p _ 1 c _ refl (left_placed (p ++ 1 ∷ []) c))
      (λ fs. within p _ 2 v _ refl (inner_placed d (p ++ 2 ∷ []) fs v))
  in_placed d p h vs = here p (json.array (item (json.string h) vs))

  inner_placed : (d : ℕ) (p : List ℕ) (fs : List Field) (v : Json) → Placed p v (inner_at d p fs v)
  inner_placed d p fs (json.array (item (json.string h) vs)) =
      inner_by d p h fs vs (inner_word h) (select_placed d p h vs) (within_placed d p h vs)
  inner_placed d p fs v = here p v

  select_placed : (d : ℕ) (p h : List ℕ) (vs : Items) → Placed p (json.array (item (json.string h) vs)) (select_at d p vs)
  select_placed d p h (item c (item v no_items)) =
      bind p _ _ _ (within p _ 1 c _ refl (columns_placed (p ++ 1 ∷ []) c))
      (λ cs. within p _ 2 v _ refl (rows_of_placed d (p ++ 2 ∷ []) cs v))
  select_placed d p h vs = here p (json.array (item (json.string h) vs))

  rows_of_placed : (d : ℕ) (p : List ℕ) (cs : List Name) (v : Json) → Placed p v (rows_of_at d p cs v)
  rows_of_placed d p cs (json.array (item (json.string s) no_items)) =
      bind p _ _ _ (entity_placed p (json.array (item (json.string s) no_items)) (behind_select s)) (λ e. tt)
  rows_of_placed d p cs (json.array (item (json.string s) (item f no_items))) =
      bind p _ _ _ (entity_placed p (json.array (item (json.string s) (item f no_items))) (behind_select s))
      (λ e. bind p _ _ _ (within p _ 1 f _ refl (filter_placed d (p ++ 1 ∷ []) f)) (λ f. tt))
  rows_of_placed d p cs v = here p v

  subquery_placed : (d : ℕ) (p h : List ℕ) (vs : Items) → Placed p (json.array (item (json.string h) vs)) (subquery_at d p vs)
  subquery_placed d p h (item e no_items) = bind p _ _ _ (within p _ 1 e _ refl (name_placed (p ++ 1 ∷ []) e)) (λ e. tt)
  subquery_placed d p h (item e (item f no_items)) =
      bind p _ _ _ (within p _ 1 e _ refl (name_placed (p ++ 1 ∷ []) e))
      (λ e. bind p _ _ _ (within p _ 2 f _ refl (filter_placed d (p ++ 2 ∷ []) f)) (λ f. tt))
  subquery_placed d p h vs = here p (json.array (item (json.string h) vs))

  extract_placed : (d : ℕ) (p : List ℕ) (v : Json) → Placed p v (extract_at d p v)
  extract_placed d p (json.array (item (json.string h) vs)) =
      either p _ (bytes_eq h (codes "extract")) _ _ (extracted_placed d p h vs) (here p (json.array (item (json.string h) vs)))
  extract_placed d p v = here p v

  extracted_placed : (d : ℕ) (p h : List ℕ) (vs : Items) → Placed p (json.array (item (json.string h) vs)) (extracted_at d p vs)
  extracted_placed d p h (item s no_items) = bind p _ _ _ (within p _ 1 s _ refl (shown_placed (p ++ 1 ∷ []) s)) (λ s. tt)
  extracted_placed d p h (item s (item v no_items)) =
      bind p _ _ _ (within p _ 1 s _ refl (shown_placed (p ++ 1 ∷ []) s))
      (λ s. either p _ (is_group v) _ _
      (bind p _ _ _ (within p _ 2 v _ refl (group_placed (p ++ 2 ∷ []) v)) (λ g. tt))
      (bind p _ _ _ (within p _ 2 v _ refl (filter_placed d (p ++ 2 ∷ []) v)) (λ f. tt)))
  extracted_placed d p h (item s (item f (item g no_items))) =
      bind p _ _ _ (within p _ 1 s _ refl (shown_placed (p ++ 1 ∷ []) s))
      (λ s. bind p _ _ _ (within p _ 2 f _ refl (filter_placed d (p ++ 2 ∷ []) f))
      (λ f. bind p _ _ _ (within p _ 3 g _ refl (group_placed (p ++ 3 ∷ []) g)) (λ g. tt)))
  extracted_placed d p h vs = here p (json.array (item (json.string h) vs))

  within_placed : (d : ℕ) (p h : List ℕ) (vs : Items) → Placed p (json.array (item (json.string h) vs)) (query_within d p vs)
  within_placed d p h (item e (item x vs)) =
      bind p _ _ _ (within p _ 1 e _ refl (name_placed (p ++ 1 ∷ []) e))
      (λ e1. bind p _ _ _ (within p _ 2 x _ refl (extract_placed d (p ++ 2 ∷ []) x))
      (λ x1. bind p _ _ _ (paging_placed p _ 3 unpaged vs (behind_three (json.string h) e x vs)) (λ g. tt)))
  within_placed d p h vs = here p (json.array (item (json.string h) vs))

-- ---- whole queries

body_by : (h : List ℕ) (n : Json) (e : Name) (v : Json) (vs : Items) (w : PartWord) → Placed [] (json.array (item (json.string h) (item n (item v vs)))) (body_arm [] e w v vs)
body_by h n e v vs of_part.Extract =
    bind [] _ _ _ (within [] _ 2 v _ refl (extract_placed 1 (2 ∷ []) v))
    (λ x. bind [] _ _ _ (paging_placed [] _ 3 unpaged vs (behind_three (json.string h) n v vs)) (λ g. tt))
body_by h n e v vs of_part.Other =
    bind [] _ _ _ (within [] _ 2 v _ refl (filter_placed 1 (2 ∷ []) v))
    (λ x. bind [] _ _ _ (paging_placed [] _ 3 unpaged vs (behind_three (json.string h) n v vs)) (λ g. tt))
body_by h n e v vs of_part.Limit = bind [] _ _ _ (paging_placed [] _ 2 unpaged (item v vs) (behind_two (json.string h) n (item v vs))) (λ g. tt)
body_by h n e v vs of_part.Offset = bind [] _ _ _ (paging_placed [] _ 2 unpaged (item v vs) (behind_two (json.string h) n (item v vs))) (λ g. tt)
body_by h n e v vs of_part.OrderBy = bind [] _ _ _ (paging_placed [] _ 2 unpaged (item v vs) (behind_two (json.string h) n (item v vs))) (λ g. tt)

body_placed : (h : List ℕ) (n : Json) (e : Name) (vs : Items) → Placed [] (json.array (item (json.string h) (item n vs))) (body_at [] e vs)
body_placed h n e no_items = tt
body_placed h n e (item v vs) = body_by h n e v vs (word_of v)

query_placed : (v : Json) → Placed [] v (query v)
query_placed (json.array (item (json.string h) (item e vs))) =
    either [] _ (bytes_eq h (codes "from")) _ _
    (bind [] _ _ _ (within [] _ 1 e _ refl (name_placed (1 ∷ []) e)) (λ n. body_placed h e n vs))
    (here [] (json.array (item (json.string h) (item e vs))))
query_placed v = here [] v

route_by : (e : Name) (v : Json) (w : PartWord) → Placed [] v (route_arm e [] w v)
route_by e v of_part.Extract = bind [] v _ _ (extract_placed 1 [] v) (λ x. tt)
route_by e v of_part.Other = bind [] v _ _ (filter_placed 1 [] v) (λ x. tt)
route_by e v of_part.Limit = bind [] v _ _ (filter_placed 1 [] v) (λ x. tt)
route_by e v of_part.Offset = bind [] v _ _ (filter_placed 1 [] v) (λ x. tt)
route_by e v of_part.OrderBy = bind [] v _ _ (filter_placed 1 [] v) (λ x. tt)

told : (v : Json) (r : Read Level) (p : List ℕ) → Placed [] v r → r ≡ Err p → IsPlaceIn v p
told v (Ok q) p h e = absurd (let apart : Ok q ≡ Err p = e in cc)
told v (Err q) p h e =
    let same : q ≡ p = cc in
    subst (IsPlaceIn v) (sym h.1 ∙ same) h.2

pub faults_stand_in_the_value : FaultsStandInTheValue
faults_stand_in_the_value v p e = told v (query v) p (query_placed v) e

pub faults_of_routes_stand_in_the_value : FaultsOfRoutesStandInTheValue
faults_of_routes_stand_in_the_value e v p h = told v (route_at e [] v) p (route_by e v (word_of v)) h
