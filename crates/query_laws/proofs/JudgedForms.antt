-- The first value that no form allows is told, form by form.
use Rattle.std.proofs.Common.{◌≡◌, ◌∙◌, ℕ, ◌+◌, List, [], ◌∷◌, ◌++◌, Bool, true, false, Option, Some, None, Ok, Err, refl, sym, ap, subst, map, if◌then◌else◌}
use Rattle.std.specs.Prelude.{◌&&◌, ◌||◌, not, nat_lt, is_some, codes}
use Rattle.std.specs.List.{list_any}
use Rattle.std.specs.Str.{bytes_eq}
use Rattle.std.specs.Str.Parse.{digits_value}
use Rattle.json_machine.proofs.of_plain_laws.Booleans.{or_right}
use Rattle.json_machine.specs.text_spec.Json as json
use Rattle.json_machine.specs.text_spec.Json.{Json, Items, no_items, item}
use Rattle.query_spec.specs.declared.parts.Field.{Field}
use Rattle.query_spec.specs.declared.parts.Field.TheVariants as field
use Rattle.query_spec.specs.declared.parts.Function.{Function}
use Rattle.query_spec.specs.declared.parts.Function.TheVariants.{Count, Sum, Min, Max}
use Rattle.query_spec.specs.declared.parts.Name.{Name}
use Rattle.query_spec.specs.declared.parts.Op.{Op}
use Rattle.query_spec.specs.declared.parts.Order.{Order}
use Rattle.query_spec.specs.declared.parts.Paging.{Paging}
use Rattle.query_spec.specs.declared.parts.Selected.{Selected}
use Rattle.query_spec.specs.declared.parts.Selected.TheVariants as selected
use Rattle.query_spec.specs.declared.words.FieldWord.{FieldWord}
use Rattle.query_spec.specs.declared.words.FieldWord.TheVariants as of_field
use Rattle.query_spec.specs.declared.words.FilterWord.{FilterWord}
use Rattle.query_spec.specs.declared.words.FilterWord.TheVariants as of_filter
use Rattle.query_spec.specs.declared.words.InnerWord.{InnerWord}
use Rattle.query_spec.specs.declared.words.InnerWord.TheVariants as of_inner
use Rattle.query_spec.specs.declared.words.PartWord.{PartWord}
use Rattle.query_spec.specs.declared.words.PartWord.TheVariants as of_part
use Rattle.query_spec.specs.Answer.{query}
use Rattle.query_spec.specs.Ast.{Read, ◌>>=◌, name_at, names_at, columns_at, fields_at, left_at, field_at, literal_at, literals_at, array_at, pattern_at, bool_at, rows_at, function_at, function_form, selected_at, selection_at, shown_at, group_at, count_at, descends_at, order, order_at, orders_at, order_list_at, is_empty, with_limit, with_offset, with_order, paging_at, word_at, word_of, compared_at, matched_at, null_at, entity_behind, is_group, extract, filter_at, filters_at, some_at, one_at, in_at, inner_at, listed_at, select_at, rows_of_at, subquery_at, extract_at, extracted, extracted_at, query_within, body_at, route_at}
use Rattle.query_spec.specs.Check.{Place}
use Rattle.query_spec.specs.Parts.{name, field_named, output_name, is_function, clashes, unpaged, are_digits}
use Rattle.query_spec.specs.Query.{compare, matches, is_null, in_list, in_level, subquery, negation, all_of, any_of, filters_of, no_clause, clause, Level, level}
use Rattle.query_spec.specs.Words.{inner_word, part_word, field_word, function_named, function_name, behind_select}
use Rattle.query_laws.specs.Faults.{IsFirst}
use Rattle.query_laws.specs.Grammar.{ShownForm, column, rows, applied, shown_value, shown_meaning}
use Rattle.query_laws.specs.Laws.{FirstRefusalsAreTold, FirstRefusalsOfRoutesAreTold}
use Rattle.query_laws.specs.Refused as kind
use Rattle.query_laws.specs.Refused.{Kind, anything, each, some, one, two, outputs, parts, Named, unnamed, named, counted, name_of, are_alike, is_output_twice, same_part, is_part_twice, field_elements, filter_elements, of_filter_at, extract_elements, of_extract, of_group, inner_elements, select_elements, output_elements, paged_elements, part_elements, body_elements, route_elements, is_function_word, unless, when, elements, IsRefused, told}
use Rattle.query_laws.proofs.Arms.{field_arm, part_arm, filter_arm, inner_arm, body_arm, route_arm}
use Rattle.query_laws.proofs.FirstPlaces.{IsIn, IsFrom, Sits, mapped}
use Rattle.query_laws.proofs.Judged.{Bad, BadFrom, Judged, JudgedFrom, refused, allowed, listed, no_more, reads, headed, last_of, then_ok, renamed}
use Rattle.query_laws.proofs.Parted.{function_known}
use Rattle.query_laws.proofs.Told.{bound, gave}
use Rattle.query_laws.proofs.ToldParts.{selected_told}

-- ---- values without elements

name_judged : (p : Place) (v : Json) → Judged p kind.text v (name_at p v)
name_judged p (json.string s) = allowed p kind.text (json.string s) refl
name_judged p v = refused p kind.text v refl

pattern_judged : (p : Place) (v : Json) → Judged p kind.text v (pattern_at p v)
pattern_judged p (json.string s) = allowed p kind.text (json.string s) refl
pattern_judged p v = refused p kind.text v refl

bool_judged : (p : Place) (v : Json) → Judged p kind.boolean v (bool_at p v)
bool_judged p (json.boolean b) = allowed p kind.boolean (json.boolean b) refl
bool_judged p v = refused p kind.boolean v refl

literal_judged : (p : Place) (v : Json) → Judged p kind.literal v (literal_at p v)
literal_judged p (json.string s) = allowed p kind.literal (json.string s) refl
literal_judged p (json.number s) = allowed p kind.literal (json.number s) refl
literal_judged p (json.boolean b) = allowed p kind.literal (json.boolean b) refl
literal_judged p v = refused p kind.literal v refl

count_by : (p : Place) (s : List ℕ) (a b : Bool) → are_digits s ≡ a → nat_lt (digits_value 10 s) 9223372036854775808 ≡ b
    → Judged p kind.count (json.number s) (if a then (if b then Ok (digits_value 10 s) else Err p) else Err p)
count_by p s true true d e = allowed p kind.count (json.number s) (λ i. when (d i && e i))
count_by p s true false d e = refused p kind.count (json.number s) (λ i. when (d i && e i))
count_by p s false true d e = refused p kind.count (json.number s) (λ i. when (d i && e i))
count_by p s false false d e = refused p kind.count (json.number s) (λ i. when (d i && e i))

count_judged : (p : Place) (v : Json) → Judged p kind.count v (count_at p v)
count_judged p (json.number s) = count_by p s (are_digits s) (nat_lt (digits_value 10 s) 9223372036854775808) refl refl
count_judged p v = refused p kind.count v refl

direction_by : (p : Place) (s : List ℕ) (a b : Bool) → bytes_eq s (codes "asc") ≡ a → bytes_eq s (codes "desc") ≡ b
    → Judged p kind.direction (json.string s) (if a then Ok false else (if b then Ok true else Err p))
direction_by p s true true d e = allowed p kind.direction (json.string s) (λ i. when (d i || e i))
direction_by p s true false d e = allowed p kind.direction (json.string s) (λ i. when (d i || e i))
direction_by p s false true d e = allowed p kind.direction (json.string s) (λ i. when (d i || e i))
direction_by p s false false d e = refused p kind.direction (json.string s) (λ i. when (d i || e i))

direction_judged : (p : Place) (v : Json) → Judged p kind.direction v (descends_at p v)
direction_judged p (json.string s) = direction_by p s (bytes_eq s (codes "asc")) (bytes_eq s (codes "desc")) refl refl
direction_judged p v = refused p kind.direction v refl

-- ---- lists of them

names_judged : (p : Place) (i : ℕ) (vs : Items) → JudgedFrom p i (each kind.text vs) vs (names_at p i vs)
names_judged p i no_items = no_more p i no_items
names_judged p i (item v vs) =
    reads p i kind.text v (each kind.text vs) vs (name_at (p ++ i ∷ []) v) _ (name_judged (p ++ i ∷ []) v)
    (λ n e. then_ok (names_at p (i + 1) vs) (λ ns. n ∷ ns) (names_judged p (i + 1) vs))

columns_judged : (p : Place) (v : Json) → Judged p kind.columns v (columns_at p v)
columns_judged p (json.string s) = allowed p kind.columns (json.string s) refl
columns_judged p (json.array (item v vs)) = listed p kind.columns (item v vs) (each kind.text (item v vs)) refl (names_judged p 0 (item v vs))
columns_judged p v = refused p kind.columns v refl

fields_judged : (p : Place) (i : ℕ) (vs : Items) → JudgedFrom p i (each kind.text vs) vs (fields_at p i vs)
fields_judged p i no_items = no_more p i no_items
fields_judged p i (item v vs) =
    reads p i kind.text v (each kind.text vs) vs (name_at (p ++ i ∷ []) v) _ (name_judged (p ++ i ∷ []) v)
    (λ n e. then_ok (fields_at p (i + 1) vs) (λ fs. field_named n ∷ fs) (fields_judged p (i + 1) vs))

left_judged : (p : Place) (v : Json) → Judged p kind.columns v (left_at p v)
left_judged p (json.string s) = allowed p kind.columns (json.string s) refl
left_judged p (json.array (item v vs)) = listed p kind.columns (item v vs) (each kind.text (item v vs)) refl (fields_judged p 0 (item v vs))
left_judged p v = refused p kind.columns v refl

field_few : (w : FieldWord) (vs : Items) → one kind.text vs ≡ None → field_elements w vs ≡ None
field_few of_field.Parameter vs e = e
field_few of_field.Fact vs e = e
field_few of_field.Other vs e = refl

field_by : (p : Place) (h : List ℕ) (v : Json) (w : FieldWord) → field_word h ≡ w → Judged p kind.field (json.array (item (json.string h) (item v no_items))) (field_arm p w v)
field_by p h v of_field.Parameter e =
    listed p kind.field (item (json.string h) (item v no_items)) (anything ∷ kind.text ∷ []) (ap (λ w. field_elements w (item v no_items)) e)
    (headed p (json.string h) (kind.text ∷ []) (item v no_items)
    (last_of p 1 kind.text v (then_ok (name_at (p ++ 1 ∷ []) v) field.Parameter (name_judged (p ++ 1 ∷ []) v))))
field_by p h v of_field.Fact e =
    listed p kind.field (item (json.string h) (item v no_items)) (anything ∷ kind.text ∷ []) (ap (λ w. field_elements w (item v no_items)) e)
    (headed p (json.string h) (kind.text ∷ []) (item v no_items)
    (last_of p 1 kind.text v (then_ok (name_at (p ++ 1 ∷ []) v) field.Fact (name_judged (p ++ 1 ∷ []) v))))
field_by p h v of_field.Other e = refused p kind.field (json.array (item (json.string h) (item v no_items))) (ap (λ w. field_elements w (item v no_items)) e)

field_judged : (p : Place) (v : Json) → Judged p kind.field v (field_at p v)
field_judged p (json.string s) = allowed p kind.field (json.string s) refl
field_judged p (json.array (item (json.string h) (item v no_items))) = field_by p h v (field_word h) refl
field_judged p (json.array (item (json.string h) no_items)) = refused p kind.field (json.array (item (json.string h) no_items)) (field_few (field_word h) no_items refl)
field_judged p (json.array (item (json.string h) (item v (item w vs)))) =
    refused p kind.field (json.array (item (json.string h) (item v (item w vs)))) (field_few (field_word h) (item v (item w vs)) refl)
field_judged p v = refused p kind.field v refl

literals_judged : (p : Place) (i : ℕ) (vs : Items) → JudgedFrom p i (each kind.literal vs) vs (literals_at p i vs)
literals_judged p i no_items = no_more p i no_items
literals_judged p i (item v vs) =
    reads p i kind.literal v (each kind.literal vs) vs (literal_at (p ++ i ∷ []) v) _ (literal_judged (p ++ i ∷ []) v)
    (λ l e. then_ok (literals_at p (i + 1) vs) (λ ls. l ∷ ls) (literals_judged p (i + 1) vs))

array_judged : (p : Place) (v : Json) → Judged p kind.literals v (array_at p v)
array_judged p (json.array (item v vs)) = listed p kind.literals (item v vs) (each kind.literal (item v vs)) refl (literals_judged p 0 (item v vs))
array_judged p v = refused p kind.literals v refl

-- ---- what is shown

unless_none : (b : Bool) → unless b None ≡ None
unless_none true = refl
unless_none false = refl

-- outputs that were read, and the values that they were read from
abbrev AreNamedAlike : List Json → List Selected → Type 0
AreNamedAlike [] [] = Unit {0}
AreNamedAlike [] (x ∷ xs) = ⊥
AreNamedAlike (v ∷ es) [] = ⊥
AreNamedAlike (v ∷ es) (x ∷ xs) = (name_of v ≡ named (output_name x) (is_function x)) × AreNamedAlike es xs

alike_more : (es : List Json) (xs : List Selected) (v : Json) (x : Selected) → AreNamedAlike es xs → name_of v ≡ named (output_name x) (is_function x) → AreNamedAlike (es ++ v ∷ []) (xs ++ x ∷ [])
alike_more [] [] v x h e = (e, tt)
alike_more [] (y ∷ xs) v x h e = absurd h
alike_more (w ∷ es) [] v x h e = absurd h
alike_more (w ∷ es) (y ∷ xs) v x h e = (h.0, alike_more es xs v x h.1 e)

twice_same : (x : Selected) (v : Json) → name_of v ≡ named (output_name x) (is_function x) → (es : List Json) (xs : List Selected) → AreNamedAlike es xs → is_output_twice v es ≡ list_any (clashes x) xs
twice_same x v e [] [] h = refl
twice_same x v e [] (y ∷ xs) h = absurd h
twice_same x v e (w ∷ es) [] h = absurd h
twice_same x v e (w ∷ es) (y ∷ xs) h = λ i. are_alike (e i) (h.0 i) || twice_same x v e es xs h.1 i

-- what has no name stands nowhere twice
never_twice : (v : Json) → name_of v ≡ unnamed → (es : List Json) → is_output_twice v es ≡ false
never_twice v e [] = refl
never_twice v e (w ∷ es) = λ i. are_alike (e i) (name_of w) || never_twice v e es i

once : (p : Place) (es : List Json) (v : Json) (c : Bool) (r : Read Selected) → is_output_twice v es ≡ c → (elements (kind.output es) v ≡ output_elements v → Judged p (kind.output es) v r) → Judged p (kind.output es) v (if c then Err p else r)
once p es v true r e h = refused p (kind.output es) v (ap (λ b. unless b (output_elements v)) e)
once p es v false r e h = h (ap (λ b. unless b (output_elements v)) e)

no_output : (p : Place) (es : List Json) (v : Json) → output_elements v ≡ None → Sits (IsIn p) (Some p) (Bad p (kind.output es) v)
no_output p es v e = refused p (kind.output es) v (ap (unless (is_output_twice v es)) e ∙ unless_none (is_output_twice v es))

-- the value ["function", f] and the value ["function", f, C]
abbrev short : List ℕ → Json → Json
short h f = json.array (item (json.string h) (item f no_items))

abbrev long : List ℕ → Json → Json → Json
long h f v = json.array (item (json.string h) (item f (item v no_items)))

-- its function's name is judged
short_with : (p : Place) (es : List Json) (h : List ℕ) (f : Json) {o : Option Place} → bytes_eq h (codes "function") ≡ true → elements (kind.output es) (short h f) ≡ output_elements (short h f)
    → Sits (IsIn (p ++ 1 ∷ [])) o (Bad (p ++ 1 ∷ []) (kind.function_word true) f) → Sits (IsIn p) o (Bad p (kind.output es) (short h f))
short_with p es h f b e j =
    listed p (kind.output es) (item (json.string h) (item f no_items)) (anything ∷ kind.function_word true ∷ [])
    (e ∙ ap (λ b. if b then Some (anything ∷ kind.function_word true ∷ []) else None) b)
    (headed p (json.string h) (kind.function_word true ∷ []) (item f no_items) (last_of p 1 (kind.function_word true) f j))

not_twice : (es : List Json) (v : Json) → name_of v ≡ unnamed → elements (kind.output es) v ≡ output_elements v
not_twice es v e = ap (λ b. unless b (output_elements v)) (never_twice v e es)

rows_judged : (p : Place) (es : List Json) (xs : List Selected) (h f : List ℕ) (o : Option Function) → AreNamedAlike es xs → bytes_eq h (codes "function") ≡ true → function_named f ≡ o
    → Judged p (kind.output es) (short h (json.string f)) (rows_at p xs o)
rows_judged p es xs h f (Some Count) a b e =
    let v = short h (json.string f) in
    let is_named : name_of v ≡ named (function_name Count) true = λ i. if b i then counted (e i) else unnamed in
    once p es v (list_any (clashes selected.Rows) xs) (Ok selected.Rows) (twice_same selected.Rows v is_named es xs a)
    (λ k. short_with p es h (json.string f) b k (allowed (p ++ 1 ∷ []) (kind.function_word true) (json.string f) (ap (λ o. when (is_function_word true o)) e)))
rows_judged p es xs h f None a b e =
    let v = short h (json.string f) in
    let is_none : name_of v ≡ unnamed = λ i. if b i then counted (e i) else unnamed in
    short_with p es h (json.string f) b (not_twice es v is_none) (refused (p ++ 1 ∷ []) (kind.function_word true) (json.string f) (ap (λ o. when (is_function_word true o)) e))
rows_judged p es xs h f (Some Sum) a b e =
    let v = short h (json.string f) in
    let is_none : name_of v ≡ unnamed = λ i. if b i then counted (e i) else unnamed in
    short_with p es h (json.string f) b (not_twice es v is_none) (refused (p ++ 1 ∷ []) (kind.function_word true) (json.string f) (ap (λ o. when (is_function_word true o)) e))
rows_judged p es xs h f (Some Min) a b e =
    let v = short h (json.string f) in
    let is_none : name_of v ≡ unnamed = λ i. if b i then counted (e i) else unnamed in
    short_with p es h (json.string f) b (not_twice es v is_none) (refused (p ++ 1 ∷ []) (kind.function_word true) (json.string f) (ap (λ o. when (is_function_word true o)) e))
rows_judged p es xs h f (Some Max) a b e =
    let v = short h (json.string f) in
    let is_none : name_of v ≡ unnamed = λ i. if b i then counted (e i) else unnamed in
    short_with p es h (json.string f) b (not_twice es v is_none) (refused (p ++ 1 ∷ []) (kind.function_word true) (json.string f) (ap (λ o. when (is_function_word true o)) e))

-- its function's name is judged, and then its column
long_with : (p : Place) (es : List Json) (h : List ℕ) (f v : Json) {o : Option Place} → bytes_eq h (codes "function") ≡ true → elements (kind.output es) (long h f v) ≡ output_elements (long h f v)
    → Sits (IsFrom p 1) o (BadFrom p 1 (kind.function_word false ∷ kind.text ∷ []) (item f (item v no_items))) → Sits (IsIn p) o (Bad p (kind.output es) (long h f v))
long_with p es h f v b e j =
    listed p (kind.output es) (item (json.string h) (item f (item v no_items))) (anything ∷ kind.function_word false ∷ kind.text ∷ [])
    (e ∙ ap (λ b. if b then Some (anything ∷ kind.function_word false ∷ kind.text ∷ []) else None) b)
    (headed p (json.string h) (kind.function_word false ∷ kind.text ∷ []) (item f (item v no_items)) j)

no_read : {A P : Type 0} (p : Place) (x : A) → Err p ≡ Ok x → P
no_read p x e = absurd (let apart : Err p ≡ Ok x = e in cc)

function_judged : (p : Place) (es : List Json) (xs : List Selected) (h f : List ℕ) (o : Option Function) (v : Json) → AreNamedAlike es xs → bytes_eq h (codes "function") ≡ true → function_named f ≡ o
    → Judged p (kind.output es) (long h (json.string f) v) (function_at p xs o v)
function_judged p es xs h f None v a b e =
    let w = long h (json.string f) v in
    let is_none : name_of w ≡ unnamed = λ i. if b i then kind.applied (e i) else unnamed in
    long_with p es h (json.string f) v b (not_twice es w is_none)
    (reads {A = Selected} {B = Selected} p 1 (kind.function_word false) (json.string f) (kind.text ∷ []) (item v no_items) (Err (p ++ 1 ∷ [])) (λ x. Ok x)
    (refused (p ++ 1 ∷ []) (kind.function_word false) (json.string f) (ap (λ o. when (is_function_word false o)) e)) (λ x same. no_read (p ++ 1 ∷ []) x same))
function_judged p es xs h f (Some g) v a b e =
    let w = long h (json.string f) v in
    let is_named : name_of w ≡ named (function_name g) true = λ i. if b i then kind.applied (e i) else unnamed in
    once p es w (list_any (clashes (selected.Function g (name [] p))) xs) (name_at (p ++ 2 ∷ []) v >>= λ n. Ok (selected.Function g n))
    (twice_same (selected.Function g (name [] p)) w is_named es xs a)
    (λ k. long_with p es h (json.string f) v b k
    (reads {A = Function} {B = Selected} p 1 (kind.function_word false) (json.string f) (kind.text ∷ []) (item v no_items) (Ok g) (λ g. name_at (p ++ 2 ∷ []) v >>= λ n. Ok (selected.Function g n))
    (allowed (p ++ 1 ∷ []) (kind.function_word false) (json.string f) (ap (λ o. when (is_function_word false o)) e))
    (λ x same. last_of p 2 kind.text v (then_ok (name_at (p ++ 2 ∷ []) v) (selected.Function x) (name_judged (p ++ 2 ∷ []) v)))))

-- a function's name that is no text
odd_short : (p : Place) (es : List Json) (h : List ℕ) (f : Json) → bytes_eq h (codes "function") ≡ true → name_of (short h f) ≡ unnamed → elements (kind.function_word true) f ≡ None
    → Sits (IsIn p) (Some (p ++ 1 ∷ [])) (Bad p (kind.output es) (short h f))
odd_short p es h f b n e = short_with p es h f b (not_twice es (short h f) n) (refused (p ++ 1 ∷ []) (kind.function_word true) f e)

odd_long : (p : Place) (es : List Json) (h : List ℕ) (f v : Json) → bytes_eq h (codes "function") ≡ true → name_of (long h f v) ≡ unnamed → elements (kind.function_word false) f ≡ None
    → Sits (IsIn p) (Some (p ++ 1 ∷ [])) (Bad p (kind.output es) (long h f v))
odd_long p es h f v b n e =
    long_with p es h f v b (not_twice es (long h f v) n)
    (reads {A = Selected} {B = Selected} p 1 (kind.function_word false) f (kind.text ∷ []) (item v no_items) (Err (p ++ 1 ∷ [])) (λ x. Ok x)
    (refused (p ++ 1 ∷ []) (kind.function_word false) f e) (λ x same. no_read (p ++ 1 ∷ []) x same))

form_judged : (p : Place) (es : List Json) (xs : List Selected) (h : List ℕ) (vs : Items) → AreNamedAlike es xs → bytes_eq h (codes "function") ≡ true
    → Judged p (kind.output es) (json.array (item (json.string h) vs)) (function_form p xs vs)
form_judged p es xs h (item (json.string f) no_items) a b = rows_judged p es xs h f (function_named f) a b refl
form_judged p es xs h (item (json.string f) (item v no_items)) a b = function_judged p es xs h f (function_named f) v a b refl
form_judged p es xs h (item v no_items) a b = odd_short p es h v b refl refl
form_judged p es xs h (item v (item w no_items)) a b = odd_long p es h v w b refl refl
form_judged p es xs h vs a b = no_output p es (json.array (item (json.string h) vs)) refl

other_head : (h : List ℕ) (vs : Items) → bytes_eq h (codes "function") ≡ false → output_elements (json.array (item (json.string h) vs)) ≡ None
other_head h no_items e = refl
other_head h (item f no_items) e = ap (λ b. if b then Some (anything ∷ kind.function_word true ∷ []) else None) e
other_head h (item f (item v no_items)) e = ap (λ b. if b then Some (anything ∷ kind.function_word false ∷ kind.text ∷ []) else None) e
other_head h (item f (item v (item w vs))) e = refl

output_by : (p : Place) (es : List Json) (xs : List Selected) (h : List ℕ) (vs : Items) (b : Bool) → AreNamedAlike es xs → bytes_eq h (codes "function") ≡ b
    → Judged p (kind.output es) (json.array (item (json.string h) vs)) (if b then function_form p xs vs else Err p)
output_by p es xs h vs true a e = form_judged p es xs h vs a e
output_by p es xs h vs false a e = no_output p es (json.array (item (json.string h) vs)) (other_head h vs e)

output_judged : (p : Place) (es : List Json) (xs : List Selected) (v : Json) → AreNamedAlike es xs → Judged p (kind.output es) v (selected_at p xs v)
output_judged p es xs (json.string s) a =
    once p es (json.string s) (list_any (clashes (selected.Column (name s p))) xs) (Ok (selected.Column (name s p)))
    (twice_same (selected.Column (name s p)) (json.string s) refl es xs a) (λ k. allowed p (kind.output es) (json.string s) k)
output_judged p es xs (json.array (item (json.string h) vs)) a = output_by p es xs h vs (bytes_eq h (codes "function")) a refl
output_judged p es xs v a = no_output p es v refl

form_named : (p : Place) (f : ShownForm) → name_of (shown_value f) ≡ named (output_name (shown_meaning p f)) (is_function (shown_meaning p f))
unfolding function_named
form_named p (column s) = refl
form_named p rows = refl
form_named p (applied g s) = ap kind.applied (function_known g)

output_named : (p : Place) (xs : List Selected) (v : Json) (x : Selected) → selected_at p xs v ≡ Ok x → name_of v ≡ named (output_name x) (is_function x)
output_named p xs v x e =
    let t = selected_told p xs v x e in
    ap name_of t.value_is ∙ form_named p t.form ∙ ap (λ (y : Selected). named (output_name y) (is_function y)) (sym t.means)

outputs_judged : (p : Place) (i : ℕ) (es : List Json) (xs : List Selected) (vs : Items) → AreNamedAlike es xs → JudgedFrom p i (outputs es vs) vs (selection_at p i xs vs)
outputs_judged p i es xs no_items a = no_more p i no_items
outputs_judged p i es xs (item v vs) a =
    reads p i (kind.output es) v (outputs (es ++ v ∷ []) vs) vs (selected_at (p ++ i ∷ []) xs v) _ (output_judged (p ++ i ∷ []) es xs v a)
    (λ x e. outputs_judged p (i + 1) (es ++ v ∷ []) (xs ++ x ∷ []) vs (alike_more es xs v x a (output_named (p ++ i ∷ []) xs v x e)))

shown_judged : (p : Place) (v : Json) → Judged p kind.shown v (shown_at p v)
shown_judged p (json.string s) = allowed p kind.shown (json.string s) refl
shown_judged p (json.array (item v vs)) = listed p kind.shown (item v vs) (outputs [] (item v vs)) refl (outputs_judged p 0 [] [] (item v vs) tt)
shown_judged p v = refused p kind.shown v refl

group_by : (p : Place) (k : Kind) (h : List ℕ) (vs : Items) (b : Bool) → bytes_eq h (codes "group_by") ≡ b → elements k (json.array (item (json.string h) vs)) ≡ (if b then some kind.text vs else None)
    → Judged p k (json.array (item (json.string h) vs)) (group_at p (json.array (item (json.string h) vs)))
group_by p k h no_items true e l = refused p k (json.array (item (json.string h) no_items)) l
group_by p k h no_items false e l = refused p k (json.array (item (json.string h) no_items)) l
group_by p k h (item v vs) true e l =
    subst (λ b. Judged p k (json.array (item (json.string h) (item v vs))) (if b then names_at p 1 (item v vs) else Err p)) (sym e)
    (listed p k (item (json.string h) (item v vs)) (anything ∷ each kind.text (item v vs)) l
    (headed p (json.string h) (each kind.text (item v vs)) (item v vs) (names_judged p 1 (item v vs))))
group_by p k h (item v vs) false e l =
    subst (λ b. Judged p k (json.array (item (json.string h) (item v vs))) (if b then names_at p 1 (item v vs) else Err p)) (sym e)
    (refused p k (json.array (item (json.string h) (item v vs))) l)

group_judged : (p : Place) (k : Kind) (v : Json) → elements k v ≡ of_group v → Judged p k v (group_at p v)
group_judged p k (json.array (item (json.string h) vs)) e = group_by p k h vs (bytes_eq h (codes "group_by")) refl e
group_judged p k v e = refused p k v e

-- ---- paging

order_judged : (p : Place) (v : Json) → Judged p kind.order v (order_at p v)
order_judged p (json.string s) = allowed p kind.order (json.string s) refl
order_judged p (json.array (item c (item d no_items))) =
    listed p kind.order (item c (item d no_items)) (kind.text ∷ kind.direction ∷ []) refl
    (reads p 0 kind.text c (kind.direction ∷ []) (item d no_items) (name_at (p ++ 0 ∷ []) c) _ (name_judged (p ++ 0 ∷ []) c)
    (λ n e. last_of p 1 kind.direction d (then_ok (descends_at (p ++ 1 ∷ []) d) (order n) (direction_judged (p ++ 1 ∷ []) d))))
order_judged p v = refused p kind.order v refl

orders_judged : (p : Place) (i : ℕ) (vs : Items) → JudgedFrom p i (each kind.order vs) vs (orders_at p i vs)
orders_judged p i no_items = no_more p i no_items
orders_judged p i (item v vs) =
    reads p i kind.order v (each kind.order vs) vs (order_at (p ++ i ∷ []) v) _ (order_judged (p ++ i ∷ []) v)
    (λ o e. then_ok (orders_at p (i + 1) vs) (λ os. o ∷ os) (orders_judged p (i + 1) vs))

order_list_judged : (p : Place) (v : Json) → Judged p kind.orders v (order_list_at p v)
order_list_judged p (json.array (item v vs)) = listed p kind.orders (item v vs) (each kind.order (item v vs)) refl (orders_judged p 0 (item v vs))
order_list_judged p v = refused p kind.orders v refl

abbrev paging : List Order → Option ℕ → Option ℕ → Paging
paging os o l = record { order = os; offset = o; limit = l; include_total = false }

-- the elements so far have the parts that the paging has
record Has (es : List Json) (os : List Order) (o l : Option ℕ) : Type 0 where
  limits : is_part_twice of_part.Limit es ≡ is_some l
  offsets : is_part_twice of_part.Offset es ≡ is_some o
  orders : is_part_twice of_part.OrderBy es ≡ not (is_empty os)

any_more : (f : Json → Bool) (es : List Json) (v : Json) → list_any f (es ++ v ∷ []) ≡ (list_any f es || f v)
any_more f [] v = or_false (f v)
  where
    or_false : (b : Bool) → (b || false) ≡ b
    or_false true = refl
    or_false false = refl
any_more f (e ∷ es) v = ap (λ b. f e || b) (any_more f es v) ∙ or_assoc (f e) (list_any f es) (f v)
  where
    or_assoc : (a b c : Bool) → (a || (b || c)) ≡ ((a || b) || c)
    or_assoc true b c = refl
    or_assoc false b c = refl

part_more : (w u : PartWord) (es : List Json) (v : Json) → word_of v ≡ u → is_part_twice w (es ++ v ∷ []) ≡ (is_part_twice w es || same_part w u)
part_more w u es v e = any_more (λ v. same_part w (word_of v)) es v ∙ ap (λ x. is_part_twice w es || same_part w x) e

left : (b c : Bool) → c ≡ false → (b || c) ≡ b
left true c e = refl
left false c e = e

with_one : (es : List Json) (os : List Order) (o : Option ℕ) (n : ℕ) (v : Json) → word_of v ≡ of_part.Limit → Has es os o None → Has (es ++ v ∷ []) os o (Some n)
with_one es os o n v e h = record {
  limits = part_more of_part.Limit of_part.Limit es v e ∙ or_right (is_part_twice of_part.Limit es) true refl;
  offsets = part_more of_part.Offset of_part.Limit es v e ∙ left (is_part_twice of_part.Offset es) false refl ∙ h.offsets;
  orders = part_more of_part.OrderBy of_part.Limit es v e ∙ left (is_part_twice of_part.OrderBy es) false refl ∙ h.orders;
}

with_other : (es : List Json) (os : List Order) (n : ℕ) (l : Option ℕ) (v : Json) → word_of v ≡ of_part.Offset → Has es os None l → Has (es ++ v ∷ []) os (Some n) l
with_other es os n l v e h = record {
  limits = part_more of_part.Limit of_part.Offset es v e ∙ left (is_part_twice of_part.Limit es) false refl ∙ h.limits;
  offsets = part_more of_part.Offset of_part.Offset es v e ∙ or_right (is_part_twice of_part.Offset es) true refl;
  orders = part_more of_part.OrderBy of_part.Offset es v e ∙ left (is_part_twice of_part.OrderBy es) false refl ∙ h.orders;
}

with_list : (es : List Json) (q : Order) (qs : List Order) (o l : Option ℕ) (v : Json) → word_of v ≡ of_part.OrderBy → Has es [] o l → Has (es ++ v ∷ []) (q ∷ qs) o l
with_list es q qs o l v e h = record {
  limits = part_more of_part.Limit of_part.OrderBy es v e ∙ left (is_part_twice of_part.Limit es) false refl ∙ h.limits;
  offsets = part_more of_part.Offset of_part.OrderBy es v e ∙ left (is_part_twice of_part.Offset es) false refl ∙ h.offsets;
  orders = part_more of_part.OrderBy of_part.OrderBy es v e ∙ or_right (is_part_twice of_part.OrderBy es) true refl;
}

no_part : (p : Place) (es : List Json) (v : Json) → part_elements v ≡ None → Sits (IsIn p) (Some p) (Bad p (kind.part es) v)
no_part p es v e = refused p (kind.part es) v (ap (unless (is_part_twice (word_of v) es)) e ∙ unless_none (is_part_twice (word_of v) es))

-- a part at which reading stops
stops : (p : Place) (i : ℕ) (es : List Json) (v : Json) (vs : Items) → Sits (IsIn (p ++ i ∷ [])) (Some (p ++ i ∷ [])) (Bad (p ++ i ∷ []) (kind.part es) v) → Sits (IsFrom p i) (Some (p ++ i ∷ [])) (BadFrom p i (kind.part es ∷ parts (es ++ v ∷ []) vs) (item v vs))
stops p i es v vs h =
    reads {A = Paging} {B = Paging} p i (kind.part es) v (parts (es ++ v ∷ []) vs) vs (Err (p ++ i ∷ [])) (λ g. Ok g) h (λ g e. no_read (p ++ i ∷ []) g e)

abbrev Part : List ℕ → Json → Json
Part h v = json.array (item (json.string h) (item v no_items))

-- the forms of a part whose word is known
part_forms : (es : List Json) (h : List ℕ) (v : Json) (w : PartWord) (b : Bool) → part_word h ≡ w → is_part_twice w es ≡ b → elements (kind.part es) (Part h v) ≡ unless b (paged_elements w (item v no_items))
part_forms es h v w b e t =
    ap (λ w. unless (is_part_twice w es) (paged_elements w (item v no_items))) e ∙ ap (λ b. unless b (paged_elements w (item v no_items))) t

paged_alone : (p : Place) (es : List Json) (h : List ℕ) (v : Json) (k : Kind) {o : Option Place} → elements (kind.part es) (Part h v) ≡ Some (anything ∷ k ∷ []) → Sits (IsIn (p ++ 1 ∷ [])) o (Bad (p ++ 1 ∷ []) k v) → Sits (IsIn p) o (Bad p (kind.part es) (Part h v))
paged_alone p es h v k e j =
    listed p (kind.part es) (item (json.string h) (item v no_items)) (anything ∷ k ∷ []) e (headed p (json.string h) (k ∷ []) (item v no_items) (last_of p 1 k v j))

order_list_some : (p : Place) (v : Json) (os : List Order) → order_list_at p v ≡ Ok os → (q : Order) × (qs : List Order) × (os ≡ q ∷ qs)
order_list_some p (json.array (item v vs)) os e =
    let b = bound (order_at (p ++ 0 ∷ []) v) (λ o. orders_at p 1 vs >>= λ os. Ok (o ∷ os)) os e in
    let c = bound (orders_at p 1 vs) (λ os. Ok (b.first ∷ os)) os b.then_is in
    (b.first, c.first, gave (b.first ∷ c.first) os c.then_is)
order_list_some p _ os e = no_read p os e

-- what comes behind a part
abbrev Next : Place → ℕ → List Json → Items → Type 0
Next p i es vs = (os : List Order) (o l : Option ℕ) → Has es os o l → JudgedFrom p i (parts es vs) vs (paging_at p i (paging os o l) vs)

part_step : (p : Place) (i : ℕ) (es : List Json) (os : List Order) (o l : Option ℕ) (h : List ℕ) (v : Json) (vs : Items) (w : PartWord) → part_word h ≡ w → Has es os o l → Next p (i + 1) (es ++ Part h v ∷ []) vs
    → JudgedFrom p i (kind.part es ∷ parts (es ++ Part h v ∷ []) vs) (item (Part h v) vs) (part_arm (p ++ i ∷ []) w (paging os o l) v >>= λ g. paging_at p (i + 1) g vs)
part_step p i es os o None h v vs of_part.Limit e has next =
    let q = p ++ i ∷ [] in
    reads p i (kind.part es) (Part h v) (parts (es ++ Part h v ∷ []) vs) vs (with_limit q (paging os o None) v) (λ g. paging_at p (i + 1) g vs)
    (paged_alone q es h v kind.count (part_forms es h v of_part.Limit false e has.limits)
    (then_ok (count_at (q ++ 1 ∷ []) v) (λ n. paging os o (Some n)) (count_judged (q ++ 1 ∷ []) v)))
    (λ g r.
    let c = bound (count_at (q ++ 1 ∷ []) v) (λ n. Ok (paging os o (Some n))) g r in
    subst (λ x. JudgedFrom p (i + 1) (parts (es ++ Part h v ∷ []) vs) vs (paging_at p (i + 1) x vs)) (sym (gave (paging os o (Some c.first)) g c.then_is))
    (next os o (Some c.first) (with_one es os o c.first (Part h v) e has)))
part_step p i es os o (Some m) h v vs of_part.Limit e has next =
    stops p i es (Part h v) vs (refused (p ++ i ∷ []) (kind.part es) (Part h v) (part_forms es h v of_part.Limit true e has.limits))
part_step p i es os None l h v vs of_part.Offset e has next =
    let q = p ++ i ∷ [] in
    reads p i (kind.part es) (Part h v) (parts (es ++ Part h v ∷ []) vs) vs (with_offset q (paging os None l) v) (λ g. paging_at p (i + 1) g vs)
    (paged_alone q es h v kind.count (part_forms es h v of_part.Offset false e has.offsets)
    (then_ok (count_at (q ++ 1 ∷ []) v) (λ n. paging os (Some n) l) (count_judged (q ++ 1 ∷ []) v)))
    (λ g r.
    let c = bound (count_at (q ++ 1 ∷ []) v) (λ n. Ok (paging os (Some n) l)) g r in
    subst (λ x. JudgedFrom p (i + 1) (parts (es ++ Part h v ∷ []) vs) vs (paging_at p (i + 1) x vs)) (sym (gave (paging os (Some c.first) l) g c.then_is))
    (next os (Some c.first) l (with_other es os c.first l (Part h v) e has)))
part_step p i es os (Some m) l h v vs of_part.Offset e has next =
    stops p i es (Part h v) vs (refused (p ++ i ∷ []) (kind.part es) (Part h v) (part_forms es h v of_part.Offset true e has.offsets))
part_step p i es [] o l h v vs of_part.OrderBy e has next =
    let q = p ++ i ∷ [] in
    reads p i (kind.part es) (Part h v) (parts (es ++ Part h v ∷ []) vs) vs (with_order q (paging [] o l) v) (λ g. paging_at p (i + 1) g vs)
    (paged_alone q es h v kind.orders (part_forms es h v of_part.OrderBy false e has.orders)
    (then_ok (order_list_at (q ++ 1 ∷ []) v) (λ os. paging os o l) (order_list_judged (q ++ 1 ∷ []) v)))
    (λ g r.
    let c = bound (order_list_at (q ++ 1 ∷ []) v) (λ os. Ok (paging os o l)) g r in
    let n = order_list_some (q ++ 1 ∷ []) v c.first c.was in
    subst (λ x. JudgedFrom p (i + 1) (parts (es ++ Part h v ∷ []) vs) vs (paging_at p (i + 1) x vs)) (sym (gave (paging c.first o l) g c.then_is ∙ ap (λ os. paging os o l) n.2))
    (next (n.0 ∷ n.1) o l (with_list es n.0 n.1 o l (Part h v) e has)))
part_step p i es (x ∷ os) o l h v vs of_part.OrderBy e has next =
    stops p i es (Part h v) vs (refused (p ++ i ∷ []) (kind.part es) (Part h v) (part_forms es h v of_part.OrderBy true e has.orders))
part_step p i es os o l h v vs of_part.Extract e has next =
    stops p i es (Part h v) vs (no_part (p ++ i ∷ []) es (Part h v) (ap (λ w. paged_elements w (item v no_items)) e))
part_step p i es os o l h v vs of_part.Other e has next =
    stops p i es (Part h v) vs (no_part (p ++ i ∷ []) es (Part h v) (ap (λ w. paged_elements w (item v no_items)) e))

paged_few : (w : PartWord) (vs : Items) → ((k : Kind) → one k vs ≡ None) → paged_elements w vs ≡ None
paged_few of_part.Limit vs h = h kind.count
paged_few of_part.Offset vs h = h kind.count
paged_few of_part.OrderBy vs h = h kind.orders
paged_few of_part.Extract vs h = refl
paged_few of_part.Other vs h = refl

paging_judged : (p : Place) (i : ℕ) (es : List Json) (os : List Order) (o l : Option ℕ) (vs : Items) → Has es os o l → JudgedFrom p i (parts es vs) vs (paging_at p i (paging os o l) vs)
paging_judged p i es os o l no_items has = no_more p i no_items
paging_judged p i es os o l (item (json.array (item (json.string h) (item v no_items))) vs) has =
    part_step p i es os o l h v vs (part_word h) refl has (λ os o l has. paging_judged p (i + 1) (es ++ Part h v ∷ []) os o l vs has)
paging_judged p i es os o l (item (json.array (item (json.string h) no_items)) vs) has =
    let v = json.array (item (json.string h) no_items) in
    stops p i es v vs (no_part (p ++ i ∷ []) es v (paged_few (part_word h) no_items (λ k. refl)))
paging_judged p i es os o l (item (json.array (item (json.string h) (item v (item w ws)))) vs) has =
    let u = json.array (item (json.string h) (item v (item w ws))) in
    stops p i es u vs (no_part (p ++ i ∷ []) es u (paged_few (part_word h) (item v (item w ws)) (λ k. refl)))
paging_judged p i es os o l (item v vs) has = stops p i es v vs (no_part (p ++ i ∷ []) es v refl)

has_none : Has [] [] None None
has_none = record { limits = refl; offsets = refl; orders = refl }

-- ---- filters

abbrev Headed : List ℕ → Items → Json
Headed h vs = json.array (item (json.string h) vs)

-- two elements behind the head word
both : {A B : Type 0} (p : Place) (k m n : Kind) (h : List ℕ) (v w : Json) (r : Read A) (f : A → Read B) → elements k (Headed h (item v (item w no_items))) ≡ Some (anything ∷ m ∷ n ∷ []) → Judged (p ++ 1 ∷ []) m v r
    → ((x : A) → Judged (p ++ 2 ∷ []) n w (f x)) → Judged p k (Headed h (item v (item w no_items))) (r >>= f)
both p k m n h v w r f e j g =
    listed p k (item (json.string h) (item v (item w no_items))) (anything ∷ m ∷ n ∷ []) e
    (headed p (json.string h) (m ∷ n ∷ []) (item v (item w no_items)) (reads p 1 m v (n ∷ []) (item w no_items) r f j (λ x s. last_of p 2 n w (g x))))

-- one element behind it
single : (p : Place) (k m : Kind) (h : List ℕ) (v : Json) {o : Option Place} → elements k (Headed h (item v no_items)) ≡ Some (anything ∷ m ∷ []) → Sits (IsIn (p ++ 1 ∷ [])) o (Bad (p ++ 1 ∷ []) m v) → Sits (IsIn p) o (Bad p k (Headed h (item v no_items)))
single p k m h v e j =
    listed p k (item (json.string h) (item v no_items)) (anything ∷ m ∷ []) e (headed p (json.string h) (m ∷ []) (item v no_items) (last_of p 1 m v j))

compared_judged : (o : Op) (p : Place) (k : Kind) (h : List ℕ) (vs : Items) → elements k (Headed h vs) ≡ two kind.field kind.literal vs → Judged p k (Headed h vs) (compared_at o p vs)
compared_judged o p k h (item f (item l no_items)) e =
    both p k kind.field kind.literal h f l (field_at (p ++ 1 ∷ []) f) _ e (field_judged (p ++ 1 ∷ []) f)
    (λ x. then_ok (literal_at (p ++ 2 ∷ []) l) (λ l. compare o x l) (literal_judged (p ++ 2 ∷ []) l))
compared_judged o p k h vs e = refused p k (Headed h vs) e

matched_judged : (p : Place) (k : Kind) (h : List ℕ) (vs : Items) → elements k (Headed h vs) ≡ two kind.field kind.text vs → Judged p k (Headed h vs) (matched_at p vs)
matched_judged p k h (item f (item t no_items)) e =
    both p k kind.field kind.text h f t (field_at (p ++ 1 ∷ []) f) _ e (field_judged (p ++ 1 ∷ []) f)
    (λ x. then_ok (pattern_at (p ++ 2 ∷ []) t) (λ t. matches x t) (pattern_judged (p ++ 2 ∷ []) t))
matched_judged p k h vs e = refused p k (Headed h vs) e

null_judged : (p : Place) (k : Kind) (h : List ℕ) (vs : Items) → elements k (Headed h vs) ≡ two kind.field kind.boolean vs → Judged p k (Headed h vs) (null_at p vs)
null_judged p k h (item f (item b no_items)) e =
    both p k kind.field kind.boolean h f b (field_at (p ++ 1 ∷ []) f) _ e (field_judged (p ++ 1 ∷ []) f)
    (λ x. then_ok (bool_at (p ++ 2 ∷ []) b) (λ b. is_null x b) (bool_judged (p ++ 2 ∷ []) b))
null_judged p k h vs e = refused p k (Headed h vs) e

listed_judged : (p : Place) (k : Kind) (fs : List Field) (h : List ℕ) (vs : Items) → elements k (Headed h vs) ≡ one kind.literals vs → Judged p k (Headed h vs) (listed_at p fs vs)
listed_judged p k fs h (item v no_items) e =
    single p k kind.literals h v e (then_ok (array_at (p ++ 1 ∷ []) v) (λ ls. in_list fs p ls) (array_judged (p ++ 1 ∷ []) v))
listed_judged p k fs h vs e = refused p k (Headed h vs) e

-- what follows a filter's word, with inner filters at depth d
record Behind (d : ℕ) (p : Place) (k : Kind) (h : List ℕ) (vs : Items) : Type 0 where
  many : elements k (Headed h vs) ≡ some (kind.filter d) vs → Judged p k (Headed h vs) (some_at d p vs)
  inner_one : elements k (Headed h vs) ≡ one (kind.filter d) vs → Judged p k (Headed h vs) (one_at d p vs)
  among : elements k (Headed h vs) ≡ two kind.columns (kind.inner d) vs → Judged p k (Headed h vs) (in_at d p vs)
  sub : elements k (Headed h vs) ≡ filter_elements d of_filter.Subquery vs → Judged p k (Headed h vs) (subquery_at d p vs)

filter_by : (d : ℕ) (p : Place) (k : Kind) (h : List ℕ) (vs : Items) (w : FilterWord) → elements k (Headed h vs) ≡ filter_elements (d + 1) w vs → Behind (d + 1) p k h vs → Judged p k (Headed h vs) (filter_arm d p w vs)
filter_by d p k h vs of_filter.And e b = then_ok (some_at (d + 1) p vs) (λ fs. all_of (filters_of fs)) (b.many e)
filter_by d p k h vs of_filter.Or e b = then_ok (some_at (d + 1) p vs) (λ fs. any_of (filters_of fs)) (b.many e)
filter_by d p k h vs of_filter.Not e b = then_ok (one_at (d + 1) p vs) (λ f. negation f) (b.inner_one e)
filter_by d p k h vs (of_filter.Compare o) e b = compared_judged o p k h vs e
filter_by d p k h vs of_filter.Matches e b = matched_judged p k h vs e
filter_by d p k h vs of_filter.IsNull e b = null_judged p k h vs e
filter_by d p k h vs of_filter.In e b = b.among e
filter_by d p k h vs of_filter.Subquery e b = b.sub e
filter_by d p k h vs of_filter.Other e b = refused p k (Headed h vs) e

inner_by : (d : ℕ) (p : Place) (fs : List Field) (h : List ℕ) (vs : Items) (w : InnerWord) → elements (kind.inner d) (Headed h vs) ≡ inner_elements d w vs
    → (elements (kind.inner d) (Headed h vs) ≡ two kind.columns (kind.select d) vs → Judged p (kind.inner d) (Headed h vs) (select_at d p vs))
    → (elements (kind.inner d) (Headed h vs) ≡ kind.query_elements d vs → Judged p (kind.inner d) (Headed h vs) (query_within d p vs)) → Judged p (kind.inner d) (Headed h vs) (inner_arm d p fs w vs)
inner_by d p fs h vs of_inner.Array e s q = listed_judged p (kind.inner d) fs h vs e
inner_by d p fs h vs of_inner.Extract e s q = then_ok (select_at d p vs) (λ q. in_level fs p q) (s e)
inner_by d p fs h vs of_inner.From e s q = then_ok (query_within d p vs) (λ q. in_level fs p q) (q e)
inner_by d p fs h vs of_inner.Other e s q = refused p (kind.inner d) (Headed h vs) e

-- `select_E` alone, and with a filter
select_alone : (d : ℕ) (p : Place) (cs : List Name) (s : List ℕ) (o : Option (List ℕ)) → elements (kind.select d) (Headed s no_items) ≡ select_elements d o no_items
    → Judged p (kind.select d) (Headed s no_items) (entity_behind p o >>= λ e. Ok (level e (Some (map selected.Column cs)) no_clause [] unpaged))
select_alone d p cs s (Some n) e =
    listed p (kind.select d) (item (json.string s) no_items) (anything ∷ []) e (headed p (json.string s) [] no_items (no_more p 1 no_items))
select_alone d p cs s None e = refused p (kind.select d) (Headed s no_items) e

select_with : (d : ℕ) (p : Place) (cs : List Name) (s : List ℕ) (f : Json) (o : Option (List ℕ)) → elements (kind.select d) (Headed s (item f no_items)) ≡ select_elements d o (item f no_items)
    → Judged (p ++ 1 ∷ []) (kind.filter d) f (filter_at d (p ++ 1 ∷ []) f)
    → Judged p (kind.select d) (Headed s (item f no_items)) (entity_behind p o >>= λ e. filter_at d (p ++ 1 ∷ []) f >>= λ f. Ok (level e (Some (map selected.Column cs)) (clause f) [] unpaged))
select_with d p cs s f (Some n) e j =
    single p (kind.select d) (kind.filter d) s f e (then_ok (filter_at d (p ++ 1 ∷ []) f) (λ f. level (name n (p ++ 0 ∷ [])) (Some (map selected.Column cs)) (clause f) [] unpaged) j)
select_with d p cs s f None e j = refused p (kind.select d) (Headed s (item f no_items)) e

select_few : (d : ℕ) (o : Option (List ℕ)) (v w : Json) (vs : Items) → select_elements d o (item v (item w vs)) ≡ None
select_few d (Some e) v w vs = refl
select_few d None v w vs = refl

-- a filter or a group
either_by : {A B C : Type 0} (p : Place) (d : ℕ) (v : Json) (b : Bool) (g : Read A) (f : Read B) (x : A → C) (y : B → C) → is_group v ≡ b
    → (elements (kind.filter_or_group d) v ≡ of_group v → Judged p (kind.filter_or_group d) v g) → (elements (kind.filter_or_group d) v ≡ of_filter_at d v → Judged p (kind.filter_or_group d) v f)
    → Judged p (kind.filter_or_group d) v (if b then (g >>= λ n. Ok (x n)) else (f >>= λ n. Ok (y n)))
either_by p d v true g f x y e h k = then_ok g x (h (ap (λ b. if b then of_group v else of_filter_at d v) e))
either_by p d v false g f x y e h k = then_ok f y (k (ap (λ b. if b then of_group v else of_filter_at d v) e))

-- what follows the word `extract`
extract_by : (d : ℕ) (p : Place) (k : Kind) (h : List ℕ) (vs : Items) (b : Bool) → elements k (Headed h vs) ≡ (if b then extract_elements d vs else None)
    → (elements k (Headed h vs) ≡ extract_elements d vs → Judged p k (Headed h vs) (extracted_at d p vs)) → Judged p k (Headed h vs) (if b then extracted_at d p vs else Err p)
extract_by d p k h vs true e more = more e
extract_by d p k h vs false e more = refused p k (Headed h vs) e

mutual
  filter_judged : (d : ℕ) (p : Place) (k : Kind) (v : Json) → elements k v ≡ of_filter_at d v → Judged p k v (filter_at d p v)
  filter_judged d p k (json.array (item (json.string h) vs)) e =
      filter_by d p k h vs (word_at d h) e (record {
        many = some_judged (d + 1) p k h vs;
        inner_one = one_judged (d + 1) p k h vs;
        among = in_judged (d + 1) p k h vs;
        sub = subquery_judged (d + 1) p k h vs;
      })
  filter_judged d p k v e = refused p k v e

  filters_judged : (d : ℕ) (p : Place) (i : ℕ) (vs : Items) → JudgedFrom p i (each (kind.filter d) vs) vs (filters_at d p i vs)
  filters_judged d p i no_items = no_more p i no_items
  filters_judged d p i (item u us) =
      reads p i (kind.filter d) u (each (kind.filter d) us) us (filter_at d (p ++ i ∷ []) u) _ (filter_judged d (p ++ i ∷ []) (kind.filter d) u refl)
      (λ f e. then_ok (filters_at d p (i + 1) us) (λ fs. f ∷ fs) (filters_judged d p (i + 1) us))

  some_judged : (d : ℕ) (p : Place) (k : Kind) (h : List ℕ) (vs : Items) → elements k (Headed h vs) ≡ some (kind.filter d) vs → Judged p k (Headed h vs) (some_at d p vs)
  some_judged d p k h no_items e = refused p k (Headed h no_items) e
  some_judged d p k h (item u us) e =
      listed p k (item (json.string h) (item u us)) (anything ∷ kind.filter d ∷ each (kind.filter d) us) e
      (headed p (json.string h) (kind.filter d ∷ each (kind.filter d) us) (item u us)
      (reads p 1 (kind.filter d) u (each (kind.filter d) us) us (filter_at d (p ++ 1 ∷ []) u) _ (filter_judged d (p ++ 1 ∷ []) (kind.filter d) u refl)
      (λ f x. then_ok (filters_at d p 2 us) (λ fs. f ∷ fs) (filters_judged d p 2 us))))

  one_judged : (d : ℕ) (p : Place) (k : Kind) (h : List ℕ) (vs : Items) → elements k (Headed h vs) ≡ one (kind.filter d) vs → Judged p k (Headed h vs) (one_at d p vs)
  one_judged d p k h (item u no_items) e = single p k (kind.filter d) h u e (filter_judged d (p ++ 1 ∷ []) (kind.filter d) u refl)
  one_judged d p k h vs e = refused p k (Headed h vs) e

  in_judged : (d : ℕ) (p : Place) (k : Kind) (h : List ℕ) (vs : Items) → elements k (Headed h vs) ≡ two kind.columns (kind.inner d) vs → Judged p k (Headed h vs) (in_at d p vs)
  in_judged d p k h (item c (item v no_items)) e =
      both p k kind.columns (kind.inner d) h c v (left_at (p ++ 1 ∷ []) c) _ e (left_judged (p ++ 1 ∷ []) c) (λ fs. inner_judged d (p ++ 2 ∷ []) fs v)
  in_judged d p k h vs e = refused p k (Headed h vs) e

  inner_judged : (d : ℕ) (p : Place) (fs : List Field) (v : Json) → Judged p (kind.inner d) v (inner_at d p fs v)
  inner_judged d p fs (json.array (item (json.string h) vs)) =
      inner_by d p fs h vs (inner_word h) refl (select_judged d p (kind.inner d) h vs) (within_judged d p (kind.inner d) h vs)
  inner_judged d p fs v = refused p (kind.inner d) v refl

  select_judged : (d : ℕ) (p : Place) (k : Kind) (h : List ℕ) (vs : Items) → elements k (Headed h vs) ≡ two kind.columns (kind.select d) vs → Judged p k (Headed h vs) (select_at d p vs)
  select_judged d p k h (item c (item v no_items)) e =
      both p k kind.columns (kind.select d) h c v (columns_at (p ++ 1 ∷ []) c) _ e (columns_judged (p ++ 1 ∷ []) c) (λ cs. rows_of_judged d (p ++ 2 ∷ []) cs v)
  select_judged d p k h vs e = refused p k (Headed h vs) e

  rows_of_judged : (d : ℕ) (p : Place) (cs : List Name) (v : Json) → Judged p (kind.select d) v (rows_of_at d p cs v)
  rows_of_judged d p cs (json.array (item (json.string s) no_items)) = select_alone d p cs s (behind_select s) refl
  rows_of_judged d p cs (json.array (item (json.string s) (item f no_items))) =
      select_with d p cs s f (behind_select s) refl (filter_judged d (p ++ 1 ∷ []) (kind.filter d) f refl)
  rows_of_judged d p cs (json.array (item (json.string s) (item f (item g vs)))) =
      refused p (kind.select d) (Headed s (item f (item g vs))) (select_few d (behind_select s) f g vs)
  rows_of_judged d p cs v = refused p (kind.select d) v refl

  subquery_judged : (d : ℕ) (p : Place) (k : Kind) (h : List ℕ) (vs : Items) → elements k (Headed h vs) ≡ filter_elements d of_filter.Subquery vs → Judged p k (Headed h vs) (subquery_at d p vs)
  subquery_judged d p k h (item n no_items) e =
      single p k kind.text h n e (then_ok (name_at (p ++ 1 ∷ []) n) (λ n. subquery n no_clause) (name_judged (p ++ 1 ∷ []) n))
  subquery_judged d p k h (item n (item f no_items)) e =
      both p k kind.text (kind.filter d) h n f (name_at (p ++ 1 ∷ []) n) _ e (name_judged (p ++ 1 ∷ []) n)
      (λ n. then_ok (filter_at d (p ++ 2 ∷ []) f) (λ f. subquery n (clause f)) (filter_judged d (p ++ 2 ∷ []) (kind.filter d) f refl))
  subquery_judged d p k h vs e = refused p k (Headed h vs) e

  extract_judged : (d : ℕ) (p : Place) (k : Kind) (v : Json) → elements k v ≡ of_extract d v → Judged p k v (extract_at d p v)
  extract_judged d p k (json.array (item (json.string h) vs)) e =
      extract_by d p k h vs (bytes_eq h (codes "extract")) e (extracted_judged d p k h vs)
  extract_judged d p k v e = refused p k v e

  extracted_judged : (d : ℕ) (p : Place) (k : Kind) (h : List ℕ) (vs : Items) → elements k (Headed h vs) ≡ extract_elements d vs → Judged p k (Headed h vs) (extracted_at d p vs)
  extracted_judged d p k h (item s no_items) e =
      single p k kind.shown h s e (then_ok (shown_at (p ++ 1 ∷ []) s) (λ s. extract s no_clause []) (shown_judged (p ++ 1 ∷ []) s))
  extracted_judged d p k h (item s (item v no_items)) e =
      both p k kind.shown (kind.filter_or_group d) h s v (shown_at (p ++ 1 ∷ []) s) _ e (shown_judged (p ++ 1 ∷ []) s)
      (λ s. either_by (p ++ 2 ∷ []) d v (is_group v) (group_at (p ++ 2 ∷ []) v) (filter_at d (p ++ 2 ∷ []) v) (λ g. extract s no_clause g) (λ f. extract s (clause f) []) refl
      (group_judged (p ++ 2 ∷ []) (kind.filter_or_group d) v) (filter_judged d (p ++ 2 ∷ []) (kind.filter_or_group d) v))
  extracted_judged d p k h (item s (item f (item g no_items))) e =
      listed p k (item (json.string h) (item s (item f (item g no_items)))) (anything ∷ kind.shown ∷ kind.filter d ∷ kind.group ∷ []) e
      (headed p (json.string h) (kind.shown ∷ kind.filter d ∷ kind.group ∷ []) (item s (item f (item g no_items)))
      (reads p 1 kind.shown s (kind.filter d ∷ kind.group ∷ []) (item f (item g no_items)) (shown_at (p ++ 1 ∷ []) s) _ (shown_judged (p ++ 1 ∷ []) s)
      (λ s x. reads p 2 (kind.filter d) f (kind.group ∷ []) (item g no_items) (filter_at d (p ++ 2 ∷ []) f) _ (filter_judged d (p ++ 2 ∷ []) (kind.filter d) f refl)
      (λ f y. last_of p 3 kind.group g (then_ok (group_at (p ++ 3 ∷ []) g) (λ g. extract s (clause f) g) (group_judged (p ++ 3 ∷ []) kind.group g refl))))))
  extracted_judged d p k h vs e = refused p k (Headed h vs) e

  within_judged : (d : ℕ) (p : Place) (k : Kind) (h : List ℕ) (vs : Items) → elements k (Headed h vs) ≡ kind.query_elements d vs → Judged p k (Headed h vs) (query_within d p vs)
  within_judged d p k h (item n (item x vs)) e =
      listed p k (item (json.string h) (item n (item x vs))) (anything ∷ kind.text ∷ kind.extract d ∷ parts [] vs) e
      (headed p (json.string h) (kind.text ∷ kind.extract d ∷ parts [] vs) (item n (item x vs))
      (reads p 1 kind.text n (kind.extract d ∷ parts [] vs) (item x vs) (name_at (p ++ 1 ∷ []) n) _ (name_judged (p ++ 1 ∷ []) n)
      (λ n a. reads p 2 (kind.extract d) x (parts [] vs) vs (extract_at d (p ++ 2 ∷ []) x) _ (extract_judged d (p ++ 2 ∷ []) (kind.extract d) x refl)
      (λ x b. then_ok (paging_at p 3 unpaged vs) (λ g. extracted n x g) (paging_judged p 3 [] [] None None vs has_none)))))
  within_judged d p k h vs e = refused p k (Headed h vs) e

-- ---- whole queries

has_of : (w : PartWord) (v : Json) → word_of v ≡ w → same_part of_part.Limit w ≡ false → same_part of_part.Offset w ≡ false → same_part of_part.OrderBy w ≡ false → Has (v ∷ []) [] None None
has_of w v e a b c = record {
  limits = ap (λ w. same_part of_part.Limit w || false) e ∙ ap (λ b. b || false) a;
  offsets = ap (λ w. same_part of_part.Offset w || false) e ∙ ap (λ b. b || false) b;
  orders = ap (λ w. same_part of_part.OrderBy w || false) e ∙ ap (λ b. b || false) c;
}

paged_judged : (n : Name) (v : Json) (vs : Items) → elements kind.body v ≡ part_elements v → JudgedFrom [] 2 (kind.body ∷ parts (v ∷ []) vs) (item v vs) (paging_at [] 2 unpaged (item v vs) >>= λ g. Ok (level n None no_clause [] g))
paged_judged n v vs e =
    then_ok (paging_at [] 2 unpaged (item v vs)) (λ g. level n None no_clause [] g)
    (renamed [] 2 kind.body (kind.part []) v (parts (v ∷ []) vs) vs e (paging_judged [] 2 [] [] None None (item v vs) has_none))

body_judged : (n : Name) (v : Json) (vs : Items) (w : PartWord) → word_of v ≡ w → JudgedFrom [] 2 (kind.body ∷ parts (v ∷ []) vs) (item v vs) (body_arm [] n w v vs)
body_judged n v vs of_part.Extract e =
    reads [] 2 kind.body v (parts (v ∷ []) vs) vs (extract_at 1 (2 ∷ []) v) _ (extract_judged 1 (2 ∷ []) kind.body v (ap (λ w. body_elements w v) e))
    (λ x s. then_ok (paging_at [] 3 unpaged vs) (λ g. extracted n x g) (paging_judged [] 3 (v ∷ []) [] None None vs (has_of of_part.Extract v e refl refl refl)))
body_judged n v vs of_part.Other e =
    reads [] 2 kind.body v (parts (v ∷ []) vs) vs (filter_at 1 (2 ∷ []) v) _ (filter_judged 1 (2 ∷ []) kind.body v (ap (λ w. body_elements w v) e))
    (λ f s. then_ok (paging_at [] 3 unpaged vs) (λ g. level n None (clause f) [] g) (paging_judged [] 3 (v ∷ []) [] None None vs (has_of of_part.Other v e refl refl refl)))
body_judged n v vs of_part.Limit e = paged_judged n v vs (ap (λ w. body_elements w v) e)
body_judged n v vs of_part.Offset e = paged_judged n v vs (ap (λ w. body_elements w v) e)
body_judged n v vs of_part.OrderBy e = paged_judged n v vs (ap (λ w. body_elements w v) e)

no_whole : (b : Bool) → (if b then kind.whole_elements no_items else None) ≡ None
no_whole true = refl
no_whole false = refl

whole_by : (h : List ℕ) (n : Json) (vs : Items) (b : Bool) → elements kind.query (Headed h (item n vs)) ≡ (if b then kind.whole_elements (item n vs) else None)
    → Judged [] kind.query (Headed h (item n vs)) (if b then (name_at (1 ∷ []) n >>= λ n. body_at [] n vs) else Err [])
whole_by h n no_items true e =
    single [] kind.query kind.text h n e (then_ok (name_at (1 ∷ []) n) (λ n. level n None no_clause [] unpaged) (name_judged (1 ∷ []) n))
whole_by h n (item v vs) true e =
    listed [] kind.query (item (json.string h) (item n (item v vs))) (anything ∷ kind.text ∷ kind.body ∷ parts (v ∷ []) vs) e
    (headed [] (json.string h) (kind.text ∷ kind.body ∷ parts (v ∷ []) vs) (item n (item v vs))
    (reads [] 1 kind.text n (kind.body ∷ parts (v ∷ []) vs) (item v vs) (name_at (1 ∷ []) n) _ (name_judged (1 ∷ []) n) (λ m x. body_judged m v vs (word_of v) refl)))
whole_by h n vs false e = refused [] kind.query (Headed h (item n vs)) e

query_judged : (v : Json) → Judged [] kind.query v (query v)
query_judged (json.array (item (json.string h) (item n vs))) = whole_by h n vs (bytes_eq h (codes "from")) refl
query_judged (json.array (item (json.string h) no_items)) = refused [] kind.query (Headed h no_items) (no_whole (bytes_eq h (codes "from")))
query_judged v = refused [] kind.query v refl

route_by : (e : Name) (v : Json) (w : PartWord) → word_of v ≡ w → Judged [] kind.route v (route_arm e [] w v)
route_by e v of_part.Extract s = then_ok (extract_at 1 [] v) (λ x. extracted e x unpaged) (extract_judged 1 [] kind.route v (ap (λ w. route_elements w v) s))
route_by e v of_part.Other s = then_ok (filter_at 1 [] v) (λ f. level e None (clause f) [] unpaged) (filter_judged 1 [] kind.route v (ap (λ w. route_elements w v) s))
route_by e v of_part.Limit s = then_ok (filter_at 1 [] v) (λ f. level e None (clause f) [] unpaged) (filter_judged 1 [] kind.route v (ap (λ w. route_elements w v) s))
route_by e v of_part.Offset s = then_ok (filter_at 1 [] v) (λ f. level e None (clause f) [] unpaged) (filter_judged 1 [] kind.route v (ap (λ w. route_elements w v) s))
route_by e v of_part.OrderBy s = then_ok (filter_at 1 [] v) (λ f. level e None (clause f) [] unpaged) (filter_judged 1 [] kind.route v (ap (λ w. route_elements w v) s))

first_one : (k : Kind) (v : Json) (r : Read Level) → Judged [] k v r → IsFirst (told r) (IsRefused k v)
first_one k v r h =
    (mapped (IsIn []) (IsIn []) (IsRefused k v) h (λ q b. subst (IsRefused k v) (sym b.1) b.2) (λ q b. (q, refl, b)) (λ q i. i)).is_first

pub first_refusals_are_told : FirstRefusalsAreTold
first_refusals_are_told v = first_one kind.query v (query v) (query_judged v)

pub first_refusals_of_routes_are_told : FirstRefusalsOfRoutesAreTold
first_refusals_of_routes_are_told e v = first_one kind.route v (route_at e [] v) (route_by e v (word_of v) refl)
