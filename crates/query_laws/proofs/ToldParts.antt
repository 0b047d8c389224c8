-- What is read is written by a form of the grammar: what is shown, and paging.
use Rattle.std.proofs.Common.{◌≡◌, ◌∙◌, ◌<◌, ◌≤◌, ℕ, ◌+◌, List, [], ◌∷◌, ◌++◌, Bool, true, false, Option, Some, None, Ok, Err, arith, refl, sym, ap, append_assoc, if◌then◌else◌}
use Rattle.std.specs.Prelude.{nat_lt, codes}
use Rattle.std.specs.List.{list_any, AllByRecursion}
use Rattle.std.specs.Str.{bytes_eq}
use Rattle.std.specs.Str.Parse.{digits_value}
use Rattle.std.proofs.lemmas.Bool.Decides.{nat_tests}
use Rattle.std.proofs.lemmas.List.{append-nil}
use Rattle.json_machine.proofs.of_plain_laws.Lists.{one_text}
use Rattle.json_machine.specs.text_spec.Json as json
use Rattle.json_machine.specs.text_spec.Json.{Json, Items, no_items, item}
use Rattle.query_spec.specs.declared.parts.Function.{Function}
use Rattle.query_spec.specs.declared.parts.Function.TheVariants.{Count, Sum, Min, Max}
use Rattle.query_spec.specs.declared.parts.Name.{Name}
use Rattle.query_spec.specs.declared.parts.Order.{Order}
use Rattle.query_spec.specs.declared.parts.Paging.{Paging}
use Rattle.query_spec.specs.declared.parts.Selected.{Selected}
use Rattle.query_spec.specs.declared.parts.Selected.TheVariants as selected
use Rattle.query_spec.specs.declared.words.PartWord.{PartWord}
use Rattle.query_spec.specs.declared.words.PartWord.TheVariants as of_part
use Rattle.query_spec.specs.Ast.{◌>>=◌, name_at, selected_at, selection_at, shown_at, function_form, rows_at, function_at, applied_at, group_at, names_at, count_at, below_limit, order, order_at, orders_at, order_list_at, descends_at, with_limit, with_offset, with_order, paging_at}
use Rattle.query_spec.specs.Parts.{name, clashes, unpaged, are_digits}
use Rattle.query_spec.specs.Words.{part_word, function_named}
use Rattle.query_laws.specs.Grammar.{headed, texts_value, names_from, ShownForm, column, rows, applied, SelectionForm, single, several, shown_value, shown_values, selection_value, shown_meaning, shown_from, selection_meaning, AreApart, IsSelection, OrderForm, ascending, directed, direction, PartForm, limit, offset, order_by, order_value, orders_value, parts_value, order_meaning, orders_from, order_of, offset_of, limit_of, paging_from, limits, offsets, order_lists, IsCount, IsPart, IsPaging}
use Rattle.query_laws.proofs.Arms.{part_arm}
use Rattle.query_laws.proofs.Parted.{Shows, shows-more, clash-same, paging, or_order, or_number, has_order, has_number}
use Rattle.query_laws.proofs.Told.{refused, gave, bound, Told, Any, FunctionSays, function_says, PartSays, part_says, chosen, barred, name_told, names_told}

-- ---- what is shown

-- an output that collides with none so far
abbrev pub SelectedTold : List ℕ → List Selected → Json → Selected → Type 0
SelectedTold p earlier v x = Told Json ShownForm Selected shown_value (shown_meaning p) (λ s. list_any (clashes (shown_meaning p s)) earlier ≡ false) v x

rows_told : (p : List ℕ) (earlier : List Selected) (f : List ℕ) (o : Option Function) (x : Selected) → FunctionSays f o → rows_at p earlier o ≡ Ok x → SelectedTold p earlier (headed (codes "function") (item (json.string f) no_items)) x
rows_told p earlier f (Some Count) x t h =
    let c = barred (list_any (clashes selected.Rows) earlier) (Ok selected.Rows) p x h in
    record { form = rows; good = c.0; value_is = λ k. headed (codes "function") (item (json.string (t k)) no_items); means = gave selected.Rows x c.1 }
rows_told p earlier f (Some Sum) x t h = refused (p ++ 1 ∷ []) x h
rows_told p earlier f (Some Min) x t h = refused (p ++ 1 ∷ []) x h
rows_told p earlier f (Some Max) x t h = refused (p ++ 1 ∷ []) x h
rows_told p earlier f None x t h = refused (p ++ 1 ∷ []) x h

function_told : (p : List ℕ) (earlier : List Selected) (f : List ℕ) (o : Option Function) (v : Json) (x : Selected) → FunctionSays f o → function_at p earlier o v ≡ Ok x → SelectedTold p earlier (headed (codes "function") (item (json.string f) (item v no_items))) x
function_told p earlier f None v x t h = refused (p ++ 1 ∷ []) x h
function_told p earlier f (Some g) v x t h =
    let c = barred (list_any (clashes (selected.Function g (name [] p))) earlier) (applied_at p g v) p x h in
    let b = bound (name_at (p ++ 2 ∷ []) v) (λ n. Ok (selected.Function g n)) x c.1 in
    let n = name_told (p ++ 2 ∷ []) v b.first b.was in
    record {
      form = applied g n.form;
      good = c.0;
      value_is = λ k. headed (codes "function") (item (json.string (t k)) (item (n.value_is k) no_items));
      means = gave (selected.Function g b.first) x b.then_is ∙ ap (selected.Function g) n.means;
    }

form_told : (p : List ℕ) (earlier : List Selected) (h : List ℕ) (vs : Items) (x : Selected) → h ≡ codes "function" → function_form p earlier vs ≡ Ok x → SelectedTold p earlier (headed (codes "function") vs) x
form_told p earlier h (item (json.string f) no_items) x t e = rows_told p earlier f (function_named f) x (function_says f) e
form_told p earlier h (item (json.string f) (item v no_items)) x t e = function_told p earlier f (function_named f) v x (function_says f) e
form_told p earlier h (item v no_items) x t e = refused (p ++ 1 ∷ []) x e
form_told p earlier h (item v (item w no_items)) x t e = refused (p ++ 1 ∷ []) x e
form_told p earlier h _ x t e = refused p x e

pub selected_told : (p : List ℕ) (earlier : List Selected) (v : Json) (x : Selected) → selected_at p earlier v ≡ Ok x → SelectedTold p earlier v x
selected_told p earlier (json.string s) x h =
    let c = barred (list_any (clashes (selected.Column (name s p))) earlier) (Ok (selected.Column (name s p))) p x h in
    record { form = column s; good = c.0; value_is = refl; means = gave (selected.Column (name s p)) x c.1 }
selected_told p earlier (json.array (item (json.string h) vs)) x e =
    let c = chosen (bytes_eq h (codes "function")) (function_form p earlier vs) p x e in
    let t = form_told p earlier h vs x (one_text h (codes "function") c.0) c.1 in
    record { form = t.form; good = t.good; value_is = (λ k. headed (one_text h (codes "function") c.0 k) vs) ∙ t.value_is; means = t.means }
selected_told p earlier _ x h = refused p x h

record SelectionTold (p : List ℕ) (i : ℕ) (es : List ShownForm) (earlier : List Selected) (vs : Items) (xs : List Selected) : Type 0 where
  form : List ShownForm
  apart : AreApart es form
  value_is : vs ≡ shown_values form
  means : xs ≡ earlier ++ shown_from p i form

selection_told : (p : List ℕ) (i : ℕ) (es : List ShownForm) (earlier : List Selected) (vs : Items) (xs : List Selected) → Shows es earlier → selection_at p i earlier vs ≡ Ok xs → SelectionTold p i es earlier vs xs
selection_told p i es earlier no_items xs h e = record { form = []; apart = tt; value_is = refl; means = gave earlier xs e ∙ sym (append-nil earlier) }
selection_told p i es earlier (item v vs) xs h e =
    let b = bound (selected_at (p ++ i ∷ []) earlier v) (λ s. selection_at p (i + 1) (earlier ++ s ∷ []) vs) xs e in
    let one = selected_told (p ++ i ∷ []) earlier v b.first b.was in
    let then_is : selection_at p (i + 1) (earlier ++ shown_meaning (p ++ i ∷ []) one.form ∷ []) vs ≡ Ok xs = (λ k. selection_at p (i + 1) (earlier ++ sym one.means k ∷ []) vs) ∙ b.then_is in
    let rest = selection_told p (i + 1) (es ++ one.form ∷ []) (earlier ++ shown_meaning (p ++ i ∷ []) one.form ∷ []) vs xs (shows-more es earlier one.form (p ++ i ∷ []) h) then_is in
    record {
      form = one.form ∷ rest.form;
      apart = (sym (clash-same one.form (p ++ i ∷ []) es earlier h) ∙ one.good, rest.apart);
      value_is = λ k. item (one.value_is k) (rest.value_is k);
      means = rest.means ∙ append_assoc earlier (shown_meaning (p ++ i ∷ []) one.form ∷ []) (shown_from p (i + 1) rest.form);
    }

abbrev pub ShownTold : List ℕ → Json → List Selected → Type 0
ShownTold p v xs = Told Json SelectionForm (List Selected) selection_value (selection_meaning p) IsSelection v xs

several_told : (p : List ℕ) (v : Json) (vs : Items) (xs : List Selected) → SelectionTold p 0 [] [] (item v vs) xs → ShownTold p (json.array (item v vs)) xs
several_told p v vs xs t = by_form t.form t.apart t.value_is t.means
  where
    by_form : (ss : List ShownForm) → AreApart [] ss → item v vs ≡ shown_values ss → xs ≡ shown_from p 0 ss → ShownTold p (json.array (item v vs)) xs
    by_form [] a e m = absurd (let apart : item v vs ≡ no_items = e in cc)
    by_form (s ∷ ss) a e m = record { form = several s ss; good = a; value_is = ap json.array e; means = m }

pub shown_told : (p : List ℕ) (v : Json) (xs : List Selected) → shown_at p v ≡ Ok xs → ShownTold p v xs
shown_told p (json.string s) xs h = record { form = single s; good = tt; value_is = refl; means = gave (selected.Column (name s p) ∷ []) xs h }
shown_told p (json.array (item v vs)) xs h = several_told p v vs xs (selection_told p 0 [] [] (item v vs) xs tt h)
shown_told p _ xs h = refused p xs h

-- ["group_by", C, ..]
pub record GroupTold (p : List ℕ) (v : Json) (ns : List Name) : Type 0 where
  pub first : List ℕ
  pub others : List (List ℕ)
  pub value_is : v ≡ headed (codes "group_by") (item (json.string first) (texts_value others))
  pub means : ns ≡ names_from p 1 (first ∷ others)

grouped_names : (p h : List ℕ) (v : Json) (vs : Items) (ns : List Name) → h ≡ codes "group_by" → Told Items (List (List ℕ)) (List Name) texts_value (names_from p 1) Any (item v vs) ns → GroupTold p (headed h (item v vs)) ns
grouped_names p h v vs ns w t = by_form t.form t.value_is t.means
  where
    by_form : (ss : List (List ℕ)) → item v vs ≡ texts_value ss → ns ≡ names_from p 1 ss → GroupTold p (headed h (item v vs)) ns
    by_form [] e m = absurd (let apart : item v vs ≡ no_items = e in cc)
    by_form (s ∷ ss) e m = record { first = s; others = ss; value_is = λ k. headed (w k) (e k); means = m }

pub group_told : (p : List ℕ) (v : Json) (ns : List Name) → group_at p v ≡ Ok ns → GroupTold p v ns
group_told p (json.array (item (json.string h) (item v vs))) ns e =
    let c = chosen (bytes_eq h (codes "group_by")) (names_at p 1 (item v vs)) p ns e in
    grouped_names p h v vs ns (one_text h (codes "group_by") c.0) (names_told p 1 (item v vs) ns c.1)
group_told p _ ns e = refused p ns e

-- ---- paging

abbrev CountTold : Json → ℕ → Type 0
CountTold v n = Told Json (List ℕ) ℕ json.number (λ s. digits_value 10 s) IsCount v n

below_told : (p : List ℕ) (m n : ℕ) → below_limit p m ≡ Ok n → (m < 9223372036854775808) × (n ≡ m)
below_told p m n h =
    let c = chosen (nat_lt m 9223372036854775808) (Ok m) p n h in
    let test : nat_lt m 9223372036854775808 ≡ true = c.0 in
    (grind (arith, nat_tests), gave m n c.1)

count_told : (p : List ℕ) (v : Json) (n : ℕ) → count_at p v ≡ Ok n → CountTold v n
count_told p (json.number s) n h =
    let c = chosen (are_digits s) (below_limit p (digits_value 10 s)) p n h in
    let b = below_told p (digits_value 10 s) n c.1 in
    record { form = s; good = (c.0, b.0); value_is = refl; means = b.1 }
count_told p _ n h = refused p n h

abbrev DirectionTold : Json → Bool → Type 0
DirectionTold v d = Told Json Bool Bool (λ b. json.string (direction b)) (λ b. b) Any v d

direction_told : (p : List ℕ) (v : Json) (d : Bool) → descends_at p v ≡ Ok d → DirectionTold v d
direction_told p (json.string s) d h = by_test (bytes_eq s (codes "asc")) (bytes_eq s (codes "desc")) refl refl h
  where
    by_test : (a b : Bool) → bytes_eq s (codes "asc") ≡ a → bytes_eq s (codes "desc") ≡ b → (if a then Ok false else (if b then Ok true else Err p)) ≡ Ok d → DirectionTold (json.string s) d
    by_test true b x y e = record { form = false; good = tt; value_is = ap json.string (one_text s (codes "asc") x); means = gave false d e }
    by_test false true x y e = record { form = true; good = tt; value_is = ap json.string (one_text s (codes "desc") y); means = gave true d e }
    by_test false false x y e = refused p d e
direction_told p _ d h = refused p d h

abbrev OrderTold : List ℕ → Json → Order → Type 0
OrderTold p v o = Told Json OrderForm Order order_value (order_meaning p) Any v o

order_told : (p : List ℕ) (v : Json) (o : Order) → order_at p v ≡ Ok o → OrderTold p v o
order_told p (json.string s) o h = record { form = ascending s; good = tt; value_is = refl; means = gave (order (name s p) false) o h }
order_told p (json.array (item c (item d no_items))) o h =
    let b = bound (name_at (p ++ 0 ∷ []) c) (λ n. descends_at (p ++ 1 ∷ []) d >>= λ d. Ok (order n d)) o h in
    let e = bound (descends_at (p ++ 1 ∷ []) d) (λ d. Ok (order b.first d)) o b.then_is in
    let n = name_told (p ++ 0 ∷ []) c b.first b.was in
    let t = direction_told (p ++ 1 ∷ []) d e.first e.was in
    record {
      form = directed n.form t.form;
      good = tt;
      value_is = λ k. json.array (item (n.value_is k) (item (t.value_is k) no_items));
      means = gave (order b.first e.first) o e.then_is ∙ (λ k. order (n.means k) (t.means k));
    }
order_told p _ o h = refused p o h

abbrev OrdersTold : List ℕ → ℕ → Items → List Order → Type 0
OrdersTold p i vs os = Told Items (List OrderForm) (List Order) orders_value (orders_from p i) Any vs os

orders_told : (p : List ℕ) (i : ℕ) (vs : Items) (os : List Order) → orders_at p i vs ≡ Ok os → OrdersTold p i vs os
orders_told p i no_items os h = record { form = []; good = tt; value_is = refl; means = gave [] os h }
orders_told p i (item v vs) os h =
    let b = bound (order_at (p ++ i ∷ []) v) (λ o. orders_at p (i + 1) vs >>= λ os. Ok (o ∷ os)) os h in
    let c = bound (orders_at p (i + 1) vs) (λ os. Ok (b.first ∷ os)) os b.then_is in
    let one = order_told (p ++ i ∷ []) v b.first b.was in
    let rest = orders_told p (i + 1) vs c.first c.was in
    record {
      form = one.form ∷ rest.form;
      good = tt;
      value_is = λ k. item (one.value_is k) (rest.value_is k);
      means = gave (b.first ∷ c.first) os c.then_is ∙ (λ k. one.means k ∷ rest.means k);
    }

-- at least one
record OrderListTold (p : List ℕ) (v : Json) (os : List Order) : Type 0 where
  first : OrderForm
  others : List OrderForm
  value_is : v ≡ json.array (item (order_value first) (orders_value others))
  means : os ≡ orders_from p 0 (first ∷ others)

order_list_told : (p : List ℕ) (v : Json) (os : List Order) → order_list_at p v ≡ Ok os → OrderListTold p v os
order_list_told p (json.array (item v vs)) os h = by_form t.form t.value_is t.means
  where
    t : OrdersTold p 0 (item v vs) os
    t = orders_told p 0 (item v vs) os h

    by_form : (qs : List OrderForm) → item v vs ≡ orders_value qs → os ≡ orders_from p 0 qs → OrderListTold p (json.array (item v vs)) os
    by_form [] e m = absurd (let apart : item v vs ≡ no_items = e in cc)
    by_form (q ∷ qs) e m = record { first = q; others = qs; value_is = ap json.array e; means = m }
order_list_told p _ os h = refused p os h

-- the parts that follow what is there already
record PartsTold (p : List ℕ) (i : ℕ) (os : List Order) (o l : Option ℕ) (vs : Items) (g : Paging) : Type 0 where
  form : List PartForm
  parts : AllByRecursion IsPart form
  one_order : has_order os + order_lists form ≤ 1
  one_offset : has_number o + offsets form ≤ 1
  one_limit : has_number l + limits form ≤ 1
  value_is : vs ≡ parts_value form
  means : g ≡ paging (or_order os (order_of p i form)) (or_number o (offset_of form)) (or_number l (limit_of form))

few_orders : (os : List Order) → has_order os ≤ 1
few_orders [] = omega arith
few_orders (o ∷ os) = omega arith

few_numbers : (o : Option ℕ) → has_number o ≤ 1
few_numbers None = omega arith
few_numbers (Some n) = omega arith

order_stays : (os : List Order) → or_order os [] ≡ os
order_stays [] = refl
order_stays (o ∷ os) = refl

number_stays : (o : Option ℕ) → or_number o None ≡ o
number_stays None = refl
number_stays (Some n) = refl

no_part : (p : List ℕ) (i : ℕ) (os : List Order) (o l : Option ℕ) (g : Paging) → g ≡ paging os o l → PartsTold p i os o l no_items g
no_part p i os o l g e = record {
  form = [];
  parts = tt;
  one_order = omega (arith, few_orders os);
  one_offset = omega (arith, few_numbers o);
  one_limit = omega (arith, few_numbers l);
  value_is = refl;
  means = e ∙ (λ k. paging (sym (order_stays os) k) (sym (number_stays o) k) (sym (number_stays l) k));
}

-- a part, and those behind it
limit_part : (p : List ℕ) (i : ℕ) (os : List Order) (o : Option ℕ) (h : List ℕ) (v : Json) (vs : Items) (n : ℕ) (g : Paging) → h ≡ codes "limit" → CountTold v n → PartsTold p (i + 1) os o (Some n) vs g → PartsTold p i os o None (item (headed h (item v no_items)) vs) g
limit_part p i os o h v vs n g w c r =
    let fits : 1 + limits r.form ≤ 1 = r.one_limit in
    record {
      form = limit c.form ∷ r.form;
      parts = (c.good, r.parts);
      one_order = r.one_order;
      one_offset = r.one_offset;
      one_limit = omega arith;
      value_is = λ k. item (headed (w k) (item (c.value_is k) no_items)) (r.value_is k);
      means = r.means ∙ (λ k. paging (or_order os (order_of p (i + 1) r.form)) (or_number o (offset_of r.form)) (Some (c.means k)));
    }

offset_part : (p : List ℕ) (i : ℕ) (os : List Order) (l : Option ℕ) (h : List ℕ) (v : Json) (vs : Items) (n : ℕ) (g : Paging) → h ≡ codes "offset" → CountTold v n → PartsTold p (i + 1) os (Some n) l vs g → PartsTold p i os None l (item (headed h (item v no_items)) vs) g
offset_part p i os l h v vs n g w c r =
    let fits : 1 + offsets r.form ≤ 1 = r.one_offset in
    record {
      form = offset c.form ∷ r.form;
      parts = (c.good, r.parts);
      one_order = r.one_order;
      one_offset = omega arith;
      one_limit = r.one_limit;
      value_is = λ k. item (headed (w k) (item (c.value_is k) no_items)) (r.value_is k);
      means = r.means ∙ (λ k. paging (or_order os (order_of p (i + 1) r.form)) (Some (c.means k)) (or_number l (limit_of r.form)));
    }

order_part : (p : List ℕ) (i : ℕ) (o l : Option ℕ) (h : List ℕ) (v : Json) (vs : Items) (qs : List Order) (g : Paging) → h ≡ codes "order_by" → OrderListTold ((p ++ i ∷ []) ++ 1 ∷ []) v qs → PartsTold p (i + 1) qs o l vs g → PartsTold p i [] o l (item (headed h (item v no_items)) vs) g
order_part p i o l h v vs qs g w c r =
    let fits : has_order qs + order_lists r.form ≤ 1 = r.one_order in
    let there : has_order qs ≡ 1 = ap has_order c.means in
    record {
      form = order_by c.first c.others ∷ r.form;
      parts = (tt, r.parts);
      one_order = omega arith;
      one_offset = r.one_offset;
      one_limit = r.one_limit;
      value_is = λ k. item (headed (w k) (item (c.value_is k) no_items)) (r.value_is k);
      means = r.means ∙ (λ k. paging (or_order (c.means k) (order_of p (i + 1) r.form)) (or_number o (offset_of r.form)) (or_number l (limit_of r.form)));
    }

-- the paging behind a part, and what is read from there on
abbrev Behind : List ℕ → ℕ → Items → Paging → Type 0
Behind p i vs g = (os : List Order) (o l : Option ℕ) → paging_at p (i + 1) (paging os o l) vs ≡ Ok g → PartsTold p (i + 1) os o l vs g

part_by : (p : List ℕ) (i : ℕ) (os : List Order) (o l : Option ℕ) (h : List ℕ) (v : Json) (vs : Items) (g : Paging) (w : PartWord) → PartSays h w → Behind p i vs g → (part_arm (p ++ i ∷ []) w (paging os o l) v >>= λ g. paging_at p (i + 1) g vs) ≡ Ok g → PartsTold p i os o l (item (headed h (item v no_items)) vs) g
part_by p i os o None h v vs g of_part.Limit t next e =
    let b = bound (with_limit (p ++ i ∷ []) (paging os o None) v) (λ g. paging_at p (i + 1) g vs) g e in
    let c = bound (count_at ((p ++ i ∷ []) ++ 1 ∷ []) v) (λ n. Ok (paging os o (Some n))) b.first b.was in
    let then_is : paging_at p (i + 1) (paging os o (Some c.first)) vs ≡ Ok g = (λ k. paging_at p (i + 1) (sym (gave (paging os o (Some c.first)) b.first c.then_is) k) vs) ∙ b.then_is in
    limit_part p i os o h v vs c.first g t (count_told ((p ++ i ∷ []) ++ 1 ∷ []) v c.first c.was) (next os o (Some c.first) then_is)
part_by p i os o (Some m) h v vs g of_part.Limit t next e = refused (p ++ i ∷ []) g e
part_by p i os None l h v vs g of_part.Offset t next e =
    let b = bound (with_offset (p ++ i ∷ []) (paging os None l) v) (λ g. paging_at p (i + 1) g vs) g e in
    let c = bound (count_at ((p ++ i ∷ []) ++ 1 ∷ []) v) (λ n. Ok (paging os (Some n) l)) b.first b.was in
    let then_is : paging_at p (i + 1) (paging os (Some c.first) l) vs ≡ Ok g = (λ k. paging_at p (i + 1) (sym (gave (paging os (Some c.first) l) b.first c.then_is) k) vs) ∙ b.then_is in
    offset_part p i os l h v vs c.first g t (count_told ((p ++ i ∷ []) ++ 1 ∷ []) v c.first c.was) (next os (Some c.first) l then_is)
part_by p i os (Some m) l h v vs g of_part.Offset t next e = refused (p ++ i ∷ []) g e
part_by p i [] o l h v vs g of_part.OrderBy t next e =
    let b = bound (with_order (p ++ i ∷ []) (paging [] o l) v) (λ g. paging_at p (i + 1) g vs) g e in
    let c = bound (order_list_at ((p ++ i ∷ []) ++ 1 ∷ []) v) (λ os. Ok (paging os o l)) b.first b.was in
    let then_is : paging_at p (i + 1) (paging c.first o l) vs ≡ Ok g = (λ k. paging_at p (i + 1) (sym (gave (paging c.first o l) b.first c.then_is) k) vs) ∙ b.then_is in
    order_part p i o l h v vs c.first g t (order_list_told ((p ++ i ∷ []) ++ 1 ∷ []) v c.first c.was) (next c.first o l then_is)
part_by p i (q ∷ os) o l h v vs g of_part.OrderBy t next e = refused (p ++ i ∷ []) g e
part_by p i os o l h v vs g of_part.Extract t next e = refused (p ++ i ∷ []) g e
part_by p i os o l h v vs g of_part.Other t next e = refused (p ++ i ∷ []) g e

parts_told : (p : List ℕ) (i : ℕ) (os : List Order) (o l : Option ℕ) (vs : Items) (g : Paging) → paging_at p i (paging os o l) vs ≡ Ok g → PartsTold p i os o l vs g
parts_told p i os o l no_items g e = no_part p i os o l g (gave (paging os o l) g e)
parts_told p i os o l (item (json.array (item (json.string h) (item v no_items))) vs) g e =
    part_by p i os o l h v vs g (part_word h) (part_says h) (λ os o l. parts_told p (i + 1) os o l vs g) e
parts_told p i os o l (item _ vs) g e = refused (p ++ i ∷ []) g e

pub paging_told : (p : List ℕ) (i : ℕ) (vs : Items) (g : Paging) → paging_at p i unpaged vs ≡ Ok g → Told Items (List PartForm) Paging parts_value (paging_from p i) IsPaging vs g
paging_told p i vs g e =
    let t = parts_told p i [] None None vs g e in
    record { form = t.form; good = paged t; value_is = t.value_is; means = t.means }
  where
    paged : (t : PartsTold p i [] None None vs g) → IsPaging t.form
    paged t = record { parts = t.parts; one_limit = omega arith; one_offset = omega arith; one_order = omega arith }
