-- What is taken of a value's fields meets the rules of its field.
use Rattle.std.proofs.Common.{◌≡◌, ◌∙◌, ℕ, suc, ◌<◌, ◌≤◌, ◌^◌, max, ℤ, List, [], ◌∷◌, ◌++◌, length, length-append, arith, refl, sym, ap, subst, Bool, true, false, ◌&&◌, nat_lt, if◌then◌else◌, Option, Some, None, Result, Ok, Err, ◌/◌, ◌%◌}
use Rattle.std.specs.Prelude.{unwrap_or, flat_map, codes}
use Rattle.std.specs.List.{AllByRecursion, list_all}
use Rattle.std.specs.Char.{is_ascii_digit, digit_char}
use Rattle.std.specs.Str.{bytes_eq}
use Rattle.std.specs.Str.Parse.{digits_value, AllDigits}
use Rattle.std.proofs.lemmas.Int.Digits.{digits_value-lt}
use Rattle.std.proofs.Math.Nat.{pow-le-pow_right}
use Rattle.history_spec.proofs.of_plain_laws.Options.{none_some}
use Rattle.history_spec.specs.text_spec.Json.{Json, null, boolean, number, string, array, object, Items, no_items, item, levels, items_levels, members_levels, members_of, items_list, members_list, find_member}
use Rattle.history_spec.specs.text_spec.Compact.{compact, compact_items, escape_letter, escaped}
use Rattle.history_spec.specs.text_spec.StampReader.{stamp_of}
use Rattle.text_laws.proofs.StampLaws.{stamps_are_read}
use Rattle.history_spec.specs.json_machine.Values.{IsValue, AreValues, AreMemberValues}
use Rattle.history_spec.specs.fleet_rows.declared.refusal.Place.{Place}
use Rattle.history_spec.specs.fleet_rows.declared.refusal.Refusal.{Refusal}
use Rattle.history_spec.specs.wire_spec.Refusals.{field_key}
use Rattle.history_spec.specs.wire_spec.Table.{Pairs, Checked, ◌>>=◌, Takes, text, nonempty_text, is_whole, whole_number, stamp_or, stamp, members, items, taken, required, some_of, taken_if, optional, each_from}
pub use Rattle.history_spec.proofs.of_wire_spec.CountedLaws.{answered}
use Rattle.history_spec.proofs.of_wire_spec.CountedLaws.{counted-found, few_items}
use Rattle.history_spec.proofs.of_text_spec.JsonLemmas.{items_of-list, members_of-list}
use Rattle.history_spec.specs.Lawful.{HasStamp, IfMoment, IfWhole, IsCounted, IsText, IfText, IsJson, IsCertname}

pub refused : {A B : Type 0} (r : Refusal) (a : A) → ◌≡◌ {A = Checked A} (Err r) (Ok a) → B
refused r a h = absurd (let apart : ◌≡◌ {A = Result _ Refusal} (Err r) (Ok a) = h in cc)

pub bound : {A B : Type 0} (c : Checked A) (f : A → Checked B) (b : B) → c >>= f ≡ Ok b → (a : A) × (c ≡ Ok a) × (f a ≡ Ok b)
bound (Ok a) f b h = (a, refl, h)
bound (Err r) f b h = refused r b h

-- ---- members of an object

-- members that are an object of at most n + 1 levels, which 32 bits count
abbrev pub AreFields : ℕ → Pairs → Type 0
AreFields n ms = IsJson (suc n) (object (members_of ms))

module _ (k : List ℕ) where
  value_step : (b : Bool) (m : List ℕ × Json) (ms : Pairs) (j : Json) → IsValue m.1 → (if b then Some m.1 else find_member k ms) ≡ Some j → (find_member k ms ≡ Some j → IsValue j) → IsValue j
  value_step true m ms j v e next = let same : m.1 ≡ j = cc in subst IsValue same v
  value_step false m ms j v e next = next e

  value-found : (ms : Pairs) (j : Json) → AreMemberValues (members_of ms) → find_member k ms ≡ Some j → IsValue j
  value-found [] j h e = none_some j e
  value-found (m ∷ ms) j h e = value_step (bytes_eq k m.0) m ms j h.1 e (value-found ms j h.2)

  levels_step : (b : Bool) (m : List ℕ × Json) (ms : Pairs) (j : Json) → (if b then Some m.1 else find_member k ms) ≡ Some j → (find_member k ms ≡ Some j → levels j ≤ members_levels (members_of ms)) → levels j ≤ members_levels (members_of (m ∷ ms))
  levels_step true m ms j e next = let same : m.1 ≡ j = cc in subst (λ i. levels i ≤ max (levels m.1) (members_levels (members_of ms))) same (omega arith)
  levels_step false m ms j e next = omega (arith, next e)

  levels-found : (ms : Pairs) (j : Json) → find_member k ms ≡ Some j → levels j ≤ members_levels (members_of ms)
  levels-found [] j e = none_some j e
  levels-found (m ∷ ms) j e = levels_step (bytes_eq k m.0) m ms j e (levels-found ms j)

  -- a member's value has a level less
  pub found : (n : ℕ) (ms : Pairs) (j : Json) → AreFields n ms → find_member k ms ≡ Some j → IsJson n j
  found n ms j f e = record {
    value = value-found ms j f.value.0 e;
    levels = omega (arith, levels-found ms j e, f.levels);
    counted = counted-found k ms j e f.counted;
  }

-- ---- elements of a list

-- elements of at most n levels, which 32 bits count, and so many
pub record AreItems (n : ℕ) (js : List Json) : Type 0 where
  pub elements : AllByRecursion (IsJson n) js
  pub counted : IsCounted (length js)

elements_are : (n : ℕ) (x : Items) → AreValues x → items_levels x ≤ n → length (compact_items true x) < 2 ^ 32 → AllByRecursion (IsJson n) (items_list x)
elements_are n no_items v l c = tt
elements_are n (item j x) v l c = (
  record { value = v.0; levels = omega (arith, l); counted = omega (arith, length-append (compact j) (compact_items true x), c) },
  elements_are n x v.1 (omega (arith, l)) (omega (arith, length-append (compact j) (compact_items true x), c)),
)

behind-le : (x : Items) → length (compact_items true x) ≤ length (compact (array x))
behind-le no_items = omega arith
behind-le (item j x) = omega (arith, length-append (compact j) (compact_items true x))

array_is : (n : ℕ) (x : Items) → IsJson (suc n) (array x) → AreItems n (items_list x)
array_is n x v = record {
  elements = elements_are n x v.value (omega (arith, v.levels)) (omega (arith, behind-le x, v.counted));
  counted = few_items (items_list x) (subst (λ y. length (compact (array y)) < 2 ^ 32) (sym (items_of-list x)) v.counted);
}

-- ---- texts

escaped-least : (x : ℕ) → 1 ≤ length (escaped x)
unfolding escaped
escaped-least x = cases (nat_lt 0 (escape_letter x)) (nat_lt x 32) x
  where
    cases : (a b : Bool) (x : ℕ) → 1 ≤ length (if a then 92 ∷ escape_letter x ∷ [] else (if b then codes "\\u00" ++ digit_char (x / 16) ∷ digit_char (x % 16) ∷ [] else x ∷ []))
    cases true b x = omega arith
    cases false true x = omega arith
    cases false false x = omega arith

length-le-escaped : (s : List ℕ) → length s ≤ length (flat_map escaped s)
length-le-escaped [] = omega arith
length-le-escaped (x ∷ s) = omega (arith, length-append (escaped x) (flat_map escaped s), escaped-least x, length-le-escaped s)

string_is : (n : ℕ) (s : List ℕ) → IsJson n (string s) → IsText s
string_is n s v = record {
  utf8 = v.value;
  counted = omega (arith, length-append (flat_map escaped s) (34 ∷ []), length-le-escaped s, v.counted);
}

-- ---- what is taken of one value

certname_is : (n : ℕ) (p : Place) (j : Json) (s : List ℕ) → IsJson n j → nonempty_text p j ≡ Ok s → IsCertname s
certname_is n p null s v h = refused _ s h
certname_is n p (boolean b) s v h = refused _ s h
certname_is n p (number t) s v h = refused _ s h
certname_is n p (string []) s v h = refused _ s h
certname_is n p (string (x ∷ t)) s v h =
    let same : x ∷ t ≡ s = answered (x ∷ t) s h in
    ((λ e. let apart : x ∷ t ≡ [] = same ∙ e in cc), subst IsText same (string_is n (x ∷ t) v))
certname_is n p (array js) s v h = refused _ s h
certname_is n p (object ms) s v h = refused _ s h

pub text_is : (n : ℕ) (p : Place) (j : Json) (s : List ℕ) → IsJson n j → text p j ≡ Ok s → IsText s
text_is n p null s v h = refused _ s h
text_is n p (boolean b) s v h = refused _ s h
text_is n p (number t) s v h = refused _ s h
text_is n p (string t) s v h = subst IsText (answered t s h) (string_is n t v)
text_is n p (array js) s v h = refused _ s h
text_is n p (object ms) s v h = refused _ s h

moment_of : (p : Place) (s : List ℕ) (o : Option ℤ) (m : ℤ) → stamp_of s ≡ o → stamp_or p o ≡ Ok m → HasStamp m
moment_of p s None m e h = refused _ m h
moment_of p s (Some n) m e h = let same : n ≡ m = answered n m h in (s, (stamps_are_read s m).0 (e ∙ ap (λ k. Some k) same))

pub stamp_is : (p : Place) (j : Json) (m : ℤ) → stamp p j ≡ Ok m → HasStamp m
stamp_is p null m h = refused _ m h
stamp_is p (boolean b) m h = refused _ m h
stamp_is p (number t) m h = refused _ m h
stamp_is p (string s) m h = moment_of p s (stamp_of s) m refl h
stamp_is p (array js) m h = refused _ m h
stamp_is p (object ms) m h = refused _ m h

digit_step : (c : ℕ) (b : Bool) (s : List ℕ) → is_ascii_digit c ≡ b → (b && list_all is_ascii_digit s) ≡ true → (list_all is_ascii_digit s ≡ true → AllDigits 10 s) → AllDigits 10 (c ∷ s)
digit_step c true s e h next = ((let digit : is_ascii_digit c ≡ true = e in grind arith), next h)
digit_step c false s e h next = absurd (let apart : false ≡ true = h in cc)

all_digits : (s : List ℕ) → list_all is_ascii_digit s ≡ true → AllDigits 10 s
all_digits [] h = tt
all_digits (c ∷ s) h = digit_step c (is_ascii_digit c) s refl h (all_digits s)

whole_below : (s : List ℕ) → is_whole s ≡ true → digits_value 10 s < 10 ^ 18
whole_below s h =
    let few : length s ≤ 18 = grind arith in
    let digits : list_all is_ascii_digit s ≡ true = grind arith in
    let below : digits_value 10 s < 10 ^ length s = digits_value-lt 10 s (all_digits s digits) in
    let limit : 10 ^ length s ≤ 10 ^ 18 = pow-le-pow_right (omega arith) few in
    omega (arith, below, limit)

whole_if : (p : Place) (s : List ℕ) (b : Bool) (n : ℕ) → is_whole s ≡ b → (r : Refusal) → ◌≡◌ {A = Checked ℕ} (if b then Ok (digits_value 10 s) else Err r) (Ok n) → n < 10 ^ 18
whole_if p s true n e r h = let same : digits_value 10 s ≡ n = answered (digits_value 10 s) n h in subst (λ k. k < 10 ^ 18) same (whole_below s e)
whole_if p s false n e r h = refused r n h

pub whole_is : (p : Place) (j : Json) (n : ℕ) → whole_number p j ≡ Ok n → n < 10 ^ 18
whole_is p null n h = refused _ n h
whole_is p (boolean b) n h = refused _ n h
whole_is p (number s) n h = whole_if p s (is_whole s) n refl _ h
whole_is p (string s) n h = refused _ n h
whole_is p (array js) n h = refused _ n h
whole_is p (object ms) n h = refused _ n h

pub members_are : (n : ℕ) (p : Place) (j : Json) (ms : Pairs) → IsJson n j → members p j ≡ Ok ms → IsJson n (object (members_of ms))
members_are n p null ms v h = refused _ ms h
members_are n p (boolean b) ms v h = refused _ ms h
members_are n p (number s) ms v h = refused _ ms h
members_are n p (string s) ms v h = refused _ ms h
members_are n p (array js) ms v h = refused _ ms h
members_are n p (object x) ms v h =
    subst (λ y. IsJson n (object y)) (sym (members_of-list x) ∙ ap members_of (answered (members_list x) ms h)) v

pub items_are : (n : ℕ) (p : Place) (j : Json) (js : List Json) → IsJson (suc n) j → items p j ≡ Ok js → AreItems n js
items_are n p null js v h = refused _ js h
items_are n p (boolean b) js v h = refused _ js h
items_are n p (number s) js v h = refused _ js h
items_are n p (string s) js v h = refused _ js h
items_are n p (array x) js v h = subst (AreItems n) (answered (items_list x) js h) (array_is n x v)
items_are n p (object ms) js v h = refused _ js h

-- ---- what is taken of a field

module _ {A : Type 0} (takes : Takes A) (p : Place) where
  taken_is : (o : Option Json) (a : A) → taken takes p o ≡ Ok a → (j : Json) × (o ≡ Some j) × (takes p j ≡ Ok a)
  taken_is None a h = refused _ a h
  taken_is (Some j) a h = (j, refl, h)

  pub required_is : (ms : Pairs) (a : A) → required takes p ms ≡ Ok a → (j : Json) × (find_member (field_key p.field) ms ≡ Some j) × (takes p j ≡ Ok a)
  required_is ms a h = taken_is (find_member (field_key p.field) ms) a h

  -- nothing, or what is taken of the field's value
  pub data IsTaken (ms : Pairs) (o : Option A) : Type 0 where
    absent : o ≡ None → IsTaken ms o
    present : (j : Json) (a : A) → find_member (field_key p.field) ms ≡ Some j → takes p j ≡ Ok a → o ≡ Some a → IsTaken ms o

  some_is : (j : Json) (o : Option A) → some_of (takes p j) ≡ Ok o → (a : A) × (takes p j ≡ Ok a) × (o ≡ Some a)
  some_is j o h = let b = bound (takes p j) _ o h in (b.0, b.1, sym (answered (Some b.0) o b.2))

  taken_present : (ms : Pairs) (j : Json) (o : Option A) → find_member (field_key p.field) ms ≡ Some j → some_of (takes p j) ≡ Ok o → IsTaken ms o
  taken_present ms j o e h = let s = some_is j o h in present j s.0 e s.1 s.2

  taken_if_is : (ms : Pairs) (f : Option Json) (o : Option A) → find_member (field_key p.field) ms ≡ f → taken_if takes p f ≡ Ok o → IsTaken ms o
  taken_if_is ms None o e h = absent (sym (answered None o h))
  taken_if_is ms (Some null) o e h = absent (sym (answered None o h))
  taken_if_is ms (Some (boolean b)) o e h = taken_present ms (boolean b) o e h
  taken_if_is ms (Some (number s)) o e h = taken_present ms (number s) o e h
  taken_if_is ms (Some (string s)) o e h = taken_present ms (string s) o e h
  taken_if_is ms (Some (array js)) o e h = taken_present ms (array js) o e h
  taken_if_is ms (Some (object ns)) o e h = taken_present ms (object ns) o e h

  pub optional_is : (ms : Pairs) (o : Option A) → optional takes p ms ≡ Ok o → IsTaken ms o
  optional_is ms o h = taken_if_is ms (find_member (field_key p.field) ms) o refl h

-- ---- what is taken of a field of an object that meets the rules

module _ (n : ℕ) (p : Place) (ms : Pairs) (f : AreFields n ms) where
  pub required_certname : (s : List ℕ) → required nonempty_text p ms ≡ Ok s → IsCertname s
  required_certname s h = let r = required_is nonempty_text p ms s h in certname_is n p r.0 s (found (field_key p.field) n ms r.0 f r.1) r.2

  pub required_text : (s : List ℕ) → required text p ms ≡ Ok s → IsText s
  required_text s h = let r = required_is text p ms s h in text_is n p r.0 s (found (field_key p.field) n ms r.0 f r.1) r.2

  if_text : (q : Option (List ℕ)) → IsTaken text p ms q → IfText q
  if_text q (absent e) = rw e tt
  if_text q (present j s e t r) = rw r (text_is n p j s (found (field_key p.field) n ms j f e) t)

  pub optional_text : (o : Option (List ℕ)) → optional text p ms ≡ Ok o → IfText o
  optional_text o h = if_text o (optional_is text p ms o h)

  pub required_members : (ns : Pairs) → required members p ms ≡ Ok ns → IsJson n (object (members_of ns))
  required_members ns h = let r = required_is members p ms ns h in members_are n p r.0 ns (found (field_key p.field) n ms r.0 f r.1) r.2

module _ (n : ℕ) (p : Place) (ms : Pairs) (f : AreFields (suc n) ms) where
  pub required_items : (js : List Json) → required items p ms ≡ Ok js → AreItems n js
  required_items js h = let r = required_is items p ms js h in items_are n p r.0 js (found (field_key p.field) (suc n) ms r.0 f r.1) r.2

  if_items : (q : Option (List Json)) → IsTaken items p ms q → AreItems n (unwrap_or q [])
  if_items q (absent e) = rw e (record { elements = tt; counted = omega arith })
  if_items q (present j js e t r) = rw r (items_are n p j js (found (field_key p.field) (suc n) ms j f e) t)

  pub optional_items : (o : Option (List Json)) → optional items p ms ≡ Ok o → AreItems n (unwrap_or o [])
  optional_items o h = if_items o (optional_is items p ms o h)

  if_members : (q : Option Pairs) → IsTaken members p ms q → IsJson (suc n) (object (members_of (unwrap_or q [])))
  if_members q (absent e) = rw e (record { value = (tt, tt); levels = omega arith; counted = omega arith })
  if_members q (present j ns e t r) = rw r (members_are (suc n) p j ns (found (field_key p.field) (suc n) ms j f e) t)

  pub optional_members : (o : Option Pairs) → optional members p ms ≡ Ok o → IsJson (suc n) (object (members_of (unwrap_or o [])))
  optional_members o h = if_members o (optional_is members p ms o h)

pub required_stamp : (p : Place) (ms : Pairs) (m : ℤ) → required stamp p ms ≡ Ok m → HasStamp m
required_stamp p ms m h = let r = required_is stamp p ms m h in stamp_is p r.0 m r.2

if_moment : (p : Place) (ms : Pairs) (q : Option ℤ) → IsTaken stamp p ms q → IfMoment q
if_moment p ms q (absent e) = rw e tt
if_moment p ms q (present j m e t s) = rw s (stamp_is p j m t)

pub optional_stamp : (p : Place) (ms : Pairs) (o : Option ℤ) → optional stamp p ms ≡ Ok o → IfMoment o
optional_stamp p ms o h = if_moment p ms o (optional_is stamp p ms o h)

if_whole : (p : Place) (ms : Pairs) (q : Option ℕ) → IsTaken whole_number p ms q → IfWhole q
if_whole p ms q (absent e) = rw e tt
if_whole p ms q (present j n e t s) = rw s (whole_is p j n t)

pub optional_whole : (p : Place) (ms : Pairs) (o : Option ℕ) → optional whole_number p ms ≡ Ok o → IfWhole o
optional_whole p ms o h = if_whole p ms o (optional_is whole_number p ms o h)

-- ---- the elements of a list one after the other

pub each_all : {A B : Type 0} (P : A → Type 0) (Q : B → Type 0) (check : ℕ → A → Checked B) → ((i : ℕ) (a : A) (b : B) → P a → check i a ≡ Ok b → Q b) → (i : ℕ) (as_ : List A) (bs : List B) → AllByRecursion P as_ → each_from i check as_ ≡ Ok bs → AllByRecursion Q bs
each_all P Q check each i [] bs v h = subst (AllByRecursion Q) (answered [] bs h) tt
each_all P Q check each i (a ∷ as_) bs v h =
    let first = bound (check i a) _ bs h in
    let rest = bound (each_from (suc i) check as_) _ bs first.2 in
    subst (AllByRecursion Q) (answered (first.0 ∷ rest.0) bs rest.2) (each i a first.0 v.0 first.1, each_all P Q check each (suc i) as_ rest.0 v.1 rest.1)

pub each_many : {A B : Type 0} (check : ℕ → A → Checked B) (i : ℕ) (as_ : List A) (bs : List B) → each_from i check as_ ≡ Ok bs → length bs ≡ length as_
each_many check i [] bs h = ap length (sym (answered [] bs h))
each_many check i (a ∷ as_) bs h =
    let first = bound (check i a) _ bs h in
    let rest = bound (each_from (suc i) check as_) _ bs first.2 in
    ap length (sym (answered (first.0 ∷ rest.0) bs rest.2)) ∙ ap suc (each_many check (suc i) as_ rest.0 rest.1)

-- ---- lists that are checked, and kept as they came

module _ (check : ℕ → Json → Checked Json) (keep : (i : ℕ) (j k : Json) → check i j ≡ Ok k → k ≡ j) where
  kept : (i : ℕ) (js ks : List Json) → each_from i check js ≡ Ok ks → ks ≡ js
  kept i [] ks h = sym (answered [] ks h)
  kept i (j ∷ js) ks h =
      let a = bound (check i j) _ ks h in
      let b = bound (each_from (suc i) check js) _ ks a.2 in
      sym (answered (a.0 ∷ b.0) ks b.2) ∙ (λ x. keep i j a.0 a.1 x ∷ kept (suc i) js b.0 b.1 x)

  pub kept_items : (n : ℕ) (js ks : List Json) → AreItems n js → each_from 0 check js ≡ Ok ks → AreItems n ks
  kept_items n js ks v h = subst (AreItems n) (sym (kept 0 js ks h)) v

  pub checked_again : (js ks : List Json) → each_from 0 check js ≡ Ok ks → each_from 0 check ks ≡ Ok ks
  checked_again js ks h = ap (each_from 0 check) (kept 0 js ks h) ∙ h
