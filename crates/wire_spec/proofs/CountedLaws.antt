-- A value that a u32 counts: so it does the elements of a list, and what stands in it.
use Rattle.std.proofs.Common.{◌≡◌, ◌∙◌, refl, sym, ap, subst, ℕ, ◌+◌, ◌≤◌, ◌<◌, ◌^◌, List, [], ◌∷◌, length, Bool, true, false, Option, Some, None, Ok, Err, if◌then◌else◌, arith, length-append}
use Rattle.std.specs.Prelude.{IfOk, IfSome}
use Rattle.std.specs.Str.{bytes_eq}
use Rattle.fleet_rows.proofs.of_plain_laws.Options.{some_is, none_some}
use Rattle.fleet_rows.specs.text_spec.Json.{Json, null, boolean, number, string, array, object, member, items_of, members_of, members_list, find_member}
use Rattle.fleet_rows.specs.text_spec.Compact.{compact, compact_items, compact_members}
use Rattle.fleet_rows.proofs.of_text_spec.JsonLemmas.{items_of-list, members_of-list}
use Rattle.fleet_rows.specs.declared.refusal.Place.{Place}
use Rattle.fleet_rows.specs.declared.refusal.Refusal.{Refusal}
use Rattle.fleet_rows.specs.declared.refusal.Refusal.TheVariants.{Wrong}
use Rattle.wire_spec.specs.Refusals.{field_key}
use Rattle.wire_spec.specs.Table.{Pairs, Checked, members, items, taken, taken_if, some_of, required, optional}
use Rattle.wire_spec.specs.Counted.{IsCounted}

-- the length of the texts of a list's elements, each with its comma, and of the closing bracket
abbrev pub listed : List Json → ℕ
listed js = length (compact_items true (items_of js))

pub listed_first : (j : Json) (js : List Json) → listed (j ∷ js) ≡ 1 + length (compact j) + listed js
listed_first j js = omega (arith, length-append (compact j) (compact_items true (items_of js)))

pub listed-le : (js : List Json) → listed js ≤ length (compact (array (items_of js)))
listed-le [] = omega arith
listed-le (j ∷ js) = omega (arith, length-append (compact j) (compact_items true (items_of js)))

pub length-le-listed : (js : List Json) → length js < listed js
length-le-listed [] = omega arith
length-le-listed (j ∷ js) = omega (arith, listed_first j js, length-le-listed js)

-- a list that is counted has fewer than 2 ^ 32 elements
pub few_items : (js : List Json) → IsCounted (array (items_of js)) → length js < 2 ^ 32
few_items js h = omega (arith, listed-le js, length-le-listed js, h)

module _ (k : List ℕ) where
  module _ (later : Bool) (q : List ℕ) (v : Json) (ms : List (List ℕ × Json)) where
    first-le : length (compact v) ≤ length (compact_members later (members_of ((q, v) ∷ ms)))
    first-le = simp length-append (omega arith)

    later-le : length (compact_members true (members_of ms)) ≤ length (compact_members later (members_of ((q, v) ∷ ms)))
    later-le = simp length-append (omega arith)

  found_step : (b : Bool) (later : Bool) (m : List ℕ × Json) (ms : List (List ℕ × Json)) (j : Json) → (if b then Some m.1 else find_member k ms) ≡ Some j → (find_member k ms ≡ Some j → length (compact j) ≤ length (compact_members true (members_of ms))) → length (compact j) ≤ length (compact_members later (members_of (m ∷ ms)))
  found_step true later m ms j h next = let P : Json → Type 0 = λ v. length (compact v) ≤ length (compact_members later (members_of (m ∷ ms))) in subst P (some_is m.1 j h) (first-le later m.0 m.1 ms)
  found_step false later m ms j h next = omega (arith, next h, later-le later m.0 m.1 ms)

  found-le : (later : Bool) (ms : List (List ℕ × Json)) (j : Json) → find_member k ms ≡ Some j → length (compact j) ≤ length (compact_members later (members_of ms))
  found-le later [] j h = none_some j h
  found-le later (m ∷ ms) j h = found_step (bytes_eq k m.0) later m ms j h (found-le true ms j)

  -- the value of a member is counted where its object is
  pub counted-found : (ms : List (List ℕ × Json)) (j : Json) → find_member k ms ≡ Some j → IsCounted (object (members_of ms)) → IsCounted j
  counted-found ms j h c = omega (arith, found-le false ms j h, c)

-- ---- in the words of the table

ok_err : {A P : Type 0} (a : A) (refusal : Refusal) → Ok a ≡ Err refusal → P
ok_err a refusal h = absurd (never h)
  where
    never : Ok a ≡ Err refusal → ⊥
    never h = cc

pub answered : {A : Type 0} (a b : A) → ◌≡◌ {A = Checked A} (Ok a) (Ok b) → a ≡ b
answered a b h = cc

-- an object that is counted has members that are
pub counted-members : (p : Place) (j : Json) (ms : Pairs) → Ok ms ≡ members p j → IsCounted j → IsCounted (object (members_of ms))
counted-members p (object x) ms h c = let e : members_of ms ≡ x = ap members_of (answered ms (members_list x) h) ∙ members_of-list x in subst (λ y. IsCounted (object y)) (sym e) c
counted-members p null ms h c = ok_err ms (Wrong p) h
counted-members p (boolean b) ms h c = ok_err ms (Wrong p) h
counted-members p (number s) ms h c = ok_err ms (Wrong p) h
counted-members p (string s) ms h c = ok_err ms (Wrong p) h
counted-members p (array x) ms h c = ok_err ms (Wrong p) h

abbrev pub IfCounted : Checked (List Json) → Type 0
IfCounted c = IfOk c (λ js. IsCounted (array (items_of js)))

abbrev pub IfCountedSome : Checked (Option (List Json)) → Type 0
IfCountedSome c = IfOk c (λ o. IfSome o (λ js. IsCounted (array (items_of js))))

items_counted : (p : Place) (j : Json) → IsCounted j → IfCounted (items p j)
items_counted p (array x) c = subst (λ y. IsCounted (array y)) (sym (items_of-list x)) c
items_counted p null c = tt
items_counted p (boolean b) c = tt
items_counted p (number s) c = tt
items_counted p (string s) c = tt
items_counted p (object x) c = tt

some_counted : (c : Checked (List Json)) → IfCounted c → IfCountedSome (some_of c)
some_counted (Ok js) h = h
some_counted (Err refusal) h = tt

taken_counted : (p : Place) (o : Option Json) → ((j : Json) → o ≡ Some j → IsCounted j) → IfCounted (taken items p o)
taken_counted p None h = tt
taken_counted p (Some j) h = items_counted p j (h j refl)

taken_if_counted : (p : Place) (o : Option Json) → ((j : Json) → o ≡ Some j → IsCounted j) → IfCountedSome (taken_if items p o)
taken_if_counted p None h = tt
taken_if_counted p (Some null) h = tt
taken_if_counted p (Some (boolean b)) h = tt
taken_if_counted p (Some (number s)) h = tt
taken_if_counted p (Some (string s)) h = tt
taken_if_counted p (Some (object x)) h = tt
taken_if_counted p (Some (array x)) h = some_counted (items p (array x)) (items_counted p (array x) (h (array x) refl))

-- the list of a field of an object that is counted is counted too
pub required-counted : (p : Place) (ms : Pairs) → IsCounted (object (members_of ms)) → IfCounted (required items p ms)
required-counted p ms c = taken_counted p (find_member (field_key p.field) ms) (λ j e. counted-found (field_key p.field) ms j e c)

pub optional-counted : (p : Place) (ms : Pairs) → IsCounted (object (members_of ms)) → IfCountedSome (optional items p ms)
optional-counted p ms c = taken_if_counted p (find_member (field_key p.field) ms) (λ j e. counted-found (field_key p.field) ms j e c)
