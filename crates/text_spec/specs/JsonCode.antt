-- How the logic encodes a JSON value. No contract depends on this file.
use Rattle.std.specs.Prelude.{◌≡◌, ℕ, List, [], ◌∷◌, true, false, eqb, refl}
use Rattle.std.specs.Coded.{Coded, code_by}
use Rattle.std.proofs.Common.{ap}
use base.Stored.{Gv, gnil, gnum, gcons}
use denote.Struct.Codes.{itself}
use Rattle.text_spec.specs.Json.{Json, null, boolean, number, string, array, object, Items, no_items, item, Members, no_members, member}

abbrev pub bytes_to : List ℕ → Gv
bytes_to [] = gnil
bytes_to (x ∷ xs) = gcons (gnum x) (bytes_to xs)

abbrev pub bytes_from : Gv → List ℕ
bytes_from (gcons (gnum x) xs) = x ∷ bytes_from xs
bytes_from _ = []

pub bytes_back : (s : List ℕ) → bytes_from (bytes_to s) ≡ s
bytes_back [] = refl
bytes_back (x ∷ xs) = ap (λ ys. x ∷ ys) (bytes_back xs)

abbrev mutual
  pub json_to : Json → Gv
  json_to null = gnil
  json_to (boolean true) = gnum 1
  json_to (boolean false) = gnum 0
  json_to (number s) = gcons gnil (bytes_to s)
  json_to (string s) = gcons (gnum 0) (bytes_to s)
  json_to (array js) = gcons (gcons gnil gnil) (items_to js)
  json_to (object ms) = gcons (gcons (gnum 0) gnil) (members_to ms)

  pub items_to : Items → Gv
  items_to no_items = gnil
  items_to (item j js) = gcons (json_to j) (items_to js)

  pub members_to : Members → Gv
  members_to no_members = gnil
  members_to (member k j ms) = gcons (bytes_to k) (gcons (json_to j) (members_to ms))

abbrev mutual
  pub json_from : Gv → Json
  json_from gnil = null
  json_from (gnum n) = boolean (eqb n 1)
  json_from (gcons gnil s) = number (bytes_from s)
  json_from (gcons (gnum n) s) = string (bytes_from s)
  json_from (gcons (gcons gnil b) js) = array (items_from js)
  json_from (gcons (gcons (gnum n) b) ms) = object (members_from ms)
  json_from (gcons (gcons (gcons a c) b) s) = null

  pub items_from : Gv → Items
  items_from gnil = no_items
  items_from (gnum n) = no_items
  items_from (gcons j js) = item (json_from j) (items_from js)

  pub members_from : Gv → Members
  members_from gnil = no_members
  members_from (gnum n) = no_members
  members_from (gcons k gnil) = no_members
  members_from (gcons k (gnum n)) = no_members
  members_from (gcons k (gcons j ms)) = member (bytes_from k) (json_from j) (members_from ms)

mutual
  pub json_back : (j : Json) → json_from (json_to j) ≡ j
  json_back null = refl
  json_back (boolean true) = refl
  json_back (boolean false) = refl
  json_back (number s) = ap number (bytes_back s)
  json_back (string s) = ap string (bytes_back s)
  json_back (array js) = ap array (items_back js)
  json_back (object ms) = ap object (members_back ms)

  pub items_back : (js : Items) → items_from (items_to js) ≡ js
  items_back no_items = refl
  items_back (item j js) = λ i. item (json_back j i) (items_back js i)

  pub members_back : (ms : Members) → members_from (members_to ms) ≡ ms
  members_back no_members = refl
  members_back (member k j ms) = λ i. member (bytes_back k i) (json_back j i) (members_back ms i)

abbrev pub coded_json : Coded Json
coded_json = code_by Gv itself json_to json_from json_back
