-- JSON values (RFC 8259, section 3). A text is the list of its UTF-8 bytes. A number is its spelling.
use Rattle.std.specs.Prelude.{◌≡◌, ℕ, suc, max, List, [], ◌∷◌, Bool, if◌then◌else◌, Option, Some, None}
use Rattle.std.specs.Str.{bytes_eq}

mutual
  pub data Json : Type 0 where
    null : Json
    boolean : Bool → Json
    number : List ℕ → Json
    string : List ℕ → Json
    array : Items → Json
    object : Members → Json

  pub data Items : Type 0 where
    no_items : Items
    item : Json → Items → Items

  pub data Members : Type 0 where
    no_members : Members
    member : List ℕ → Json → Members → Members

-- the two list types, to and from plain lists
abbrev pub items_of : List Json → Items
items_of [] = no_items
items_of (j ∷ js) = item j (items_of js)

abbrev pub items_list : Items → List Json
items_list no_items = []
items_list (item j js) = j ∷ items_list js

abbrev pub members_of : List (List ℕ × Json) → Members
members_of [] = no_members
members_of (m ∷ ms) = member m.0 m.1 (members_of ms)

abbrev pub members_list : Members → List (List ℕ × Json)
members_list no_members = []
members_list (member k j ms) = (k, j) ∷ members_list ms

-- how deep arrays and objects nest: 0 for a scalar, 1 for an empty array or object or one of scalars
abbrev mutual
  pub levels : Json → ℕ
  levels null = 0
  levels (boolean b) = 0
  levels (number s) = 0
  levels (string s) = 0
  levels (array js) = suc (items_levels js)
  levels (object ms) = suc (members_levels ms)

  pub items_levels : Items → ℕ
  items_levels no_items = 0
  items_levels (item j js) = max (levels j) (items_levels js)

  pub members_levels : Members → ℕ
  members_levels no_members = 0
  members_levels (member k j ms) = max (levels j) (members_levels ms)

-- the value of the first member with this key
abbrev pub find_member : List ℕ → List (List ℕ × Json) → Option Json
find_member k [] = None
find_member k (m ∷ ms) = if bytes_eq k m.0 then Some m.1 else find_member k ms

-- sets the value of k: replaces the value of an equal key in its position, or appends the member
abbrev pub set_member : List ℕ → Json → List (List ℕ × Json) → List (List ℕ × Json)
set_member k j [] = (k, j) ∷ []
set_member k j (m ∷ ms) = if bytes_eq k m.0 then (m.0, j) ∷ ms else m ∷ set_member k j ms

-- the members without the first one that has this key
abbrev pub without_member : List ℕ → List (List ℕ × Json) → List (List ℕ × Json)
without_member k [] = []
without_member k (m ∷ ms) = if bytes_eq k m.0 then ms else m ∷ without_member k ms

-- sets the members one after the other, on top of `done`: a later equal key replaces the value and keeps the first position
abbrev pub settled : List (List ℕ × Json) → List (List ℕ × Json) → List (List ℕ × Json)
settled done [] = done
settled done (m ∷ ms) = settled (set_member m.0 m.1 done) ms

-- no two members have the same key
abbrev pub HasDistinctKeys : List (List ℕ × Json) → Type 0
HasDistinctKeys [] = Unit {0}
HasDistinctKeys (m ∷ ms) = (find_member m.0 ms ≡ None) × HasDistinctKeys ms
