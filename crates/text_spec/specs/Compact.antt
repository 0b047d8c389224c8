-- The two texts that are written for a JSON value: the compact text, and the canonical text with sorted members.
use Rattle.std.specs.Prelude.{ℕ, ◌/◌, ◌%◌, List, [], ◌∷◌, ◌++◌, Bool, true, false, ◌||◌, ◌==◌, nat_lt, if◌then◌else◌, flat_map, codes}
use Rattle.std.specs.declared.cmp.Ordering.{Ordering}
use Rattle.std.specs.Ordering.{nat_cmp, is_gt}
use Rattle.std.specs.Cmp.Lexicographic.{slice_cmp}
use Rattle.std.specs.Char.{digit_char}
use Rattle.text_spec.specs.Json.{Json, null, boolean, number, string, array, object, Items, no_items, item, Members, no_members, member}

-- ---- the compact text

-- the letter of the short escape of the byte x; 0 if x has none
abbrev pub escape_letter : ℕ → ℕ
escape_letter x = if (x == 34) || (x == 92) then x else (if x == 8 then 98 else (if x == 9 then 116 else (if x == 10 then 110 else (if x == 12 then 102 else (if x == 13 then 114 else 0)))))

-- how a string writes the byte x: a short escape if there is one, otherwise \u00 and two lower-case hexadecimal digits if x is
-- below 32, otherwise the byte itself (section 7)
unfoldable pub escaped : ℕ → List ℕ
escaped x =
    if nat_lt 0 (escape_letter x) then 92 ∷ escape_letter x ∷ []
    else (if nat_lt x 32 then codes "\\u00" ++ digit_char (x / 16) ∷ digit_char (x % 16) ∷ [] else x ∷ [])

abbrev pub quoted : List ℕ → List ℕ
quoted s = 34 ∷ (flat_map escaped s ++ 34 ∷ [])

-- a comma, if an item or member stands before
abbrev pub comma_if : Bool → List ℕ
comma_if later = if later then 44 ∷ [] else []

-- no white space, members in their order, numbers as spelled
abbrev mutual
  pub compact : Json → List ℕ
  compact null = codes "null"
  compact (boolean b) = if b then codes "true" else codes "false"
  compact (number s) = s
  compact (string s) = quoted s
  compact (array js) = 91 ∷ compact_items false js
  compact (object ms) = 123 ∷ compact_members false ms

  -- with the closing bracket; `later` is true if an item stands before
  pub compact_items : Bool → Items → List ℕ
  compact_items later no_items = 93 ∷ []
  compact_items later (item j js) = comma_if later ++ compact j ++ compact_items true js

  pub compact_members : Bool → Members → List ℕ
  compact_members later no_members = 125 ∷ []
  compact_members later (member k j ms) = comma_if later ++ quoted k ++ 58 ∷ (compact j ++ compact_members true ms)

-- ---- the canonical text

-- texts by their bytes; a prefix sorts first
abbrev pub text_cmp : List ℕ → List ℕ → Ordering
text_cmp = slice_cmp nat_cmp

-- inserts the member before the first member whose key isn't smaller
abbrev pub insert_member : List ℕ → Json → Members → Members
insert_member k j no_members = member k j no_members
insert_member k j (member l i ms) =
    if is_gt (text_cmp k l) then member l i (insert_member k j ms) else member k j (member l i ms)

-- the value with the members of each object sorted by the bytes of their keys
abbrev mutual
  pub arranged : Json → Json
  arranged null = null
  arranged (boolean b) = boolean b
  arranged (number s) = number s
  arranged (string s) = string s
  arranged (array js) = array (arranged_items js)
  arranged (object ms) = object (arranged_members ms)

  pub arranged_items : Items → Items
  arranged_items no_items = no_items
  arranged_items (item j js) = item (arranged j) (arranged_items js)

  pub arranged_members : Members → Members
  arranged_members no_members = no_members
  arranged_members (member k j ms) = insert_member k (arranged j) (arranged_members ms)

abbrev pub canonical : Json → List ℕ
canonical j = compact (arranged j)
