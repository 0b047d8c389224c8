-- JSON texts (RFC 8259) as syntax trees, with one constructor per production. Each tree has a text and a value.
use Rattle.std.specs.Prelude.{◌≡◌, ℕ, suc, ◌+◌, ◌-◌, ◌*◌, ◌<◌, ◌≤◌, max, List, [], ◌∷◌, ◌++◌, length, take, Bool, ◌||◌, ◌==◌, if◌then◌else◌, flat_map, codes, IsTrue, ◌⊎◌}
use Rattle.std.specs.Char.{encode_utf8, IsScalar}
use Rattle.std.specs.Str.Parse.{digits_value, AllDigits}
use Rattle.std.specs.List.{AllByRecursion}
use Rattle.text_spec.specs.Json as spec
use Rattle.text_spec.specs.Json.{Json, Items, item, no_items, members_of, settled}
use Rattle.text_spec.specs.Number.{IsNumber}

-- ---- section 7: strings

-- a text is UTF-8 by construction: its non-ASCII bytes are encoded characters (section 8.1)

-- one character of a string: written as itself, as a short escape, as \u with a code point that is no surrogate, or as two \u
-- escapes with a high and a low surrogate
pub data Piece : Type 0 where
  plain : ℕ → Piece
  short : ℕ → Piece
  unit : List ℕ → Piece
  pair : List ℕ → List ℕ → Piece

abbrev pub piece_text : Piece → List ℕ
piece_text (plain c) = encode_utf8 c
piece_text (short c) = 92 ∷ c ∷ []
piece_text (unit digits) = 92 ∷ 117 ∷ digits
piece_text (pair high low) = 92 ∷ 117 ∷ (high ++ 92 ∷ 117 ∷ low)

-- the byte that a short escape denotes
abbrev pub short_meaning : ℕ → ℕ
short_meaning c = if c == 98 then 8 else (if c == 116 then 9 else (if c == 110 then 10 else (if c == 102 then 12 else (if c == 114 then 13 else c))))

abbrev pub hex_value : List ℕ → ℕ
hex_value digits = digits_value 16 digits

-- the character in UTF-8
abbrev pub piece_bytes : Piece → List ℕ
piece_bytes (plain c) = encode_utf8 c
piece_bytes (short c) = short_meaning c ∷ []
piece_bytes (unit digits) = encode_utf8 (hex_value digits)
piece_bytes (pair high low) = encode_utf8 (65_536 + (hex_value high - 55_296) * 1_024 + (hex_value low - 56_320))

abbrev pub is_short : ℕ → Bool
is_short c = (c == 34) || (c == 92) || (c == 47) || (c == 98) || (c == 102) || (c == 110) || (c == 114) || (c == 116)

abbrev pub IsHex : List ℕ → Type 0
IsHex digits = (length digits ≡ 4) × AllDigits 16 digits

abbrev pub IsPiece : Piece → Type 0
IsPiece (plain c) = IsScalar c × (32 ≤ c) × (¬ (c ≡ 34)) × (¬ (c ≡ 92))
IsPiece (short c) = IsTrue (is_short c)
IsPiece (unit digits) = IsHex digits × ((hex_value digits < 55_296) ⊎ (57_344 ≤ hex_value digits))
IsPiece (pair high low) =
    IsHex high × IsHex low × (55_296 ≤ hex_value high) × (hex_value high < 56_320)
    × (56_320 ≤ hex_value low) × (hex_value low < 57_344)

abbrev pub string_text : List Piece → List ℕ
string_text ps = 34 ∷ (flat_map piece_text ps ++ 34 ∷ [])

abbrev pub string_bytes : List Piece → List ℕ
string_bytes = flat_map piece_bytes

-- ---- sections 2 to 5: values, arrays and objects, with the white space around them

abbrev pub IsSpaceByte : ℕ → Type 0
IsSpaceByte x = IsTrue ((x == 32) || (x == 9) || (x == 10) || (x == 13))

abbrev pub IsSpace : List ℕ → Type 0
IsSpace [] = Unit {0}
IsSpace (x ∷ xs) = IsSpaceByte x × IsSpace xs

mutual
  pub data Tree : Type 0 where
    null : Tree
    boolean : Bool → Tree
    number : List ℕ → Tree
    string : List Piece → Tree
    empty_array : List ℕ → Tree
    array : Element → Elements → Tree
    empty_object : List ℕ → Tree
    object : Member → Members → Tree

  -- a value with the white space on both sides
  pub data Element : Type 0 where
    element : List ℕ → Tree → List ℕ → Element

  -- the further items, each after a comma
  pub data Elements : Type 0 where
    last_element : Elements
    next_element : Element → Elements → Elements

  -- white space, the key, white space, a colon, the value
  pub data Member : Type 0 where
    member : List ℕ → List Piece → List ℕ → Element → Member

  pub data Members : Type 0 where
    last_member : Members
    next_member : Member → Members → Members

abbrev mutual
  pub text : Tree → List ℕ
  text null = codes "null"
  text (boolean b) = if b then codes "true" else codes "false"
  text (number s) = s
  text (string ps) = string_text ps
  text (empty_array space) = 91 ∷ (space ++ 93 ∷ [])
  text (array e es) = 91 ∷ (element_text e ++ elements_text es)
  text (empty_object space) = 123 ∷ (space ++ 125 ∷ [])
  text (object m ms) = 123 ∷ (member_text m ++ members_text ms)

  pub element_text : Element → List ℕ
  element_text (element before t after) = before ++ text t ++ after

  -- with the closing bracket
  pub elements_text : Elements → List ℕ
  elements_text last_element = 93 ∷ []
  elements_text (next_element e es) = 44 ∷ (element_text e ++ elements_text es)

  pub member_text : Member → List ℕ
  member_text (member before key after e) = before ++ string_text key ++ after ++ 58 ∷ element_text e

  pub members_text : Members → List ℕ
  members_text last_member = 125 ∷ []
  members_text (next_member m ms) = 44 ∷ (member_text m ++ members_text ms)

-- the value of a tree; an object sets its members one after the other
abbrev mutual
  pub value : Tree → Json
  value null = spec.null
  value (boolean b) = spec.boolean b
  value (number s) = spec.number s
  value (string ps) = spec.string (string_bytes ps)
  value (empty_array space) = spec.array no_items
  value (array e es) = spec.array (item (element_value e) (elements_value es))
  value (empty_object space) = spec.object (members_of [])
  value (object m ms) = spec.object (members_of (settled [] (member_pair m ∷ member_pairs ms)))

  pub element_value : Element → Json
  element_value (element before t after) = value t

  pub elements_value : Elements → Items
  elements_value last_element = no_items
  elements_value (next_element e es) = item (element_value e) (elements_value es)

  pub member_pair : Member → List ℕ × Json
  member_pair (member before key after e) = (string_bytes key, element_value e)

  pub member_pairs : Members → List (List ℕ × Json)
  member_pairs last_member = []
  member_pairs (next_member m ms) = member_pair m ∷ member_pairs ms

-- each part follows its production
abbrev mutual
  pub IsTree : Tree → Type 0
  IsTree null = Unit {0}
  IsTree (boolean b) = Unit {0}
  IsTree (number s) = IsNumber s
  IsTree (string ps) = AllByRecursion IsPiece ps
  IsTree (empty_array space) = IsSpace space
  IsTree (array e es) = IsElement e × AreElements es
  IsTree (empty_object space) = IsSpace space
  IsTree (object m ms) = IsMember m × AreMembers ms

  pub IsElement : Element → Type 0
  IsElement (element before t after) = IsSpace before × IsTree t × IsSpace after

  pub AreElements : Elements → Type 0
  AreElements last_element = Unit {0}
  AreElements (next_element e es) = IsElement e × AreElements es

  pub IsMember : Member → Type 0
  IsMember (member before key after e) = IsSpace before × AllByRecursion IsPiece key × IsSpace after × IsElement e

  pub AreMembers : Members → Type 0
  AreMembers last_member = Unit {0}
  AreMembers (next_member m ms) = IsMember m × AreMembers ms

-- how deep the brackets of the text nest; replaced members count too
abbrev mutual
  pub depth : Tree → ℕ
  depth null = 0
  depth (boolean b) = 0
  depth (number s) = 0
  depth (string ps) = 0
  depth (empty_array space) = 1
  depth (array e es) = suc (max (element_depth e) (elements_depth es))
  depth (empty_object space) = 1
  depth (object m ms) = suc (max (member_depth m) (members_depth ms))

  pub element_depth : Element → ℕ
  element_depth (element before t after) = depth t

  pub elements_depth : Elements → ℕ
  elements_depth last_element = 0
  elements_depth (next_element e es) = max (element_depth e) (elements_depth es)

  pub member_depth : Member → ℕ
  member_depth (member before key after e) = element_depth e

  pub members_depth : Members → ℕ
  members_depth last_member = 0
  members_depth (next_member m ms) = max (member_depth m) (members_depth ms)

-- ---- the relation between a text and its value

-- the bytes spell the value with at most n levels
pub record SpellsWithin (n : ℕ) (bytes : List ℕ) (v : Json) : Type 0 where
  pub tree : Element
  pub is_tree : IsElement tree
  pub bytes_are : bytes ≡ element_text tree
  pub value_is : v ≡ element_value tree
  pub levels : element_depth tree ≤ n

-- section 9 lets a reader limit the depth of nesting: the limit here is 127 levels
abbrev pub Spells : List ℕ → Json → Type 0
Spells = SpellsWithin 127

-- ---- where a text that isn't JSON goes wrong

-- the bytes are a prefix of a text with at most n levels
pub record Begins (n : ℕ) (front : List ℕ) : Type 0 where
  pub rest : List ℕ
  pub value : Json
  pub spells : SpellsWithin n (front ++ rest) value

-- the bytes aren't JSON, and `at` is the length of their longest prefix that begins a JSON text; the byte after that prefix does
-- more than open one level too many
pub record NotJsonAt (bytes : List ℕ) (at : ℕ) : Type 0 where
  pub within : at ≤ length bytes
  pub begins : Begins 127 (take at bytes)
  pub longest : at < length bytes → ¬ Begins 128 (take (at + 1) bytes)
  pub whole : at ≡ length bytes → (v : Json) → ¬ Spells bytes v

-- the byte at `at` opens level 128: with it, the bytes begin a text of 128 levels, but none of 127
pub record TooDeepAt (bytes : List ℕ) (at : ℕ) : Type 0 where
  pub within : at < length bytes
  pub begins : Begins 127 (take at bytes)
  pub deeper : Begins 128 (take (at + 1) bytes)
  pub barred : ¬ Begins 127 (take (at + 1) bytes)
