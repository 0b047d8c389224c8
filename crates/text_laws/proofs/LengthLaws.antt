-- The compact text of a value is no longer than any text that spells it: white space, long escapes and members that
-- a later key replaces only add to a text.
use Rattle.std.proofs.Common.{◌≡◌, ⊎_elim, ℕ, ◌+◌, ◌-◌, ◌*◌, ◌/◌, ◌%◌, ◌<◌, ◌≤◌, List, [], ◌∷◌, ◌++◌, length, length-append, refl, ap, Bool, true, false, nat_lt, if◌then◌else◌, arith}
use Rattle.std.specs.Prelude.{flat_map, codes}
use Rattle.std.specs.Char.{digit_char, encode_utf8}
use Rattle.std.specs.List.{AllByRecursion}
use Rattle.std.specs.Str.{bytes_eq}
use Rattle.std.proofs.lemmas.Bool.{cases_lt}
use Rattle.std.proofs.lemmas.Grind.{flat_map-append}
use Rattle.std.proofs.lemmas.Str.{encode_ascii, length-encode, len_utf8_bounds}
use Rattle.json_machine.proofs.TextUtf8.{hex_bound}
use Rattle.json_machine.specs.text_spec.Json.{Json, members_of, set_member, settled}
use Rattle.json_machine.specs.text_spec.Compact.{escape_letter, escaped, quoted, compact, compact_items, compact_members}
use Rattle.json_machine.specs.text_spec.JsonText as grammar
use Rattle.json_machine.specs.text_spec.JsonText.{Piece, plain, short, unit as unit_piece, pair, piece_text, piece_bytes, string_text, string_bytes, IsPiece, is_short, short_meaning, hex_value, IsHex, Tree, Element, element, Elements, last_element, next_element, Member, last_member, next_member, text, element_text, elements_text, member_text, members_text, value, element_value, elements_value, member_pair, member_pairs, IsTree, IsElement, AreElements, IsMember, AreMembers}
use Rattle.json_machine.proofs.CompactCharacters.{escaped-high, encode-high}
use Rattle.text_laws.specs.LengthLaws.{CompactIsShortest}

-- ---- escaped bytes

escaped_plain : (x : ℕ) → 32 ≤ x → ¬ (x ≡ 34) → ¬ (x ≡ 92) → escaped x ≡ x ∷ []
unfolding escaped
escaped_plain x l q b =
    let letter : nat_lt 0 (escape_letter x) ≡ false = grind arith in
    let high : nat_lt x 32 ≡ false = grind arith in
    rw (letter, high) refl

pub escaped-most : (x : ℕ) → length (escaped x) ≤ 6
unfolding escaped
escaped-most x = cases (nat_lt 0 (escape_letter x)) (nat_lt x 32) x
  where
    cases : (a b : Bool) (x : ℕ) → length (if a then 92 ∷ escape_letter x ∷ [] else (if b then codes "\\u00" ++ digit_char (x / 16) ∷ digit_char (x % 16) ∷ [] else x ∷ [])) ≤ 6
    cases true b x = omega arith
    cases false true x = omega arith
    cases false false x = omega arith

-- ---- the character of a piece

-- from 128 on no byte is escaped
high-length : (c : ℕ) → 128 ≤ c → length (flat_map escaped (encode_utf8 c)) ≡ length (encode_utf8 c)
high-length c h = ap length (escaped-high (encode_utf8 c) (encode-high c h))

plain-length : (c : ℕ) → 32 ≤ c → ¬ (c ≡ 34) → ¬ (c ≡ 92) → length (flat_map escaped (encode_utf8 c)) ≤ length (encode_utf8 c)
plain-length c l q b =
    ⊎_elim (λ low. rw (encode_ascii c low, escaped_plain c l q b) (omega arith)) (λ high. omega (arith, high-length c high)) (cases_lt c 128)

-- a code of four digits has at most three bytes, and those below 128 one
unit-length : (c : ℕ) → c < 65_536 → length (flat_map escaped (encode_utf8 c)) ≤ 6
unit-length c u =
    ⊎_elim (λ low. rw (encode_ascii c low) (omega (arith, length-append (escaped c) [], escaped-most c))) (λ high. omega (arith, high-length c high, length-encode c, len_utf8_bounds c)) (cases_lt c 128)

short-length : (c : ℕ) → is_short c ≡ true → length (escaped (short_meaning c)) ≤ 2
unfolding escaped
short-length c h = grind arith

piece-length : (p : Piece) → IsPiece p → length (flat_map escaped (piece_bytes p)) ≤ length (piece_text p)
piece-length (plain c) h = plain-length c h.1 h.2 h.3
piece-length (short c) h = omega (arith, length-append (escaped (short_meaning c)) [], short-length c h)
piece-length (unit_piece digits) h = omega (arith, unit-length (hex_value digits) (hex_bound digits h.0), h.0.0)
piece-length (pair high low) h =
    let code = 65_536 + (hex_value high - 55_296) * 1_024 + (hex_value low - 56_320) in
    omega (arith, high-length code (omega arith), length-encode code, len_utf8_bounds code, length-append high (92 ∷ 117 ∷ low), h.0.0, h.1.0)

pieces-length : (ps : List Piece) → AllByRecursion IsPiece ps → length (flat_map escaped (string_bytes ps)) ≤ length (flat_map piece_text ps)
pieces-length [] h = omega arith
pieces-length (p ∷ ps) h =
    omega (
      arith,
      ap length (flat_map-append escaped (piece_bytes p) (string_bytes ps)),
      length-append (flat_map escaped (piece_bytes p)) (flat_map escaped (string_bytes ps)),
      length-append (piece_text p) (flat_map piece_text ps),
      piece-length p h.0,
      pieces-length ps h.1,
    )

string-length : (ps : List Piece) → AllByRecursion IsPiece ps → length (quoted (string_bytes ps)) ≤ length (string_text ps)
string-length ps h =
    omega (arith, length-append (flat_map escaped (string_bytes ps)) (34 ∷ []), length-append (flat_map piece_text ps) (34 ∷ []), pieces-length ps h)

-- ---- members that are set one after the other

-- how long the members are behind others, with the closing brace
abbrev behind : List (List ℕ × Json) → ℕ
behind ms = length (compact_members true (members_of ms))

-- and with none before them
abbrev alone : List (List ℕ × Json) → ℕ
alone ms = length (compact_members false (members_of ms))

-- how long a member is, with its comma
abbrev one : List ℕ → Json → ℕ
one k j = length (quoted k) + length (compact j) + 2

behind-cons : (k : List ℕ) (j : Json) (ms : List (List ℕ × Json)) → behind ((k, j) ∷ ms) ≡ one k j + behind ms
behind-cons k j ms =
    omega (arith, length-append (quoted k) (58 ∷ (compact j ++ compact_members true (members_of ms))), length-append (compact j) (compact_members true (members_of ms)))

alone-cons : (k : List ℕ) (j : Json) (ms : List (List ℕ × Json)) → alone ((k, j) ∷ ms) + 1 ≡ one k j + behind ms
alone-cons k j ms =
    omega (arith, length-append (quoted k) (58 ∷ (compact j ++ compact_members true (members_of ms))), length-append (compact j) (compact_members true (members_of ms)))

module _ (k : List ℕ) (j : Json) where
  set_step : (b : Bool) (m : List ℕ × Json) (ms set : List (List ℕ × Json)) → behind set ≤ behind ms + one k j → behind (if b then (m.0, j) ∷ ms else m ∷ set) ≤ behind (m ∷ ms) + one k j
  set_step true m ms set next = omega (arith, behind-cons m.0 j ms, behind-cons m.0 m.1 ms)
  set_step false m ms set next = omega (arith, behind-cons m.0 m.1 set, behind-cons m.0 m.1 ms, next)

  behind-set : (ms : List (List ℕ × Json)) → behind (set_member k j ms) ≤ behind ms + one k j
  behind-set [] = omega (arith, behind-cons k j [])
  behind-set (m ∷ ms) = set_step (bytes_eq k m.0) m ms (set_member k j ms) (behind-set ms)

settled_step : (b : Bool) (m d : List ℕ × Json) (ms done : List (List ℕ × Json)) →
    alone (settled ((d.0, m.1) ∷ done) ms) + 1 ≤ alone ((d.0, m.1) ∷ done) + behind ms →
    alone (settled (d ∷ set_member m.0 m.1 done) ms) + 1 ≤ alone (d ∷ set_member m.0 m.1 done) + behind ms →
    alone (settled (if b then (d.0, m.1) ∷ done else d ∷ set_member m.0 m.1 done) ms) + 1 ≤ alone (d ∷ done) + behind (m ∷ ms)
settled_step true m d ms done there after =
    omega (arith, there, alone-cons d.0 m.1 done, alone-cons d.0 d.1 done, behind-cons m.0 m.1 ms)
settled_step false m d ms done there after =
    omega (arith, after, alone-cons d.0 d.1 (set_member m.0 m.1 done), alone-cons d.0 d.1 done, behind-cons m.0 m.1 ms, behind-set m.0 m.1 done)

alone-settled : (ms done : List (List ℕ × Json)) (d : List ℕ × Json) → alone (settled (d ∷ done) ms) + 1 ≤ alone (d ∷ done) + behind ms
alone-settled [] done d = omega arith
alone-settled (m ∷ ms) done d =
    settled_step (bytes_eq m.0 d.0) m d ms done (alone-settled ms done (d.0, m.1)) (alone-settled ms (set_member m.0 m.1 done) d)

-- ---- values

mutual
  text-length : (t : Tree) → IsTree t → length (compact (value t)) ≤ length (text t)
  text-length grammar.null h = omega arith
  text-length (grammar.boolean true) h = omega arith
  text-length (grammar.boolean false) h = omega arith
  text-length (grammar.number s) h = omega arith
  text-length (grammar.string ps) h = string-length ps h
  text-length (grammar.empty_array space) h = omega (arith, length-append space (93 ∷ []))
  text-length (grammar.array e es) h =
      omega (arith, length-append (compact (element_value e)) (compact_items true (elements_value es)), length-append (element_text e) (elements_text es), element-length e h.0, elements-length es h.1)
  text-length (grammar.empty_object space) h = omega (arith, length-append space (125 ∷ []))
  text-length (grammar.object m ms) h =
      let first = member_pair m in
      omega (arith, alone-settled (member_pairs ms) [] first, alone-cons first.0 first.1 [], length-append (member_text m) (members_text ms), member-length m h.0, members-length ms h.1)

  element-length : (e : Element) → IsElement e → length (compact (element_value e)) ≤ length (element_text e)
  element-length (element before t after) h =
      omega (arith, length-append (before ++ text t) after, length-append before (text t), text-length t h.1)

  elements-length : (es : Elements) → AreElements es → length (compact_items true (elements_value es)) ≤ length (elements_text es)
  elements-length last_element h = omega arith
  elements-length (next_element e es) h =
      omega (arith, length-append (compact (element_value e)) (compact_items true (elements_value es)), length-append (element_text e) (elements_text es), element-length e h.0, elements-length es h.1)

  member-length : (m : Member) → IsMember m → one (member_pair m).0 (member_pair m).1 ≤ length (member_text m) + 1
  member-length (grammar.member before key after e) h =
      omega (
        arith,
        length-append (before ++ string_text key ++ after) (58 ∷ element_text e),
        length-append (before ++ string_text key) after,
        length-append before (string_text key),
        string-length key h.1,
        element-length e h.3,
      )

  members-length : (ms : grammar.Members) → AreMembers ms → behind (member_pairs ms) ≤ length (members_text ms)
  members-length last_member h = omega arith
  members-length (next_member m ms) h =
      omega (arith, behind-cons (member_pair m).0 (member_pair m).1 (member_pairs ms), length-append (member_text m) (members_text ms), member-length m h.0, members-length ms h.1)

pub compact_is_shortest : CompactIsShortest
compact_is_shortest bytes v s =
    rw (s.value_is, s.bytes_are) (element-length s.tree s.is_tree)
