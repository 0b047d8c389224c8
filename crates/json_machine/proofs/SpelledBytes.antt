-- The text of a tree is UTF-8.
use Rattle.std.proofs.Common.{◌≡◌, ◌⊎◌, inl, inr, ⊎_elim, ℕ, ◌<◌, ◌≤◌, List, [], ◌∷◌, ◌++◌, sym, subst, Bool, true, false, Option, Some, None, arith, if◌then◌else◌}
use Rattle.std.specs.Prelude.{flat_map, codes}
use Rattle.std.specs.Char.{digit_value}
use Rattle.std.specs.List.{AllByRecursion}
use Rattle.std.specs.Str.{IsUtf8}
use Rattle.std.specs.Str.Parse.{AllDigits}
use Rattle.std.proofs.lemmas.Str.{IsUtf8-append, IsUtf8-nil, IsUtf8-encode, encode_ascii}
use Rattle.text_spec.specs.JsonText as grammar
use Rattle.text_spec.specs.JsonText.{Piece, plain, short, unit as unit_piece, pair, piece_text, string_text, IsPiece, is_short, IsSpace, IsSpaceByte, Tree, Element, element, Elements, last_element, next_element, Member, member, Members, last_member, next_member, text, element_text, elements_text, member_text, members_text, IsTree, IsElement, AreElements, IsMember, AreMembers}
use Rattle.text_spec.specs.Number.{Exponent, fraction_text, exponent_text, IsWhole, IsFraction, IsExponent, IsNumber}
use Rattle.json_machine.proofs.Characters.{low_scalar}

-- ---- ASCII

abbrev IsAsciiByte : ℕ → Type 0
IsAsciiByte b = b < 128

pub ascii-utf8 : (bs : List ℕ) → AllByRecursion IsAsciiByte bs → IsUtf8 bs
ascii-utf8 [] h = IsUtf8-nil
ascii-utf8 (b ∷ bs) h =
    IsUtf8-append (b ∷ []) bs (subst IsUtf8 (encode_ascii b h.0) (IsUtf8-encode b (low_scalar b (omega (arith, h.0))))) (ascii-utf8 bs h.1)

one-utf8 : (b : ℕ) → b < 128 → IsUtf8 (b ∷ [])
one-utf8 b h = ascii-utf8 (b ∷ []) (h, tt)

-- an ASCII byte before
before-utf8 : (b : ℕ) (bs : List ℕ) → b < 128 → IsUtf8 bs → IsUtf8 (b ∷ bs)
before-utf8 b bs l h = IsUtf8-append (b ∷ []) bs (one-utf8 b l) h

digit_ascii : (b radix : ℕ) → radix ≤ 36 → digit_value b < radix → b < 128
digit_ascii b radix r h = grind arith

digits-utf8 : (radix : ℕ) (ds : List ℕ) → radix ≤ 36 → AllDigits radix ds → IsUtf8 ds
digits-utf8 radix [] r h = IsUtf8-nil
digits-utf8 radix (d ∷ ds) r h = before-utf8 d ds (digit_ascii d radix r h.0) (digits-utf8 radix ds r h.1)

space_ascii : (b : ℕ) → IsSpaceByte b → b < 128
space_ascii b h = grind arith

space-utf8 : (xs : List ℕ) → IsSpace xs → IsUtf8 xs
space-utf8 [] h = IsUtf8-nil
space-utf8 (x ∷ xs) h = before-utf8 x xs (space_ascii x h.0) (space-utf8 xs h.1)

-- ---- numbers

whole-utf8 : (ds : List ℕ) → IsWhole ds → IsUtf8 ds
whole-utf8 [] h = absurd h
whole-utf8 (d ∷ ds) h = digits-utf8 10 (d ∷ ds) (omega arith) h.0

fraction-utf8 : (f : Option (List ℕ)) → IsFraction f → IsUtf8 (fraction_text f)
fraction-utf8 None h = IsUtf8-nil
fraction-utf8 (Some ds) h = before-utf8 46 ds (omega arith) (digits-utf8 10 ds (omega arith) h.1)

sign-utf8 : (sign : List ℕ) → (sign ≡ []) ⊎ (sign ≡ 43 ∷ []) ⊎ (sign ≡ 45 ∷ []) → IsUtf8 sign
sign-utf8 sign (inl e) = subst IsUtf8 (sym e) IsUtf8-nil
sign-utf8 sign (inr (inl e)) = subst IsUtf8 (sym e) (one-utf8 43 (omega arith))
sign-utf8 sign (inr (inr e)) = subst IsUtf8 (sym e) (one-utf8 45 (omega arith))

letter_ascii : (b : ℕ) → (b ≡ 101) ⊎ (b ≡ 69) → b < 128
letter_ascii b h = ⊎_elim (λ e. omega (arith, e)) (λ e. omega (arith, e)) h

exponent-utf8 : (x : Option Exponent) → IsExponent x → IsUtf8 (exponent_text x)
exponent-utf8 None h = IsUtf8-nil
exponent-utf8 (Some x) h =
    before-utf8 x.letter (x.sign ++ x.digits) (letter_ascii x.letter h.0)
    (IsUtf8-append x.sign x.digits (sign-utf8 x.sign h.1) (digits-utf8 10 x.digits (omega arith) h.2.1))

minus-utf8 : (minus : Bool) → IsUtf8 (if minus then 45 ∷ [] else [])
minus-utf8 true = one-utf8 45 (omega arith)
minus-utf8 false = IsUtf8-nil

pub number-utf8 : (s : List ℕ) → IsNumber s → IsUtf8 s
number-utf8 s h =
    let n = h.0 in
    let minus = if n.minus then 45 ∷ [] else [] in
    subst IsUtf8 (sym h.2)
    (IsUtf8-append (minus ++ n.whole ++ fraction_text n.fraction) (exponent_text n.exponent)
    (IsUtf8-append (minus ++ n.whole) (fraction_text n.fraction)
    (IsUtf8-append minus n.whole (minus-utf8 n.minus) (whole-utf8 n.whole h.1.0))
    (fraction-utf8 n.fraction h.1.1))
    (exponent-utf8 n.exponent h.1.2))

-- ---- strings

short_ascii : (c : ℕ) → is_short c ≡ true → c < 128
short_ascii c h = grind arith

piece_text-utf8 : (p : Piece) → IsPiece p → IsUtf8 (piece_text p)
piece_text-utf8 (plain c) h = IsUtf8-encode c h.0
piece_text-utf8 (short c) h = ascii-utf8 (92 ∷ c ∷ []) (omega arith, (short_ascii c h, tt))
piece_text-utf8 (unit_piece ds) h =
    before-utf8 92 (117 ∷ ds) (omega arith) (before-utf8 117 ds (omega arith) (digits-utf8 16 ds (omega arith) h.0.1))
piece_text-utf8 (pair hs ls) h =
    before-utf8 92 (117 ∷ (hs ++ 92 ∷ 117 ∷ ls)) (omega arith)
    (before-utf8 117 (hs ++ 92 ∷ 117 ∷ ls) (omega arith)
    (IsUtf8-append hs (92 ∷ 117 ∷ ls) (digits-utf8 16 hs (omega arith) h.0.1)
    (before-utf8 92 (117 ∷ ls) (omega arith) (before-utf8 117 ls (omega arith) (digits-utf8 16 ls (omega arith) h.1.1)))))

pieces_text-utf8 : (ps : List Piece) → AllByRecursion IsPiece ps → IsUtf8 (flat_map piece_text ps)
pieces_text-utf8 [] h = IsUtf8-nil
pieces_text-utf8 (p ∷ ps) h = IsUtf8-append (piece_text p) (flat_map piece_text ps) (piece_text-utf8 p h.0) (pieces_text-utf8 ps h.1)

string_text-utf8 : (ps : List Piece) → AllByRecursion IsPiece ps → IsUtf8 (string_text ps)
string_text-utf8 ps h =
    before-utf8 34 (flat_map piece_text ps ++ 34 ∷ []) (omega arith)
    (IsUtf8-append (flat_map piece_text ps) (34 ∷ []) (pieces_text-utf8 ps h) (one-utf8 34 (omega arith)))

-- ---- values

-- between two ASCII bytes
between-utf8 : (a b : ℕ) (bs : List ℕ) → a < 128 → b < 128 → IsUtf8 bs → IsUtf8 (a ∷ (bs ++ b ∷ []))
between-utf8 a b bs l r h = before-utf8 a (bs ++ b ∷ []) l (IsUtf8-append bs (b ∷ []) h (one-utf8 b r))

null-utf8 : IsUtf8 (codes "null")
null-utf8 = ascii-utf8 (codes "null") (omega arith, (omega arith, (omega arith, (omega arith, tt))))

true-utf8 : IsUtf8 (codes "true")
true-utf8 = ascii-utf8 (codes "true") (omega arith, (omega arith, (omega arith, (omega arith, tt))))

false-utf8 : IsUtf8 (codes "false")
false-utf8 = ascii-utf8 (codes "false") (omega arith, (omega arith, (omega arith, (omega arith, (omega arith, tt)))))

mutual
  text-utf8 : (t : Tree) → IsTree t → IsUtf8 (text t)
  text-utf8 grammar.null h = null-utf8
  text-utf8 (grammar.boolean true) h = true-utf8
  text-utf8 (grammar.boolean false) h = false-utf8
  text-utf8 (grammar.number s) h = number-utf8 s h
  text-utf8 (grammar.string ps) h = string_text-utf8 ps h
  text-utf8 (grammar.empty_array xs) h = between-utf8 91 93 xs (omega arith) (omega arith) (space-utf8 xs h)
  text-utf8 (grammar.array e es) h =
      before-utf8 91 (element_text e ++ elements_text es) (omega arith)
      (IsUtf8-append (element_text e) (elements_text es) (element-utf8 e h.0) (elements-utf8 es h.1))
  text-utf8 (grammar.empty_object xs) h = between-utf8 123 125 xs (omega arith) (omega arith) (space-utf8 xs h)
  text-utf8 (grammar.object m ms) h =
      before-utf8 123 (member_text m ++ members_text ms) (omega arith)
      (IsUtf8-append (member_text m) (members_text ms) (member-utf8 m h.0) (members-utf8 ms h.1))

  pub element-utf8 : (e : Element) → IsElement e → IsUtf8 (element_text e)
  element-utf8 (element before t after) h =
      IsUtf8-append (before ++ text t) after
      (IsUtf8-append before (text t) (space-utf8 before h.0) (text-utf8 t h.1)) (space-utf8 after h.2)

  elements-utf8 : (es : Elements) → AreElements es → IsUtf8 (elements_text es)
  elements-utf8 last_element h = one-utf8 93 (omega arith)
  elements-utf8 (next_element e es) h =
      before-utf8 44 (element_text e ++ elements_text es) (omega arith)
      (IsUtf8-append (element_text e) (elements_text es) (element-utf8 e h.0) (elements-utf8 es h.1))

  member-utf8 : (m : Member) → IsMember m → IsUtf8 (member_text m)
  member-utf8 (member before key after e) h =
      IsUtf8-append (before ++ string_text key ++ after) (58 ∷ element_text e)
      (IsUtf8-append (before ++ string_text key) after
      (IsUtf8-append before (string_text key) (space-utf8 before h.0) (string_text-utf8 key h.1)) (space-utf8 after h.2))
      (before-utf8 58 (element_text e) (omega arith) (element-utf8 e h.3))

  members-utf8 : (ms : Members) → AreMembers ms → IsUtf8 (members_text ms)
  members-utf8 last_member h = one-utf8 125 (omega arith)
  members-utf8 (next_member m ms) h =
      before-utf8 44 (member_text m ++ members_text ms) (omega arith)
      (IsUtf8-append (member_text m) (members_text ms) (member-utf8 m h.0) (members-utf8 ms h.1))
