-- A quoted text is a string of pieces, one for each character.
use Rattle.std.proofs.Common.{◌≡◌, ◌∙◌, inl, ⊎_elim, ℕ, ◌+◌, ◌*◌, ◌/◌, ◌%◌, ◌<◌, ◌≤◌, List, [], ◌∷◌, ◌++◌, arith, refl, sym, ap, subst, Bool, true, false, nat_lt, if◌then◌else◌}
use Rattle.std.specs.Prelude.{flat_map}
use Rattle.std.specs.Char.{digit_char, digit_value, encode_utf8, IsScalar}
use Rattle.std.specs.Str.{IsUtf8, chars}
use Rattle.std.specs.List.{AllByRecursion}
use Rattle.std.proofs.Math.Nat.{div-add-mod, mod-lt}
use Rattle.std.proofs.Math.Utf8.{scalars, encodes}
use Rattle.std.proofs.lemmas.Bool.{cases_lt}
use Rattle.std.proofs.lemmas.List.{append-nil}
use Rattle.std.proofs.lemmas.Grind.{flat_map-append}
use Rattle.std.proofs.lemmas.Str.{digit_value-digit_char, encode_ascii, encodes-chars, scalars-chars}
use Rattle.text_spec.proofs.of_plain_laws.Booleans.{both_true}
use Rattle.text_spec.specs.Compact.{escape_letter, escaped, quoted}
use Rattle.text_spec.specs.JsonText.{Piece, plain, short, unit, piece_text, piece_bytes, string_text, string_bytes, IsPiece, is_short, short_meaning}
use Rattle.json_machine.proofs.Characters.{encode_2, encode_3, encode_4}

-- the four digits of \u for a character below 32
abbrev code_digits : ℕ → List ℕ
code_digits c = 48 ∷ 48 ∷ digit_char (c / 16) ∷ digit_char (c % 16) ∷ []

-- the piece that stands for a character in the compact text
abbrev pub piece_of : ℕ → Piece
piece_of c = if nat_lt 0 (escape_letter c) then short (escape_letter c) else (if nat_lt c 32 then unit (code_digits c) else plain c)

abbrev pub pieces_of : List ℕ → List Piece
pieces_of [] = []
pieces_of (c ∷ cs) = piece_of c ∷ pieces_of cs

-- ---- the text of a piece

-- no byte from 128 on is escaped
escaped_high : (b : ℕ) → 128 ≤ b → escaped b ≡ b ∷ []
unfolding escaped
escaped_high b h =
    let letter : nat_lt 0 (escape_letter b) ≡ false = grind arith in
    let high : nat_lt b 32 ≡ false = grind arith in
    rw (letter, high) refl

abbrev pub AreHigh : List ℕ → Type 0
AreHigh bs = AllByRecursion (λ b. 128 ≤ b) bs

pub escaped-high : (bs : List ℕ) → AreHigh bs → flat_map escaped bs ≡ bs
escaped-high [] h = refl
escaped-high (b ∷ bs) h = λ i. escaped_high b h.0 i ++ escaped-high bs h.1 i

pub encode-high : (c : ℕ) → 128 ≤ c → AreHigh (encode_utf8 c)
encode-high c l =
    ⊎_elim (λ u. subst AreHigh (sym (encode_2 c l u)) (omega arith, (omega arith, tt))) (λ m.
    ⊎_elim (λ u. subst AreHigh (sym (encode_3 c m u)) (omega arith, (omega arith, (omega arith, tt)))) (λ m.
    subst AreHigh (sym (encode_4 c m)) (omega arith, (omega arith, (omega arith, (omega arith, tt)))))
    (cases_lt c 65_536)) (cases_lt c 2048)

plain_above : (c : ℕ) → 128 ≤ c → piece_of c ≡ plain c
plain_above c h =
    let letter : nat_lt 0 (escape_letter c) ≡ false = grind arith in
    let high : nat_lt c 32 ≡ false = grind arith in
    rw (letter, high) refl

text_cases : (a b : Bool) (l c : ℕ) (ds : List ℕ) → c < 128 → piece_text (if a then short l else (if b then unit ds else plain c)) ≡ (if a then 92 ∷ l ∷ [] else (if b then 92 ∷ 117 ∷ ds else c ∷ []))
text_cases true b l c ds h = refl
text_cases false true l c ds h = refl
text_cases false false l c ds h = encode_ascii c h

ascii_piece_text : (c : ℕ) → c < 128 → piece_text (piece_of c) ≡ escaped c
unfolding escaped
ascii_piece_text c h = text_cases (nat_lt 0 (escape_letter c)) (nat_lt c 32) (escape_letter c) c (code_digits c) h

piece_text-of : (c : ℕ) → piece_text (piece_of c) ≡ flat_map escaped (encode_utf8 c)
piece_text-of c =
    ⊎_elim (λ l. ascii_piece_text c l ∙ sym (append-nil (escaped c)) ∙ sym (ap (flat_map escaped) (encode_ascii c l)))
    (λ l. ap piece_text (plain_above c l) ∙ sym (escaped-high (encode_utf8 c) (encode-high c l)))
    (cases_lt c 128)

pieces_text-of : (cs : List ℕ) → flat_map piece_text (pieces_of cs) ≡ flat_map escaped (encodes cs)
pieces_text-of [] = refl
pieces_text-of (c ∷ cs) = (λ i. piece_text-of c i ++ pieces_text-of cs i) ∙ sym (flat_map-append escaped (encode_utf8 c) (encodes cs))

pub string_text-pieces : (s : List ℕ) → IsUtf8 s → string_text (pieces_of (chars s)) ≡ quoted s
string_text-pieces s h = ap (λ b. 34 ∷ (b ++ 34 ∷ [])) (pieces_text-of (chars s) ∙ ap (flat_map escaped) (encodes-chars s h))

-- ---- what a piece stands for

short_ascii : (c : ℕ) → nat_lt 0 (escape_letter c) ≡ true → c < 128
short_ascii c h = grind arith

short_back : (c : ℕ) → nat_lt 0 (escape_letter c) ≡ true → short_meaning (escape_letter c) ≡ c
short_back c h = grind arith

code_value : (c : ℕ) → nat_lt c 32 ≡ true → (0 + digit_value (digit_char (c / 16))) * 16 + digit_value (digit_char (c % 16)) ≡ c
code_value c h =
    let below : c < 32 = grind arith in
    let split : 16 * (c / 16) + c % 16 ≡ c = div-add-mod c 16 in
    let rest : c % 16 < 16 = mod-lt c (omega arith) in
    omega (arith, digit_value-digit_char (c / 16) (omega (arith, split)), digit_value-digit_char (c % 16) (omega (arith, rest)), split)

bytes_cases : (a b : Bool) (c : ℕ) → nat_lt 0 (escape_letter c) ≡ a → nat_lt c 32 ≡ b → piece_bytes (if a then short (escape_letter c) else (if b then unit (code_digits c) else plain c)) ≡ encode_utf8 c
bytes_cases true b c h k = ap (λ x. x ∷ []) (short_back c h) ∙ sym (encode_ascii c (short_ascii c h))
bytes_cases false true c h k = ap encode_utf8 (code_value c k)
bytes_cases false false c h k = refl

piece_bytes-of : (c : ℕ) → piece_bytes (piece_of c) ≡ encode_utf8 c
piece_bytes-of c = bytes_cases (nat_lt 0 (escape_letter c)) (nat_lt c 32) c refl refl

pieces_bytes-of : (cs : List ℕ) → string_bytes (pieces_of cs) ≡ encodes cs
pieces_bytes-of [] = refl
pieces_bytes-of (c ∷ cs) = λ i. piece_bytes-of c i ++ pieces_bytes-of cs i

pub string_bytes-pieces : (s : List ℕ) → IsUtf8 s → string_bytes (pieces_of (chars s)) ≡ s
string_bytes-pieces s h = pieces_bytes-of (chars s) ∙ encodes-chars s h

-- ---- the pieces are pieces

short_is : (c : ℕ) → nat_lt 0 (escape_letter c) ≡ true → is_short (escape_letter c) ≡ true
short_is c h = grind arith

plain_is : (c : ℕ) → IsScalar c → nat_lt 0 (escape_letter c) ≡ false → nat_lt c 32 ≡ false → IsPiece (plain c)
plain_is c s h k = (s, grind arith, (λ e. grind arith), (λ e. grind arith))

unit_is : (c : ℕ) → nat_lt c 32 ≡ true → IsPiece (unit (code_digits c))
unit_is c h =
    let below : c < 32 = grind arith in
    let split : 16 * (c / 16) + c % 16 ≡ c = div-add-mod c 16 in
    let rest : c % 16 < 16 = mod-lt c (omega arith) in
    let high = digit_value-digit_char (c / 16) (omega (arith, split)) in
    let low = digit_value-digit_char (c % 16) (omega (arith, rest)) in
    ((refl, (omega arith, (omega arith, (omega (arith, high, split), (omega (arith, low, rest), tt))))), inl (omega (arith, high, low, split, rest)))

piece_cases : (a b : Bool) (c : ℕ) → IsScalar c → nat_lt 0 (escape_letter c) ≡ a → nat_lt c 32 ≡ b → IsPiece (if a then short (escape_letter c) else (if b then unit (code_digits c) else plain c))
piece_cases true b c s h k = short_is c h
piece_cases false true c s h k = unit_is c k
piece_cases false false c s h k = plain_is c s h k

pieces-are : (cs : List ℕ) → scalars cs ≡ true → AllByRecursion IsPiece (pieces_of cs)
pieces-are [] h = tt
pieces-are (c ∷ cs) h =
    let both = both_true _ (scalars cs) h in
    (piece_cases (nat_lt 0 (escape_letter c)) (nat_lt c 32) c both.0 refl refl, pieces-are cs both.1)

pub string_pieces-are : (s : List ℕ) → IsUtf8 s → AllByRecursion IsPiece (pieces_of (chars s))
string_pieces-are s h = pieces-are (chars s) (scalars-chars s h)
