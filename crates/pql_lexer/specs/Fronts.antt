-- The length of the token that bytes begin with, by its kind.
use Rattle.std.specs.Prelude.{ℕ, suc, List, [], ◌∷◌, ◌++◌, Bool, true, false, not, ◌&&◌, ◌||◌, ◌==◌, if◌then◌else◌, Option, Some, None}
use Rattle.std.specs.Char.{is_ascii_digit, is_ascii_lowercase}
use Rattle.std.specs.Option.{option_map_or}
use Rattle.std.proofs.Common.{Vec, Global}
use Rattle.pql_spec.specs.json_tree.declared.number.NumberState.{NumberState}
use Rattle.pql_spec.specs.json_tree.Numbers.{number_step, may_end}

-- ---- the first byte

abbrev pub begins : (ℕ → Bool) → List ℕ → Bool
begins p [] = false
begins p (b ∷ bs) = p b

abbrev pub is_numeric : ℕ → Bool
is_numeric b = is_ascii_digit b || (b == 45)

abbrev pub is_quote : ℕ → Bool
is_quote b = (b == 39) || (b == 34)

-- no word, number or text begins with this byte
abbrev pub is_other : ℕ → Bool
is_other b = not (is_ascii_lowercase b || (is_numeric b || is_quote b))

-- ---- words

abbrev pub is_word_byte : ℕ → Bool
is_word_byte b = is_ascii_lowercase b || is_ascii_digit b || (b == 95)

abbrev pub word_length : List ℕ → ℕ
word_length [] = 0
word_length (b ∷ bs) = if is_word_byte b then suc (word_length bs) else 0

-- ---- numbers

-- the length of the longest number, after n bytes; `found` is the length of the longest one so far
abbrev pub number_length : NumberState → ℕ → Option ℕ → List ℕ → Option ℕ
number_length s n found [] = found
number_length s n found (b ∷ bs) =
    option_map_or (λ t. number_length t (suc n) (if may_end t then Some (suc n) else found) bs) (number_step s b) found

-- ---- texts

-- what a `\` and the byte after it stand for
abbrev pub escape_bytes : ℕ → ℕ → List ℕ
escape_bytes q b = if (b == q) || (b == 92) then b ∷ [] else 92 ∷ b ∷ []

-- the content of a quoted text and its end, after n bytes. `so_far` is the content read; the flag is set after a `\`
abbrev pub text_front : ℕ → Bool → List ℕ → ℕ → List ℕ → Option (List ℕ × ℕ)
text_front q behind so_far n [] = None
text_front q true so_far n (b ∷ bs) = text_front q false (so_far ++ escape_bytes q b) (suc n) bs
text_front q false so_far n (b ∷ bs) =
    if b == q then Some (so_far, suc n)
    else (if b == 92 then text_front q true so_far (suc n) bs else text_front q false (so_far ++ b ∷ []) (suc n) bs)

-- the result of the code, as contracts see it
abbrev pub held : Vec ℕ Global × ℕ → List ℕ × ℕ
held p = (p.0.items, p.1)

-- ---- marks

-- the marks of two bytes are `!=`, `<=` and `>=`; all others have one
abbrev pub mark_length : List ℕ → ℕ
mark_length (a ∷ b ∷ bs) = if (b == 61) && ((a == 33) || (a == 60) || (a == 62)) then 2 else 1
mark_length _ = 1
