-- Where bytes begin with a letter, the bytes of words that follow are the longest token.
use Rattle.std.proofs.Common.{◌≡◌, ◌≤◌, ◌<◌, ℕ, zero, suc, List, [], ◌∷◌, ◌++◌, length, take, get_or, Bool, true, false, ◌||◌, ◌==◌, if◌then◌else◌, refl, sym, ap, subst, ◌∙◌, arith}
use Rattle.std.specs.Char.{is_ascii_digit, is_ascii_lowercase}
use Rattle.std.specs.List.{AllByRecursion}
use Rattle.std.specs.Str.{IsUtf8}
use Rattle.std.proofs.lemmas.List.{take-append-drop, length-take-le}
use Rattle.std.proofs.lemmas.Str.{IsUtf8-from_ascii}
use Rattle.json_machine.proofs.of_plain_laws.Booleans.{no_truth}
use Rattle.pql_spec.specs.declared.token.Token.{Token}
use Rattle.pql_spec.specs.Tokens.{IsWord, IsWordByte, word_token, a_word}
use Rattle.pql_lexer.specs.Fronts.{begins, is_word_byte, word_length}
use Rattle.pql_lexer.specs.Next.{IsNext}
use Rattle.pql_lexer.proofs.FirstBytes.{word_kind}

-- the front is made of bytes of words
front_bytes : (bs : List ℕ) → AllByRecursion IsWordByte (take (word_length bs) bs)
front_bytes [] = tt
front_bytes (b ∷ bs) = by_byte (is_word_byte b) refl (front_bytes bs)
  where
    by_byte : (t : Bool) → is_word_byte b ≡ t → AllByRecursion IsWordByte (take (word_length bs) bs) → AllByRecursion IsWordByte (take (if t then suc (word_length bs) else 0) (b ∷ bs))
    by_byte true e h = (e, h)
    by_byte false e h = tt

-- no list of such bytes at the front is longer
word_longest : (ws r : List ℕ) → AllByRecursion IsWordByte ws → length ws ≤ word_length (ws ++ r)
word_longest [] r h = omega arith
word_longest (w ∷ ws) r h = subst (λ t. suc (length ws) ≤ (if t then suc (word_length (ws ++ r)) else 0)) (sym h.0) (omega (arith, word_longest ws r h.1))

letter : (b : ℕ) → is_ascii_lowercase b ≡ true → is_word_byte b ≡ true
letter b l = ap (λ x. x || is_ascii_digit b || (b == 95)) l

word_bytes : (ws : List ℕ) → IsWord ws → AllByRecursion IsWordByte ws
word_bytes [] h = tt
word_bytes (w ∷ ws) h = (letter w h.0, h.1)

front_word : (bytes : List ℕ) → begins is_ascii_lowercase bytes ≡ true → IsWord (take (word_length bytes) bytes) × (0 < word_length bytes)
front_word [] l = no_truth l
front_word (b ∷ bs) l = subst (λ t. IsWord (take (if t then suc (word_length bs) else 0) (b ∷ bs)) × (0 < (if t then suc (word_length bs) else 0))) (sym (letter b l)) ((l, front_bytes bs), omega arith)

short : (bs : List ℕ) → word_length bs ≤ length bs
short [] = omega arith
short (b ∷ bs) = by_byte (is_word_byte b) (short bs)
  where
    by_byte : (t : Bool) → word_length bs ≤ length bs → (if t then suc (word_length bs) else 0) ≤ suc (length bs)
    by_byte true h = omega (arith, h)
    by_byte false h = omega arith

pub word_next : (n : ℕ) (bytes : List ℕ) → begins is_ascii_lowercase bytes ≡ true → IsNext n bytes (word_token (take (word_length bytes) bytes) (n ∷ [])) (word_length bytes)
word_next n bytes l = record {
  some = (front_word bytes l).1;
  within = short bytes;
  longest = record {
    spells = a_word (front_word bytes l).0 refl;
    longest = λ longer rest u s e.
        let f : bytes ≡ longer ++ rest = sym (take-append-drop (word_length bytes) bytes) ∙ e in
        subst (λ k. length longer ≤ k) (sym (length-take-le (word_length bytes) bytes (short bytes)))
        (subst (λ x. length longer ≤ word_length x) (sym f) (word_longest longer rest (word_bytes longer (word_kind n bytes longer rest f u s l))));
  };
}

pub word_found : (n m : ℕ) (bytes text place : List ℕ) (t : Token) → begins is_ascii_lowercase bytes ≡ true → m ≡ word_length bytes → text ≡ take m bytes → place ≡ n ∷ [] → t ≡ word_token text place → IsNext n bytes t m
word_found n m bytes text place t l h e p k =
    subst (λ x. IsNext n bytes x m) (sym (k ∙ ap (λ x. word_token text x) p ∙ ap (λ x. word_token x (n ∷ [])) (e ∙ ap (λ x. take x bytes) h)))
    (subst (λ x. IsNext n bytes (word_token (take (word_length bytes) bytes) (n ∷ [])) x) (sym h) (word_next n bytes l))

-- ---- words are ASCII

small : (b : ℕ) → IsWordByte b → b < 128
small b h = grind arith

ascii : (ws : List ℕ) → AllByRecursion IsWordByte ws → (i : ℕ) → get_or ws i 0 < 128
ascii [] h i = omega arith
ascii (w ∷ ws) h zero = small w h.0
ascii (w ∷ ws) h (suc i) = ascii ws h.1 i

pub word_utf8 : (bytes : List ℕ) → IsUtf8 (take (word_length bytes) bytes)
word_utf8 bytes = IsUtf8-from_ascii (take (word_length bytes) bytes) (ascii (take (word_length bytes) bytes) (front_bytes bytes))
