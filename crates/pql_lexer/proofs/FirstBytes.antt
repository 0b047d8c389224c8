-- The first byte tells the kind of the token that bytes begin with.
use Rattle.std.proofs.Common.{◌≡◌, ◌∙◌, ◌<◌, ℕ, List, [], ◌∷◌, ◌++◌, length, arith, Bool, true, false, not, ◌||◌, ap, Some}
use Rattle.std.specs.Char.{is_ascii_lowercase}
use Rattle.std.specs.List.{AllByRecursion}
use Rattle.std.specs.Str.{IsUtf8}
use Rattle.json_machine.proofs.of_plain_laws.Booleans.{no_truth}
use Rattle.json_machine.specs.text_spec.Number.{IsNumber}
use Rattle.pql_spec.specs.query_spec.declared.parts.Scalar.TheVariants as scalar
use Rattle.pql_spec.specs.declared.token.Token.{Token}
use Rattle.pql_spec.specs.Tokens.{IsWord, IsQuote, Piece, IsPiece, quoted, text_bytes, literal_token, mark_token, Spells, a_word, a_number, a_text, a_mark}
use Rattle.pql_spec.proofs.OneList.{AtFirst, numeric, quotes, marks, word_first, number_first, text_first, mark_first, word_number, word_text, number_quote, no_others}
use Rattle.pql_lexer.specs.Next.{NoToken}
use Rattle.pql_lexer.specs.Fronts.{begins, is_numeric, is_quote, is_other}

-- bytes begin as a front of them does
first_is : (p : ℕ → Bool) (bytes front rest : List ℕ) → bytes ≡ front ++ rest → AtFirst p front → begins p bytes ≡ true
first_is p bytes [] rest e h = absurd h
first_is p bytes (b ∷ bs) rest e h = ap (begins p) e ∙ h

apart : (p q : ℕ → Bool) → ((b : ℕ) → p b ≡ true → q b ≡ true → ⊥) → (bytes : List ℕ) → begins p bytes ≡ true → begins q bytes ≡ true → ⊥
apart p q h [] x y = no_truth x
apart p q h (b ∷ bs) x y = h b x y

none_of : (a b c : Bool) → not (a || (b || c)) ≡ true → (a ≡ true → ⊥) × (b ≡ true → ⊥) × (c ≡ true → ⊥)
none_of true b c h = no_truth h
none_of false true c h = no_truth h
none_of false false true h = no_truth h
none_of false false false h = ((λ e. no_truth e), (λ e. no_truth e), (λ e. no_truth e))

others : (b : ℕ) → is_other b ≡ true → (is_ascii_lowercase b ≡ true → ⊥) × (is_numeric b ≡ true → ⊥) × (is_quote b ≡ true → ⊥)
others b h = none_of (is_ascii_lowercase b) (is_numeric b) (is_quote b) h

pub record IsText (front : List ℕ) (n : ℕ) (t : Token) : Type 0 where
  pub quote : ℕ
  pub parts : List Piece
  pub is_quote : IsQuote quote
  pub are_pieces : AllByRecursion (IsPiece quote) parts
  pub utf8 : IsUtf8 (text_bytes parts)
  pub bytes_are : front ≡ quoted quote parts
  pub token_is : t ≡ literal_token (scalar.Text (text_bytes parts)) (n ∷ [])

module _ (n : ℕ) (bytes front rest : List ℕ) (e : bytes ≡ front ++ rest) where
  begins_as : (p : ℕ → Bool) → AtFirst p front → begins p bytes ≡ true
  begins_as p h = first_is p bytes front rest e h

  begins_mark : (t : Token) → Some t ≡ mark_token front (n ∷ []) → begins marks bytes ≡ true
  begins_mark t f = begins_as marks (mark_first front (n ∷ []) t f)

  pub word_kind : (t : Token) → Spells n front t → begins is_ascii_lowercase bytes ≡ true → IsWord front
  word_kind t (a_word h f) l = h
  word_kind t (a_number h f) l = absurd (apart is_ascii_lowercase numeric word_number bytes l (begins_as numeric (number_first front h)))
  word_kind t (a_text q ps k p u g f) l = absurd (apart is_ascii_lowercase quotes word_text bytes l (begins_as quotes (text_first front q ps k g)))
  word_kind t (a_mark f) l = absurd (apart marks is_ascii_lowercase (λ b x. (no_others b x).0) bytes (begins_mark t f) l)

  pub number_kind : (t : Token) → Spells n front t → begins is_numeric bytes ≡ true → IsNumber front
  number_kind t (a_word h f) l = absurd (apart is_ascii_lowercase numeric word_number bytes (begins_as is_ascii_lowercase (word_first front h)) l)
  number_kind t (a_number h f) l = h
  number_kind t (a_text q ps k p u g f) l = absurd (apart numeric quotes number_quote bytes l (begins_as quotes (text_first front q ps k g)))
  number_kind t (a_mark f) l = absurd (apart marks numeric (λ b x. (no_others b x).1) bytes (begins_mark t f) l)

  pub text_kind : (t : Token) → Spells n front t → begins is_quote bytes ≡ true → IsText front n t
  text_kind t (a_word h f) l = absurd (apart is_ascii_lowercase quotes word_text bytes (begins_as is_ascii_lowercase (word_first front h)) l)
  text_kind t (a_number h f) l = absurd (apart numeric quotes number_quote bytes (begins_as numeric (number_first front h)) l)
  text_kind t (a_text q ps k p u g f) l = record { quote = q; parts = ps; is_quote = k; are_pieces = p; utf8 = u; bytes_are = g; token_is = f }
  text_kind t (a_mark f) l = absurd (apart marks quotes (λ b x. (no_others b x).2) bytes (begins_mark t f) l)

  pub mark_kind : (t : Token) → Spells n front t → begins is_other bytes ≡ true → Some t ≡ mark_token front (n ∷ [])
  mark_kind t (a_word h f) l = absurd (apart is_other is_ascii_lowercase (λ b x. (others b x).0) bytes l (begins_as is_ascii_lowercase (word_first front h)))
  mark_kind t (a_number h f) l = absurd (apart is_other numeric (λ b x. (others b x).1) bytes l (begins_as numeric (number_first front h)))
  mark_kind t (a_text q ps k p u g f) l = absurd (apart is_other quotes (λ b x. (others b x).2) bytes l (begins_as quotes (text_first front q ps k g)))
  mark_kind t (a_mark f) l = f

-- ---- no bytes

no_front : (n : ℕ) (t : Token) → Spells n [] t → ⊥
no_front n t (a_word h f) = h
no_front n t (a_number h f) = number_first [] h
no_front n t (a_text q ps k p u g f) = text_first [] q ps k g
no_front n t (a_mark f) = mark_first [] (n ∷ []) t f

pub nothing : (n : ℕ) (bytes : List ℕ) → length bytes < 1 → NoToken n bytes
nothing n bytes h [] rest t s e = no_front n t s
nothing n bytes h (b ∷ bs) rest t s e = absurd (omega (arith, h, ap length e))
