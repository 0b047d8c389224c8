-- The bytes that spell each token.
use Rattle.std.specs.Prelude.{◌≡◌, ℕ, List, [], ◌∷◌, ◌++◌, Bool, true, false, ◌||◌, ◌==◌, Option, Some, None, codes, IsTrue, flat_map, IsUtf8, ◌⊎◌, if◌then◌else◌}
use Rattle.std.specs.Char.{is_ascii_digit, is_ascii_lowercase}
use Rattle.std.specs.List.{AllByRecursion}
use Rattle.std.specs.Str.{bytes_eq}
use Rattle.query_spec.specs.text_spec.Number.{IsNumber}
use Rattle.query_spec.specs.declared.parts.Op.TheVariants.{Equal, Less, AtMost, More, AtLeast}
use Rattle.query_spec.specs.declared.parts.Scalar.{Scalar}
use Rattle.query_spec.specs.declared.parts.Scalar.TheVariants as scalar
use Rattle.query_spec.specs.Parts.{name}
use Rattle.pql_spec.specs.declared.token.Token.{Token}
use Rattle.pql_spec.specs.declared.token.Token.TheVariants as token

abbrev pub literal_token : Scalar → List ℕ → Token
literal_token s p = token.Literal (record { value = s; place = p })

-- ---- words: a lower-case letter, then lower-case letters, digits and `_`

abbrev pub IsWordByte : ℕ → Type 0
IsWordByte b = IsTrue (is_ascii_lowercase b || is_ascii_digit b || (b == 95))

abbrev pub IsWord : List ℕ → Type 0
IsWord [] = ⊥
IsWord (b ∷ bs) = IsTrue (is_ascii_lowercase b) × AllByRecursion IsWordByte bs

abbrev pub bool_token : Bool → List ℕ → Token
bool_token b p = literal_token (scalar.Bool b) p

-- keywords are tokens of their own
unfoldable pub word_token : List ℕ → List ℕ → Token
word_token s p =
    if bytes_eq s (codes "and") then token.And
    else (if bytes_eq s (codes "or") then token.Or
    else (if bytes_eq s (codes "in") then token.In
    else (if bytes_eq s (codes "is") then token.Is
    else (if bytes_eq s (codes "not") then token.Not
    else (if bytes_eq s (codes "null") then token.Null
    else (if bytes_eq s (codes "true") then bool_token true p
    else (if bytes_eq s (codes "false") then bool_token false p
    else (if bytes_eq s (codes "group") then token.Group
    else (if bytes_eq s (codes "order") then token.Order
    else (if bytes_eq s (codes "by") then token.By
    else (if bytes_eq s (codes "asc") then token.Asc
    else (if bytes_eq s (codes "desc") then token.Desc
    else (if bytes_eq s (codes "limit") then token.Limit
    else (if bytes_eq s (codes "offset") then token.Offset
    else token.Word (name s p)))))))))))))))

-- ---- marks

unfoldable pub mark_token : List ℕ → List ℕ → Option Token
mark_token s p =
    if bytes_eq s (codes "[") then Some (token.OpenBracket p)
    else (if bytes_eq s (codes "]") then Some token.CloseBracket
    else (if bytes_eq s (codes "{") then Some token.OpenBrace
    else (if bytes_eq s (codes "}") then Some token.CloseBrace
    else (if bytes_eq s (codes "(") then Some token.OpenParen
    else (if bytes_eq s (codes ")") then Some token.CloseParen
    else (if bytes_eq s (codes ",") then Some token.Comma
    else (if bytes_eq s (codes "!") then Some token.Bang
    else (if bytes_eq s (codes "~") then Some token.Tilde
    else (if bytes_eq s (codes "=") then Some (token.Comparison Equal)
    else (if bytes_eq s (codes "!=") then Some token.Differs
    else (if bytes_eq s (codes "<") then Some (token.Comparison Less)
    else (if bytes_eq s (codes "<=") then Some (token.Comparison AtMost)
    else (if bytes_eq s (codes ">") then Some (token.Comparison More)
    else (if bytes_eq s (codes ">=") then Some (token.Comparison AtLeast)
    else None))))))))))))))

-- ---- texts between two `'` or two `"`, the text's quote

abbrev pub IsQuote : ℕ → Type 0
IsQuote q = (q ≡ 39) ⊎ (q ≡ 34)

-- a part of a text: a plain byte; a `\` that escapes the next byte; or a `\` that stands for itself, followed by a byte
pub data Piece : Type 0 where
  plain : ℕ → Piece
  escaped : ℕ → Piece
  backslash : ℕ → Piece

abbrev pub piece_text : Piece → List ℕ
piece_text (plain b) = b ∷ []
piece_text (escaped b) = 92 ∷ b ∷ []
piece_text (backslash b) = 92 ∷ b ∷ []

abbrev pub piece_bytes : Piece → List ℕ
piece_bytes (plain b) = b ∷ []
piece_bytes (escaped b) = b ∷ []
piece_bytes (backslash b) = 92 ∷ b ∷ []

-- a `\` escapes the quote and the `\`, and stands for itself before any other byte
abbrev pub IsPiece : ℕ → Piece → Type 0
IsPiece q (plain b) = ¬ (b ≡ q) × ¬ (b ≡ 92)
IsPiece q (escaped b) = (b ≡ q) ⊎ (b ≡ 92)
IsPiece q (backslash b) = ¬ (b ≡ q) × ¬ (b ≡ 92)

abbrev pub quoted : ℕ → List Piece → List ℕ
quoted q ps = q ∷ (flat_map piece_text ps ++ q ∷ [])

abbrev pub text_bytes : List Piece → List ℕ
text_bytes = flat_map piece_bytes

-- ---- tokens

-- the bytes spell the token, whose number is n. A number has the form of RFC 8259, section 6, and a text is UTF-8
pub data Spells (n : ℕ) (bytes : List ℕ) (t : Token) : Type 0 where
  a_word : IsWord bytes → t ≡ word_token bytes (n ∷ []) → Spells n bytes t
  a_number : IsNumber bytes → t ≡ literal_token (scalar.Num bytes) (n ∷ []) → Spells n bytes t
  a_text : (q : ℕ) (ps : List Piece) → IsQuote q → AllByRecursion (IsPiece q) ps → IsUtf8 (text_bytes ps) → bytes ≡ quoted q ps
      → t ≡ literal_token (scalar.Text (text_bytes ps)) (n ∷ []) → Spells n bytes t
  a_mark : Some t ≡ mark_token bytes (n ∷ []) → Spells n bytes t
