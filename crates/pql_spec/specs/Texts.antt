-- The tokens of PQL texts, the query that a text spells, and where any other text goes wrong.
use Rattle.std.specs.Prelude.{◌≡◌, ◌<◌, ◌≤◌, ◌+◌, ℕ, suc, List, [], ◌∷◌, ◌++◌, length, Some, None, Option, Result, Ok, Err}
use Rattle.std.specs.List.{AllByRecursion}
use Rattle.query_spec.specs.text_spec.JsonText.{IsSpace, IsSpaceByte}
use Rattle.query_spec.specs.Check.{Place, level_fault}
use Rattle.query_spec.specs.declared.sought.Sought.TheVariants as seek
use Rattle.query_spec.specs.Query.{Level}
use Rattle.pql_spec.specs.declared.token.Token.{Token}
use Rattle.pql_spec.specs.Tokens.{Spells}
use Rattle.pql_spec.specs.Grammar.{PqlSpells}
use Rattle.query_spec.specs.Limits.{most_query}

-- ---- tokens by longest match

-- white space, followed by the bytes of a token
pub record Spelt : Type 0 where
  pub space : List ℕ
  pub bytes : List ℕ
  pub token : Token

-- the bytes of these tokens, followed by r
abbrev pub bytes_of : List Spelt → List ℕ → List ℕ
bytes_of [] r = r
bytes_of (x ∷ xs) r = x.space ++ (x.bytes ++ bytes_of xs r)

abbrev pub tokens_of : List Spelt → List Token
tokens_of [] = []
tokens_of (x ∷ xs) = x.token ∷ tokens_of xs

-- the bytes spell token number n, and no longer prefix of the bytes and r spells a token
pub record IsLongest (n : ℕ) (bytes : List ℕ) (t : Token) (r : List ℕ) : Type 0 where
  pub spells : Spells n bytes t
  pub longest : (longer rest : List ℕ) (u : Token) → Spells n longer u → bytes ++ r ≡ longer ++ rest → length longer ≤ length bytes

abbrev pub AreSpelt : ℕ → List Spelt → List ℕ → Type 0
AreSpelt n [] r = Unit {0}
AreSpelt n (x ∷ xs) r = IsSpace x.space × IsLongest n x.bytes x.token (bytes_of xs r) × AreSpelt (suc n) xs r

abbrev pub IsNoSpace : List ℕ → Type 0
IsNoSpace [] = Unit {0}
IsNoSpace (b ∷ bs) = ¬ IsSpaceByte b

-- the text begins with these tokens, followed by white space and the rest
pub record BeginsWith (text : List ℕ) (tokens : List Token) (rest : List ℕ) : Type 0 where
  pub spelt : List Spelt
  pub space : List ℕ
  pub are_spelt : AreSpelt 0 spelt (space ++ rest)
  pub is_space : IsSpace space
  pub is_no_space : IsNoSpace rest
  pub text_is : text ≡ bytes_of spelt (space ++ rest)
  pub tokens_are : tokens ≡ tokens_of spelt

-- ---- the query

pub record TextSpells (text : List ℕ) (q : Level) : Type 0 where
  pub tokens : List Token
  pub begins_with : BeginsWith text tokens []
  pub spells : PqlSpells tokens q

-- ---- where a text without a query goes wrong

abbrev pub IsToken : Token → Type 0
IsToken t = (n : ℕ) × (bytes : List ℕ) × Spells n bytes t

-- the tokens begin a query
pub record Begins (front : List Token) : Type 0 where
  pub rest : List Token
  pub query : Level
  pub are_tokens : AllByRecursion IsToken rest
  pub spells : PqlSpells (front ++ rest) query

-- why no query continues here: the text ends, no token begins here, or the next token is wrong
pub data Stops (tokens : List Token) (rest : List ℕ) : Type 0 where
  at_end : rest ≡ [] → ((q : Level) → PqlSpells tokens q → ⊥) → Stops tokens rest
  at_no_token : ¬ (rest ≡ []) → ((bytes r : List ℕ) (t : Token) → Spells (length tokens) bytes t → rest ≡ bytes ++ r → ⊥)
      → Stops tokens rest
  at_token : (bytes r : List ℕ) (t : Token) → IsLongest (length tokens) bytes t r → rest ≡ bytes ++ r
      → (Begins (tokens ++ t ∷ []) → ⊥) → Stops tokens rest

-- the tokens before offset `at` begin a query, and no query continues with what follows
pub record PqlBad (text : List ℕ) (at : ℕ) : Type 0 where
  pub tokens : List Token
  pub rest : List ℕ
  pub begins_with : BeginsWith text tokens rest
  pub place : length text ≡ at + length rest
  pub begins : Begins tokens
  pub stops : Stops tokens rest

-- ---- the answer to a text

-- the refusals, in the order in which they are reported
pub data Refusal : Type 0 where
  too_long : Refusal
  pql_bad : ℕ → Refusal
  unknown_entity : Place → Refusal
  unknown_field : Place → Refusal
  bad_operand : Place → Refusal

abbrev pub Answer : Type 0
Answer = Result Level Refusal

-- the refusal at this place, or the answer if there is none
abbrev pub unless_at : Option Place → (Place → Refusal) → Answer → Answer
unless_at None refusal answer = answer
unless_at (Some p) refusal answer = Err (refusal p)

abbrev pub checked : Level → Answer
checked q =
    unless_at (level_fault seek.Entity q) unknown_entity
    (unless_at (level_fault seek.Field q) unknown_field (unless_at (level_fault seek.Operand q) bad_operand (Ok q)))

-- the answer to a text. More than 1,048,576 bytes are refused without reading them
pub data AnswerOf (text : List ℕ) (answer : Answer) : Type 0 where
  long : most_query < length text → answer ≡ Err too_long → AnswerOf text answer
  bad : (at : ℕ) → length text ≤ most_query → PqlBad text at → answer ≡ Err (pql_bad at) → AnswerOf text answer
  spelt : (q : Level) → length text ≤ most_query → TextSpells text q → answer ≡ checked q → AnswerOf text answer
