-- How far a text has been read.
use Rattle.std.specs.Prelude.{◌≡◌, ◌⊎◌, ◌+◌, ℕ, suc, List, [], ◌∷◌, ◌++◌, length, Bool, ◌||◌, ◌==◌, if◌then◌else◌, Option, Some, None, Result, Ok, Err}
use Rattle.query_spec.specs.text_spec.JsonText.{IsSpace}
use Rattle.query_spec.specs.Query.{Level}
use Rattle.pql_spec.specs.declared.token.Token.{Token}
use Rattle.pql_spec.specs.Texts.{Spelt, bytes_of, tokens_of, AreSpelt, TextSpells, PqlBad}
use Rattle.pql_machine.specs.Machine as machine
use Rattle.pql_machine.specs.Verdict.{admit, verdict}
use Rattle.pql_lexer.specs.Next.{IsNext, NoToken}
use Rattle.pql_parts.specs.States.{state_of}
use Rattle.pql_parts.specs.declared.fault.Fault.{Fault}
use Rattle.pql_parts.specs.declared.fault.Fault.TheVariants.{Bad, Memory}
use Rattle.pql_parts.specs.declared.state.State.{State}
use Rattle.pql_reader.specs.declared.read.Stop.{Stop}
use Rattle.pql_reader.specs.declared.read.Stop.TheVariants as stop
use Rattle.query_spec.specs.Limits.{most_depth}

-- ---- white space

abbrev pub space_length : List ℕ → ℕ
space_length [] = 0
space_length (b ∷ bs) = if (b == 32) || (b == 9) || (b == 10) || (b == 13) then suc (space_length bs) else 0

-- ---- one token

-- the bytes begin with no token, or with one that no query continues with
abbrev pub Halts : machine.State → ℕ → List ℕ → Type 0
Halts z n bytes = NoToken n bytes ⊎ ((t : Token) × (m : ℕ) × IsNext n bytes t m × (admit most_depth z t ≡ None))

abbrev pub Stepped : machine.State → ℕ → List ℕ → List machine.Frame → Result (State × ℕ) Fault → Type 0
Stepped z n bytes fs (Ok r) = (t : Token) × IsNext n bytes t r.1 × (admit most_depth z t ≡ Some (state_of fs r.0))
Stepped z n bytes fs (Err Bad) = Halts z n bytes
Stepped z n bytes fs (Err Memory) = Unit {0}

-- ---- tokens

-- from state s and token number n the bytes up to `rest` are tokens that lead to state z and token number m
pub record Goes (s : machine.State) (n : ℕ) (bytes : List ℕ) (z : machine.State) (m : ℕ) (rest : List ℕ) : Type 0 where
  pub spelt : List Spelt
  pub space : List ℕ
  pub are_spelt : AreSpelt n spelt (space ++ rest)
  pub is_space : IsSpace space
  pub bytes_are : bytes ≡ bytes_of spelt (space ++ rest)
  pub number_is : m ≡ n + length (tokens_of spelt)
  pub ran : (us : List Token) → verdict most_depth s n (tokens_of spelt ++ us) ≡ verdict most_depth z m us

-- whatever is reached from here is reached from the beginning of the text
abbrev pub Reached : List ℕ → machine.State → ℕ → List ℕ → Type 0
Reached text s n bytes = (z : machine.State) (m : ℕ) (rest : List ℕ) → Goes s n bytes z m rest → Goes machine.start 0 text z m rest

-- ---- the whole text

-- the level if the text may end here, otherwise the position of the fault
abbrev pub EndsAs : Option Level → ℕ → Result Level Stop → Type 0
EndsAs o at (Ok q) = Some q ≡ o
EndsAs o at (Err (stop.Bad b)) = (None ≡ o) × (b ≡ at)
EndsAs o at (Err stop.Memory) = ⊥

abbrev pub stop_of : Fault → ℕ → Stop
stop_of Bad at = stop.Bad at
stop_of Memory at = stop.Memory

abbrev pub Reads : List ℕ → Result Level Stop → Type 0
Reads text (Ok q) = TextSpells text q
Reads text (Err (stop.Bad at)) = PqlBad text at
Reads text (Err stop.Memory) = Unit {0}
