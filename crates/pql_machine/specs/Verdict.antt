-- The verdict on a list of tokens, and how the machine reaches it.
use Rattle.std.specs.Prelude.{◌≤◌, ◌<◌, length, take, ◌≡◌, ℕ, ◌+◌, List, [], ◌∷◌, nat_le, if◌then◌else◌, Option, Some, None}
use Rattle.pql_spec.specs.query_spec.Query.{Level}
use Rattle.pql_spec.specs.declared.token.Token.{Token}
use Rattle.pql_spec.specs.Texts.{Begins}
use Rattle.pql_spec.specs.Grammar.{PqlSpells}
use Rattle.pql_machine.specs.Machine.{State, start, step, ended, and_then}
use Rattle.pql_machine.specs.Least.{need}
use Rattle.pql_spec.specs.query_spec.Limits.{most_depth}

-- `at` is the length of the longest prefix of the tokens that begins a query
pub record BadAt (tokens : List Token) (at : ℕ) : Type 0 where
  pub inside : at ≤ length tokens
  pub begins : Begins (take at tokens)
  pub longest : at < length tokens → Begins (take (at + 1) tokens) → ⊥
  pub whole : at ≡ length tokens → (q : Level) → PqlSpells tokens q → ⊥

pub data Verdict : Type 0 where
  spelled : Level → Verdict
  bad : ℕ → Verdict

abbrev pub Means : List Token → Verdict → Type 0
Means ts (spelled q) = PqlSpells ts q
Means ts (bad at) = BadAt ts at

-- the state, if a query with at most n levels of filters continues it
abbrev pub within_depth : ℕ → State → Option State
within_depth n q = if nat_le (need q) n then Some q else None

abbrev pub admit : ℕ → State → Token → Option State
admit n s t = and_then (step s t) (within_depth n)

abbrev pub at_end : Option Level → ℕ → Verdict
at_end (Some q) at = spelled q
at_end None at = bad at

abbrev pub next : Option State → ℕ → (State → Verdict) → Verdict
next None at f = bad at
next (Some q) at f = f q

-- the verdict on the remaining tokens; `at` is the number of the first of them
abbrev pub verdict : ℕ → State → ℕ → List Token → Verdict
verdict n s at [] = at_end (ended s) at
verdict n s at (t ∷ ts) = next (admit n s t) at (λ q. verdict n q (at + 1) ts)

abbrev pub MachineTells : Type 0
MachineTells = (ts : List Token) → Means ts (verdict most_depth start 0 ts)

abbrev pub SpellsOneQuery : Type 0
SpellsOneQuery = (ts : List Token) (p q : Level) → PqlSpells ts p → PqlSpells ts q → p ≡ q
