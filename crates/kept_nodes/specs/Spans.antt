-- The places in a list of what passes a test.
use Rattle.std.specs.Prelude.{◌≡◌, ℕ, zero, suc, ◌+◌, ◌≤◌, List, [], ◌∷◌, Bool, if◌then◌else◌, length, slice_get, Some, Result, Ok, Err}
use Rattle.kept_nodes.specs.Runs.{number}
use Rattle.kept_nodes.specs.declared.wanted.Span.{Span}

-- the places of what passes the test, in order; the first of the list stands at k
abbrev pub places_from : {A : Type 0} → ℕ → (A → Bool) → List A → List ℕ
places_from k test [] = []
places_from k test (x ∷ xs) = if test x then k ∷ places_from (suc k) test xs else places_from (suc k) test xs

-- the places in a list that stands alone
abbrev pub places_of : {A : Type 0} → (A → Bool) → List A → List ℕ
places_of = places_from 0

-- so many places from this one on
abbrev pub neighbours : ℕ → ℕ → List ℕ
neighbours from zero = []
neighbours from (suc count) = from ∷ neighbours (suc from) count

-- what passes the test are the neighbours of the span, wherever the list stands
abbrev pub IsSpanOf : {A : Type 0} → (A → Bool) → List A → Span → Type 0
IsSpanOf test xs span = ((k : ℕ) → places_from k test xs ≡ neighbours (k + span.from) span.count) × (span.from + span.count ≤ length xs)

-- Ok: place i of these places. Err: what is left of i behind all of them
abbrev pub IsNthPlace : {A : Type 0} → ℕ → (A → Bool) → List A → ℕ → Result ℕ ℕ → Type 0
IsNthPlace k test xs i (Ok place) = slice_get (places_from k test xs) i ≡ Some place
IsNthPlace k test xs i (Err left) = i ≡ number test xs + left
