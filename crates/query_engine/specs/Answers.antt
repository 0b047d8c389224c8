-- The answers of a plan and of a query.
use Rattle.std.specs.Prelude.{◌≡◌, ℕ, List, [], ◌∷◌, ◌++◌, map, true, false, Option, Some, None, Result, Ok, Err}
use Rattle.query_plan.specs.query_spec.declared.parts.Pattern.{Pattern}
use Rattle.query_plan.specs.query_spec.Query.{Level}
use Rattle.query_plan.specs.means_spec.World.{World}
use Rattle.query_plan.specs.means_spec.OutRows.{means}
use Rattle.query_plan.specs.means_spec.Sums.{too_large}
use Rattle.level_answers.specs.paging_text.Shown.{rows_of}
use Rattle.pattern_port.specs.Refused.{Asked, asked_more}
use Rattle.query_plan.specs.Plan.{Stage, level_patterns, solved, solved_sum}
use Rattle.query_engine.specs.declared.engine.Picked.{Picked}
use Rattle.query_engine.specs.declared.engine.QueryFault.{QueryFault}
use Rattle.query_engine.specs.declared.engine.QueryFault.TheVariants.{BadPattern, SumTooLarge, Memory}
use Rattle.query_engine.specs.declared.engine.Solved.{Solved}
use Rattle.query_engine.specs.declared.engine.Solved.TheVariants as solve

module _ (w : World) (patterns : List (List ℕ)) where
  -- the rows of each stage, or the first sum that is too large
  abbrev pub IsSolved : List Stage → Solved → Type 0
  IsSolved stages (solve.Found found) = (solved_sum w patterns [] stages ≡ None) × (found.items ≡ solved w patterns [] stages)
  IsSolved stages (solve.TooLarge place) = solved_sum w patterns [] stages ≡ Some place.now

-- this is the place of one of the patterns
pub record IsPlaceIn (patterns : List Pattern) (place : List ℕ) : Type 0 where
  pub earlier : List Pattern
  pub pattern : Pattern
  pub later : List Pattern
  pub patterns_are : patterns ≡ earlier ++ pattern ∷ later
  pub place_is : pattern.place ≡ place

-- the fault of compiling the patterns
abbrev pub IsPatternFault : List Pattern → QueryFault → Type 0
IsPatternFault patterns (BadPattern path) = IsPlaceIn patterns path
IsPatternFault patterns (SumTooLarge path) = ⊥
IsPatternFault patterns Memory = Unit {0}

-- Ok is exactly the answer that the query means, and no sum is too large. A sum is reported exactly as the definition does. A
-- refused pattern is one of the query's
abbrev pub MatchPicked : World → Level → Result Picked QueryFault → Type 0
MatchPicked w q (Ok picked) = (too_large w q ≡ None) × (rows_of picked.rows ≡ means w q)
MatchPicked w q (Err (SumTooLarge path)) = too_large w q ≡ Some path
MatchPicked w q (Err (BadPattern path)) = IsPlaceIn (level_patterns q) path
MatchPicked w q (Err Memory) = Unit {0}

abbrev pub IsRefusal : QueryFault → Type 0
IsRefusal (BadPattern path) = Unit {0}
IsRefusal _ = ⊥

-- the result is that a pattern was refused
abbrev pub IsBadPattern : {A : Type 0} → Result A QueryFault → Type 0
IsBadPattern (Ok x) = ⊥
IsBadPattern (Err fault) = IsRefusal fault

-- ---- which patterns were read

-- these patterns were read, and none was refused
abbrev pub taken : List Pattern → List Asked
taken = map (λ (t : Pattern). (t.text, false))

-- the pattern at this place is the first that was refused; those before it were read in order
pub record IsFirstRefused (patterns : List Pattern) (before now : Option (List Asked)) (place : List ℕ) : Type 0 where
  pub earlier : List Pattern
  pub pattern : Pattern
  pub later : List Pattern
  pub patterns_are : patterns ≡ earlier ++ pattern ∷ later
  pub place_is : pattern.place ≡ place
  pub asked : now ≡ asked_more before (taken earlier ++ (pattern.text, true) ∷ [])

-- a prefix of the patterns was read
pub record IsFrontRead (patterns : List Pattern) (before now : Option (List Asked)) : Type 0 where
  pub earlier : List Pattern
  pub later : List Pattern
  pub patterns_are : patterns ≡ earlier ++ later
  pub asked : now ≡ asked_more before (taken earlier)

-- each pattern was read once, in order, up to the first refused one, whose place is returned; without memory only a prefix was
-- read
abbrev pub AreAsked : {A : Type 0} → List Pattern → Option (List Asked) → Option (List Asked) → Result A QueryFault → Type 0
AreAsked patterns before now (Ok x) = now ≡ asked_more before (taken patterns)
AreAsked patterns before now (Err (BadPattern path)) = IsFirstRefused patterns before now path
AreAsked patterns before now (Err (SumTooLarge path)) = now ≡ asked_more before (taken patterns)
AreAsked patterns before now (Err Memory) = IsFrontRead patterns before now
