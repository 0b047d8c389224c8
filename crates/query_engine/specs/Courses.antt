-- The order in which patterns are read and texts are tried on them.
use Rattle.std.specs.Prelude.{◌≡◌, List, [], ◌++◌, ◌⊎◌, Option, Some, Result, Ok, Err}
use Rattle.pattern_port.specs.Course.{Act, Try, course_more, only_read, only_tried}
use Rattle.pattern_port.specs.Refused.{Asked}
use Rattle.query_plan.specs.query_spec.declared.parts.Pattern.{Pattern}
use Rattle.query_engine.specs.Answers.{taken, AreAsked}
use Rattle.query_engine.specs.declared.engine.QueryFault.{QueryFault}
use Rattle.query_engine.specs.declared.engine.QueryFault.TheVariants.{BadPattern, SumTooLarge, Memory}

-- only readings were added, those that the result tells
pub record HasRead {A : Type 0} (patterns : List Pattern) (before now : Option (List Act)) (result : Result A QueryFault) : Type 0 where
  pub added : List Asked
  pub course : now ≡ course_more before (only_read added)
  pub read : AreAsked patterns (Some []) (Some added) result

-- no text is tried before each pattern was read, and none if a pattern was refused
abbrev pub DoTriesWait : {A : Type 0} → List Pattern → List Asked → List Try → Result A QueryFault → Type 0
DoTriesWait patterns added tries (Ok x) = Unit {0}
DoTriesWait patterns added tries (Err (BadPattern path)) = tries ≡ []
DoTriesWait patterns added tries (Err (SumTooLarge path)) = Unit {0}
DoTriesWait patterns added tries (Err Memory) = (added ≡ taken patterns) ⊎ (tries ≡ [])

-- first the readings that the result tells were added, then only tries
pub record IsCourse {A : Type 0} (patterns : List Pattern) (before now : Option (List Act)) (result : Result A QueryFault) : Type 0 where
  pub added : List Asked
  pub tries : List Try
  pub course : now ≡ course_more before (only_read added ++ only_tried tries)
  pub read : AreAsked patterns (Some []) (Some added) result
  pub wait : DoTriesWait patterns added tries result
