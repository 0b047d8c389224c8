-- The answer to the text of a query.
use Rattle.std.specs.Prelude.{◌≡◌, ◌⊎◌, ℕ, List, Option, Some, None, Result, Ok, Err}
use Rattle.ast_reader.specs.query_spec.Query.{Level}
use Rattle.means_laws.specs.means_spec.World.{World}
use Rattle.means_laws.specs.means_spec.OutRows.{OutRows, means}
use Rattle.means_laws.specs.means_spec.Sums.{too_large}
use Rattle.query_engine.specs.pattern_port.Refused.{Asked, asked_more}
use Rattle.means_laws.specs.paging_text.Shown.{rows_of, written_text}
use Rattle.query_engine.specs.query_plan.Plan.{level_patterns}
use Rattle.query_engine.specs.Answers.{taken, IsFirstRefused, IsFrontRead}
use Rattle.query_engine.specs.declared.engine.Picked.{Picked}
use Rattle.query_engine.specs.declared.engine.QueryFault.{QueryFault}
use Rattle.query_engine.specs.declared.engine.QueryFault.TheVariants as pick
use Rattle.query_answer.specs.Told.{Told}
use Rattle.query_answer.specs.declared.answer.AnswerFault.{AnswerFault}
use Rattle.query_answer.specs.declared.answer.AnswerFault.TheVariants.{Refused, Memory}
use Rattle.query_answer.specs.declared.refusal.QueryRefusal.TheVariants.{BadPattern, SumTooLarge}

-- ---- the faults of the evaluator

abbrev pub unpicked : QueryFault → AnswerFault
unpicked (pick.BadPattern p) = Refused (BadPattern p)
unpicked (pick.SumTooLarge p) = Refused (SumTooLarge p)
unpicked pick.Memory = Memory

-- the text of the selected rows, or the fault of the selection
abbrev pub IsWritten : Result Picked QueryFault → Result (List ℕ) AnswerFault → Type 0
IsWritten (Ok picked) (Ok text) = text ≡ written_text (rows_of picked.rows)
IsWritten (Ok picked) (Err Memory) = Unit {0}
IsWritten (Ok picked) (Err (Refused why)) = ⊥
IsWritten (Err fault) result = result ≡ Err (unpicked fault)

-- ---- the answer to a query, with the patterns read before the call and after it

module _ (w : World) (q : Level) (before now : Option (List Asked)) where
  -- For a pattern, the reader read each pattern once, in preorder, and this is the first that it refused. For a sum, all patterns
  -- were read, and this is the first sum that is too large. Without memory, a prefix of the patterns was read.
  abbrev pub IsUnanswered : AnswerFault → Type 0
  IsUnanswered (Refused (BadPattern path)) = IsFirstRefused (level_patterns q) before now path
  IsUnanswered (Refused (SumTooLarge path)) = (now ≡ asked_more before (taken (level_patterns q))) × (too_large w q ≡ Some path)
  IsUnanswered (Refused _) = ⊥
  IsUnanswered Memory = IsFrontRead (level_patterns q) before now

  -- All patterns were read, no sum is too large, and the text prints the rows that the query means.
  abbrev pub MatchRows : (OutRows → List ℕ) → Result (List ℕ) AnswerFault → Type 0
  MatchRows print (Ok text) = (now ≡ asked_more before (taken (level_patterns q))) × (too_large w q ≡ None) × (text ≡ print (means w q))
  MatchRows print (Err fault) = IsUnanswered fault

-- ---- the answer to a text, from the result of reading it

module _ (w : World) (told : Told → Type 0) (before now : Option (List Asked)) where
  -- the text spells a query whose evaluation ends with this fault
  abbrev pub IsFaultOfQuery : AnswerFault → Type 0
  IsFaultOfQuery fault = (q : Level) × told (Ok q) × IsUnanswered w q before now fault

  abbrev pub IsUntold : AnswerFault → Type 0
  IsUntold (Refused (BadPattern p)) = IsFaultOfQuery (Refused (BadPattern p))
  IsUntold (Refused (SumTooLarge p)) = IsFaultOfQuery (Refused (SumTooLarge p))
  IsUntold (Refused why) = told (Err why) × (now ≡ before)
  IsUntold Memory = (now ≡ before) ⊎ IsFaultOfQuery Memory

  -- the rows of the query that the text spells, or the first reason why there are none
  abbrev pub MatchAnswer : (OutRows → List ℕ) → Result (List ℕ) AnswerFault → Type 0
  MatchAnswer print (Ok text) = (q : Level) × told (Ok q) × MatchRows w q before now print (Ok text)
  MatchAnswer print (Err fault) = IsUntold fault

-- ---- whether a pattern was refused

abbrev pub IsPatternFault : AnswerFault → Type 0
IsPatternFault (Refused (BadPattern path)) = Unit {0}
IsPatternFault _ = ⊥

abbrev pub IsPatternRefused : Result (List ℕ) AnswerFault → Type 0
IsPatternRefused (Ok text) = ⊥
IsPatternRefused (Err fault) = IsPatternFault fault
