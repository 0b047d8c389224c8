-- From what was read of a text in PQL to what is answered, and from a language to that of a text.
use Rattle.std.proofs.Common.{◌≡◌, ◌∙◌, ℕ, List, arith, Bool, true, false, Option, Result, Ok, Err, refl, sym, subst, inl}
use Rattle.query_engine.specs.fleet_ports.Counts.{Counts}
use Rattle.ast_reader.specs.query_spec.Answer.{AnswerOf, query}
use Rattle.pql_reader.specs.Answered.{Answered}
use Rattle.pql_reader.specs.declared.read.PqlFault.{PqlFault}
use Rattle.pql_reader.specs.declared.read.PqlFault.TheVariants as read
use Rattle.means_laws.specs.means_spec.World.{World}
use Rattle.means_laws.specs.means_spec.OutRows.{OutRows}
use Rattle.query_engine.specs.pattern_port.Refused.{Asked}
use Rattle.query_answer.specs.Language.{is_ast}
use Rattle.query_answer.specs.Told.{in_ast, in_pql, in_language, told_of, unread_pql}
use Rattle.query_answer.specs.Answers.{IsUntold, MatchAnswer, IsPatternFault}
use Rattle.query_answer.specs.declared.answer.AnswerFault.{AnswerFault}

-- a text that spells no query
pub fault_told : (w : World) (text : List ℕ) (before now : Option (List Asked)) (fault : PqlFault) → Answered text (Err fault) → now ≡ before → IsUntold w (in_pql text) before now (unread_pql fault)
fault_told w text before now read.TooLong h e = (h, e)
fault_told w text before now (read.PqlBad at) h e = (h, e)
fault_told w text before now (read.UnknownEntity p) h e = (h, e)
fault_told w text before now (read.UnknownField p) h e = (h, e)
fault_told w text before now (read.BadOperand p) h e = (h, e)
fault_told w text before now read.Memory h e = inl e

never_refused : (fault : PqlFault) → IsPatternFault (unread_pql fault) → ⊥
never_refused read.TooLong h = h
never_refused (read.PqlBad at) h = h
never_refused (read.UnknownEntity p) h = h
never_refused (read.UnknownField p) h = h
never_refused (read.BadOperand p) h = h
never_refused read.Memory h = h

pub counts_stay : (count : ℕ) (fault : PqlFault) → Counts count count (IsPatternFault (unread_pql fault))
counts_stay count fault = record { later = omega arith; cause = λ h. absurd (never_refused fault h); calm = λ never. refl }

-- the text is in the language that the test says
module _ (w : World) (text : List ℕ) (before now : Option (List Asked)) (print : OutRows → List ℕ) (result : Result (List ℕ) AnswerFault) (test : Bool) (is : test ≡ is_ast text) where
  pub told_in_ast : test ≡ true → MatchAnswer w (in_ast (AnswerOf query text)) before now print result → MatchAnswer w (told_of text) before now print result
  told_in_ast t h = subst (λ b. MatchAnswer w (in_language b text) before now print result) (sym t ∙ is) h

  pub told_in_pql : test ≡ false → MatchAnswer w (in_pql text) before now print result → MatchAnswer w (told_of text) before now print result
  told_in_pql f h = subst (λ b. MatchAnswer w (in_language b text) before now print result) (sym f ∙ is) h
