-- From what was picked to what is answered.
use Rattle.std.proofs.Common.{◌≡◌, ◌∙◌, ℕ, List, [], ◌∷◌, ◌++◌, refl, sym, ap, subst, arith, Bool, Option, Some, None, Result, Ok, Err, inl, inr, append-nil}
use Rattle.std.specs.List.{AllByRecursion}
use Rattle.query_engine.specs.fleet_ports.Counts.{Counts}
use Rattle.query_engine.specs.fleet_tables.Stands.{Stands}
use Rattle.ast_reader.specs.text_spec.Json.{Json}
use Rattle.means_laws.specs.history_spec.Trace.{Trace}
use Rattle.means_laws.specs.table_machine.Table.{Table}
use Rattle.ast_reader.specs.Answered.{AnsweredAs}
use Rattle.ast_reader.specs.declared.read.AstFault.{AstFault}
use Rattle.ast_reader.specs.declared.read.AstFault.TheVariants as read
use Rattle.ast_reader.specs.query_spec.Answer.{AnswerOf}
use Rattle.ast_reader.specs.query_spec.Ast.{Read}
use Rattle.ast_reader.specs.query_spec.Query.{Level}
use Rattle.ast_reader.specs.query_spec.declared.parts.Pattern.{Pattern}
use Rattle.means_laws.specs.means_spec.World.{World}
use Rattle.means_laws.specs.means_spec.World as spec
use Rattle.means_laws.specs.means_spec.OutRows.{OutRows, means, lines_text}
use Rattle.query_engine.specs.pattern_port.Refused.{Asked, asked_more}
use Rattle.means_laws.specs.paging_text.Shown.{IsPrintableRow, rows_of, written_text}
use Rattle.means_laws.proofs.of_paging_text.RowTexts.{rows_text_is}
use Rattle.means_laws.proofs.PrintableMeans.{rows_can_be_printed}
use Rattle.query_engine.specs.query_plan.Plan.{level_patterns}
use Rattle.query_engine.specs.Answers.{taken, IsFirstRefused, IsFrontRead, AreAsked, MatchPicked, IsBadPattern}
use Rattle.query_engine.specs.Tables.{world_of}
use Rattle.query_engine.specs.declared.engine.Picked.{Picked}
use Rattle.query_engine.specs.declared.engine.QueryFault.{QueryFault}
use Rattle.query_engine.specs.declared.engine.QueryFault.TheVariants as pick
use Rattle.query_engine.proofs.Worlds.{world_is}
use Rattle.query_answer.specs.Told.{Told, in_ast, unread_ast}
use Rattle.query_answer.specs.Answers.{unpicked, IsWritten, IsUnanswered, MatchRows, IsUntold, MatchAnswer, IsPatternFault, IsPatternRefused}
use Rattle.query_answer.specs.declared.answer.AnswerFault.{AnswerFault}
use Rattle.query_answer.specs.declared.answer.AnswerFault.TheVariants.{Refused, Memory}
use Rattle.query_answer.specs.declared.refusal.QueryRefusal.TheVariants.{TooLong, NotJson, PqlBad, NotQuery, UnknownEntity, UnknownField, BadOperand, BadPattern, SumTooLarge}

-- ---- a query

module _ (w : World) (q : Level) (before now : Option (List Asked)) where
  of_fault : (fault : QueryFault) → MatchPicked w q (Err fault) → AreAsked {A = Picked} (level_patterns q) before now (Err fault) → IsUnanswered w q before now (unpicked fault)
  of_fault (pick.BadPattern path) m a = a
  of_fault (pick.SumTooLarge path) m a = (a, m)
  of_fault pick.Memory m a = a

  pub rows_told : (picked : Result Picked QueryFault) (result : Result (List ℕ) AnswerFault) → MatchPicked w q picked → AreAsked (level_patterns q) before now picked → IsWritten picked result → MatchRows w q before now written_text result
  rows_told (Ok picked) (Ok text) m a h = (a, m.0, h ∙ ap written_text m.1)
  rows_told (Ok picked) (Err Memory) m a h = record { earlier = level_patterns q; later = []; patterns_are = sym (append-nil (level_patterns q)); asked = a }
  rows_told (Ok picked) (Err (Refused why)) m a h = absurd h
  rows_told (Err fault) result m a h = subst (MatchRows w q before now written_text) (sym h) (of_fault fault m a)

  -- rows with moments that can be printed
  pub lines_told : (result : Result (List ℕ) AnswerFault) → AllByRecursion IsPrintableRow (means w q).rows → MatchRows w q before now written_text result → MatchRows w q before now lines_text result
  lines_told (Ok text) p h = (h.0, h.1, h.2 ∙ rows_text_is (means w q) p)
  lines_told (Err fault) p h = h

-- over the tables of a history
pub history_told : (table : Table) (history : Trace) (says : List ℕ → List ℕ → Bool) (q : Level) (before now : Option (List Asked)) (result : Result (List ℕ) AnswerFault) → Stands table history → MatchRows (world_of table says) q before now written_text result → MatchRows (spec.world_of table.ttls history says) q before now lines_text result
history_told table history says q before now result s h =
    lines_told (spec.world_of table.ttls history says) q before now result (rows_can_be_printed table.ttls history says s.0 q)
    (subst (λ w. MatchRows w q before now written_text result) (world_is table history says s) h)

-- ---- whether a pattern was refused

back_to_picked : (fault : QueryFault) → IsPatternFault (unpicked fault) → IsBadPattern {A = Picked} (Err fault)
back_to_picked (pick.BadPattern path) h = tt
back_to_picked (pick.SumTooLarge path) h = absurd h
back_to_picked pick.Memory h = absurd h

on_to_answer : (fault : QueryFault) → IsBadPattern {A = Picked} (Err fault) → IsPatternFault (unpicked fault)
on_to_answer (pick.BadPattern path) h = tt
on_to_answer (pick.SumTooLarge path) h = absurd h
on_to_answer pick.Memory h = absurd h

refused_then : (picked : Result Picked QueryFault) (result : Result (List ℕ) AnswerFault) → IsWritten picked result → IsPatternRefused result → IsBadPattern picked
refused_then (Ok picked) (Ok text) h r = absurd r
refused_then (Ok picked) (Err Memory) h r = absurd r
refused_then (Ok picked) (Err (Refused why)) h r = absurd h
refused_then (Err fault) result h r = back_to_picked fault (subst IsPatternRefused h r)

then_refused : (picked : Result Picked QueryFault) (result : Result (List ℕ) AnswerFault) → IsWritten picked result → IsBadPattern picked → IsPatternRefused result
then_refused (Ok picked) result h r = absurd r
then_refused (Err fault) result h r = subst IsPatternRefused (sym h) (on_to_answer fault r)

pub counts_then : (before now : ℕ) (picked : Result Picked QueryFault) (result : Result (List ℕ) AnswerFault) → IsWritten picked result → Counts before now (IsBadPattern picked) → Counts before now (IsPatternRefused result)
counts_then before now picked result h c =
    record { later = c.later; cause = λ r. c.cause (refused_then picked result h r); calm = λ never. c.calm (λ r. never (then_refused picked result h r)) }

-- ---- a text

module _ (w : World) (told : Told → Type 0) (before now : Option (List Asked)) (print : OutRows → List ℕ) (q : Level) (spelt : told (Ok q)) where
  of_query : (fault : AnswerFault) → IsUnanswered w q before now fault → IsUntold w told before now fault
  of_query (Refused TooLong) h = absurd h
  of_query (Refused (NotJson at)) h = absurd h
  of_query (Refused (PqlBad at)) h = absurd h
  of_query (Refused (NotQuery p)) h = absurd h
  of_query (Refused (UnknownEntity p)) h = absurd h
  of_query (Refused (UnknownField p)) h = absurd h
  of_query (Refused (BadOperand p)) h = absurd h
  of_query (Refused (BadPattern p)) h = (q, spelt, h)
  of_query (Refused (SumTooLarge p)) h = (q, spelt, h)
  of_query Memory h = inr (q, spelt, h)

  pub text_told : (result : Result (List ℕ) AnswerFault) → MatchRows w q before now print result → MatchAnswer w told before now print result
  text_told (Ok text) h = (q, spelt, h)
  text_told (Err fault) h = of_query fault h

-- a text that spells no query
pub fault_told : (w : World) (before now : Option (List Asked)) (ast : Json → Read Level) (text : List ℕ) (fault : AstFault) → AnsweredAs ast text (Err fault) → now ≡ before → IsUntold w (in_ast (AnswerOf ast text)) before now (unread_ast fault)
fault_told w before now ast text read.TooLong h e = (h, e)
fault_told w before now ast text (read.NotJson at) h e = (h, e)
fault_told w before now ast text (read.NotQuery p) h e = (h, e)
fault_told w before now ast text (read.UnknownEntity p) h e = (h, e)
fault_told w before now ast text (read.UnknownField p) h e = (h, e)
fault_told w before now ast text (read.BadOperand p) h e = (h, e)
fault_told w before now ast text read.Memory h e = inl e

never_refused : (fault : AstFault) → IsPatternFault (unread_ast fault) → ⊥
never_refused read.TooLong h = h
never_refused (read.NotJson at) h = h
never_refused (read.NotQuery p) h = h
never_refused (read.UnknownEntity p) h = h
never_refused (read.UnknownField p) h = h
never_refused (read.BadOperand p) h = h
never_refused read.Memory h = h

pub counts_stay : (count : ℕ) (fault : AstFault) → Counts count count (IsPatternFault (unread_ast fault))
counts_stay count fault = record { later = omega arith; cause = λ h. absurd (never_refused fault h); calm = λ never. refl }
