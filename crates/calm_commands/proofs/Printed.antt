-- What is printed of an answer.
use Rattle.std.proofs.Common.{◌≡◌, ℕ, ◌+◌, ◌<◌, List, [], ◌∷◌, ◌++◌, length, take, arith, refl, sym, subst, length-append, Option, Some, None, Ok, Err}
use Rattle.std.proofs.Math.Seq.{take-append-add}
use Rattle.std.proofs.lemmas.List.{take-append-le}
use Rattle.std.specs.Io.KnownBytes.{Appends, Keeps}
use Rattle.calm_commands.specs.Told.{AppendsLess}
use Rattle.calm_commands.specs.declared.status.Status.{Status}
use Rattle.calm_commands.specs.declared.status.Status.TheVariants as status
use Rattle.query_answer.specs.means_spec.World.{World}
use Rattle.query_answer.specs.means_spec.OutRows.{OutRows, lines_text}
use Rattle.query_answer.specs.pattern_port.Refused.{Asked}
use Rattle.query_answer.specs.Told.{Told, told_of}
use Rattle.query_answer.specs.Answers.{MatchAnswer, IsPatternFault}
use Rattle.query_answer.specs.declared.answer.AnswerFault.{AnswerFault}
use Rattle.query_answer.specs.declared.answer.AnswerFault.TheVariants as fault
use Rattle.query_answer.specs.declared.refusal.QueryRefusal.TheVariants.{TooLong, NotJson, PqlBad, NotQuery, UnknownEntity, UnknownField, BadOperand, BadPattern, SumTooLarge}
use Rattle.calm_commands.proofs.TellingLaws.{joined}
use Rattle.calm_commands.specs.Rows.{fault_status, AnswersText, PrintsText, PrintsRows, IsRowsEnd, IsPatternEnd}

-- ---- a text in two pieces

-- the first piece failed
pub less_of_first : (a b : Option (List ℕ)) (xs ys : List ℕ) (taken : ℕ) → taken < length xs → Appends a b (take taken xs) → AppendsLess (xs ++ ys) a b
less_of_first a b xs ys taken less h =
    (taken, omega (arith, less, length-append xs ys), subst (Appends a b) (sym (take-append-le taken xs ys (omega (arith, less)))) h)

-- the second did
pub less_of_second : (a b c : Option (List ℕ)) (xs ys : List ℕ) (taken : ℕ) → Appends a b xs → taken < length ys → Appends b c (take taken ys) → AppendsLess (xs ++ ys) a c
less_of_second a b c xs ys taken h less k =
    (length xs + taken, omega (arith, less, length-append xs ys), subst (Appends a c) (sym (take-append-add xs ys taken)) (joined a b c xs (take taken ys) h k))

-- ---- by the status

pub keeps : (o : Option (List ℕ)) → Keeps o o
keeps None = tt
keeps (Some bytes) = refl

pub printed_ends : (s : Status) (text : List ℕ) (before after : Option (List ℕ)) → PrintsText s text before after → IsRowsEnd s
printed_ends status.Done text before after m = tt
printed_ends status.WriteFault text before after m = tt
printed_ends _ text before after m = absurd m

pub printed_silent : (s : Status) (text : List ℕ) (before after : Option (List ℕ)) → PrintsText s text before after → (s ≡ status.Done → ⊥) → (s ≡ status.WriteFault → ⊥) → Keeps before after
printed_silent status.Done text before after m d w = absurd (d refl)
printed_silent status.WriteFault text before after m d w = absurd (w refl)
printed_silent _ text before after m d w = absurd m

pub printed_no_pattern : (s : Status) (text : List ℕ) (before after : Option (List ℕ)) → PrintsText s text before after → IsPatternEnd s → ⊥
printed_no_pattern status.Done text before after m h = h
printed_no_pattern status.WriteFault text before after m h = h
printed_no_pattern _ text before after m h = absurd m

pub fault_ends : (f : AnswerFault) → IsRowsEnd (fault_status f)
fault_ends (fault.Refused why) = tt
fault_ends fault.Memory = tt

pub fault_is_no_write : (f : AnswerFault) → fault_status f ≡ status.WriteFault → ⊥
fault_is_no_write (fault.Refused why) is = absurd (cc)
fault_is_no_write fault.Memory is = absurd (cc)

pub fault_pattern : (f : AnswerFault) → IsPatternEnd (fault_status f) → IsPatternFault f
fault_pattern (fault.Refused why) h = h
fault_pattern fault.Memory h = absurd h

pub pattern_fault : (f : AnswerFault) → IsPatternFault f → IsPatternEnd (fault_status f)
pattern_fault (fault.Refused why) h = h
pattern_fault fault.Memory h = absurd h

-- ---- rows

module _ (w : World) (text : List ℕ) (asked now : Option (List Asked)) where
  pub rows_printed : (s : Status) (rows : List ℕ) (before after : Option (List ℕ)) → MatchAnswer w (told_of text) asked now lines_text (Ok rows) → PrintsText s (rows ++ 10 ∷ []) before after → PrintsRows w text asked now s before after
  rows_printed status.Done rows before after m p = (rows, m, p)
  rows_printed status.WriteFault rows before after m p = (rows, m, p)
  rows_printed _ rows before after m p = absurd p

  pub fault_printed : (f : AnswerFault) (out : Option (List ℕ)) → MatchAnswer w (told_of text) asked now lines_text (Err f) → PrintsRows w text asked now (fault_status f) out out
  fault_printed (fault.Refused why) out m = (m, keeps out)
  fault_printed fault.Memory out m = keeps out

-- ---- what the text alone decides

module _ (w : World) (told : Told → Type 0) (asked now : Option (List Asked)) (print : OutRows → List ℕ) where
  pub text_of_rows : (s : Status) (rows line : List ℕ) (before after : Option (List ℕ)) → MatchAnswer w told asked now print (Ok rows) → PrintsText s line before after → AnswersText s told
  text_of_rows status.Done rows line before after m p = (m.0, m.1)
  text_of_rows status.WriteFault rows line before after m p = (m.0, m.1)
  text_of_rows _ rows line before after m p = absurd p

  pub text_of_fault : (f : AnswerFault) → MatchAnswer w told asked now print (Err f) → AnswersText (fault_status f) told
  text_of_fault (fault.Refused TooLong) m = m.0
  text_of_fault (fault.Refused (NotJson at)) m = m.0
  text_of_fault (fault.Refused (PqlBad at)) m = m.0
  text_of_fault (fault.Refused (NotQuery p)) m = m.0
  text_of_fault (fault.Refused (UnknownEntity p)) m = m.0
  text_of_fault (fault.Refused (UnknownField p)) m = m.0
  text_of_fault (fault.Refused (BadOperand p)) m = m.0
  text_of_fault (fault.Refused (BadPattern p)) m = (m.0, m.1)
  text_of_fault (fault.Refused (SumTooLarge p)) m = (m.0, m.1)
  text_of_fault fault.Memory m = tt
