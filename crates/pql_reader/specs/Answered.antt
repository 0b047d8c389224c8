-- What reading a text returns.
use Rattle.std.specs.Prelude.{◌≡◌, ℕ, List, Result, Ok, Err}
use Rattle.query_spec.specs.Query.{Level}
use Rattle.pql_spec.specs.Texts.{Answer, too_long, pql_bad, unknown_entity, unknown_field, bad_operand, AnswerOf}
use Rattle.pql_reader.specs.declared.read.PqlFault.{PqlFault}
use Rattle.pql_reader.specs.declared.read.PqlFault.TheVariants.{TooLong, PqlBad, UnknownEntity, UnknownField, BadOperand, Memory}

-- the result is this answer, or memory ran out
abbrev pub Answers : Result Level PqlFault → Answer → Type 0
Answers (Ok q) a = a ≡ Ok q
Answers (Err TooLong) a = a ≡ Err too_long
Answers (Err (PqlBad at)) a = a ≡ Err (pql_bad at)
Answers (Err (UnknownEntity p)) a = a ≡ Err (unknown_entity p)
Answers (Err (UnknownField p)) a = a ≡ Err (unknown_field p)
Answers (Err (BadOperand p)) a = a ≡ Err (bad_operand p)
Answers (Err Memory) a = Unit {0}

-- the result is the text's answer, or memory ran out
abbrev pub Answered : List ℕ → Result Level PqlFault → Type 0
Answered text (Ok q) = AnswerOf text (Ok q)
Answered text (Err TooLong) = AnswerOf text (Err too_long)
Answered text (Err (PqlBad at)) = AnswerOf text (Err (pql_bad at))
Answered text (Err (UnknownEntity p)) = AnswerOf text (Err (unknown_entity p))
Answered text (Err (UnknownField p)) = AnswerOf text (Err (unknown_field p))
Answered text (Err (BadOperand p)) = AnswerOf text (Err (bad_operand p))
Answered text (Err Memory) = Unit {0}
