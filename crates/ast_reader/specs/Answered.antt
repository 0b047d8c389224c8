-- What the public calls return, and the results of the steps between.
use Rattle.std.specs.Prelude.{◌≡◌, ℕ, List, Result, Ok, Err}
use Rattle.json_read.specs.text_spec.Json.{Json}
use Rattle.json_read.specs.declared.fault.ReadFault.{ReadFault}
use Rattle.json_read.specs.declared.fault.ReadFault.TheVariants as read
use Rattle.query_spec.specs.Answer.{Answer, too_long, not_query, unknown_entity, unknown_field, bad_operand, checked, AnswerOf}
use Rattle.query_spec.specs.Answer as answer
use Rattle.query_spec.specs.Ast.{Read}
use Rattle.query_spec.specs.Query.{Level}
use Rattle.ast_parts.specs.declared.fault.FormFault.{FormFault}
use Rattle.ast_parts.specs.declared.fault.FormFault.TheVariants as form
use Rattle.ast_reader.specs.declared.read.AstFault.{AstFault}
use Rattle.ast_reader.specs.declared.read.AstFault.TheVariants.{TooLong, NotJson, NotQuery, UnknownEntity, UnknownField, BadOperand, Memory}

-- the result is this answer, or memory ran out
abbrev pub Answers : Result Level AstFault → Answer → Type 0
Answers (Ok q) a = a ≡ Ok q
Answers (Err TooLong) a = a ≡ Err too_long
Answers (Err (NotJson at)) a = a ≡ Err (answer.not_json at)
Answers (Err (NotQuery p)) a = a ≡ Err (not_query p)
Answers (Err (UnknownEntity p)) a = a ≡ Err (unknown_entity p)
Answers (Err (UnknownField p)) a = a ≡ Err (unknown_field p)
Answers (Err (BadOperand p)) a = a ≡ Err (bad_operand p)
Answers (Err Memory) a = Unit {0}

-- the result is the text's answer, or memory ran out
abbrev pub AnsweredAs : (Json → Read Level) → List ℕ → Result Level AstFault → Type 0
AnsweredAs ast text (Ok q) = AnswerOf ast text (Ok q)
AnsweredAs ast text (Err TooLong) = AnswerOf ast text (Err too_long)
AnsweredAs ast text (Err (NotJson at)) = AnswerOf ast text (Err (answer.not_json at))
AnsweredAs ast text (Err (NotQuery p)) = AnswerOf ast text (Err (not_query p))
AnsweredAs ast text (Err (UnknownEntity p)) = AnswerOf ast text (Err (unknown_entity p))
AnsweredAs ast text (Err (UnknownField p)) = AnswerOf ast text (Err (unknown_field p))
AnsweredAs ast text (Err (BadOperand p)) = AnswerOf ast text (Err (bad_operand p))
AnsweredAs ast text (Err Memory) = Unit {0}

-- the result that follows from the level that was read, or from the place of the fault
abbrev pub GivesLevel : Result Level FormFault → Result Level AstFault → Type 0
GivesLevel (Ok q) r = Answers r (checked q)
GivesLevel (Err (form.NoForm p)) r = r ≡ Err (NotQuery p)
GivesLevel (Err form.Memory) r = r ≡ Err Memory

abbrev pub not_json : ReadFault → AstFault
not_json (read.NotJson at) = NotJson at
not_json (read.TooDeep at) = NotJson at
not_json read.Memory = Memory
