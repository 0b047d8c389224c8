-- From what a reader of JSON says to what a text is answered.
use Rattle.std.proofs.Common.{◌≡◌, ◌≤◌, ℕ, List, length, Result, Ok, Err, refl, sym}
use Rattle.json_read.specs.text_spec.Json.{Json}
use Rattle.json_read.specs.text_spec.JsonText.{Spells, NotJsonAt, TooDeepAt}
use Rattle.json_read.specs.declared.fault.ReadFault.{ReadFault}
use Rattle.json_read.specs.declared.fault.ReadFault.TheVariants as read
use Rattle.query_spec.specs.Answer as answer
use Rattle.query_spec.specs.Answer.{answer_of}
use Rattle.query_spec.specs.Ast.{Read}
use Rattle.query_spec.specs.Query.{Level}
use Rattle.ast_reader.specs.declared.read.AstFault.{AstFault}
use Rattle.ast_reader.specs.declared.read.AstFault.TheVariants.{TooLong, NotJson, NotQuery, UnknownEntity, UnknownField, BadOperand, Memory}
use Rattle.ast_reader.specs.Answered.{Answers, AnsweredAs, not_json}
use Rattle.query_spec.specs.Limits.{most_query}

-- the value that the text spells is answered
pub answered : (ast : Json → Read Level) (text : List ℕ) (v : Json) (r : Result Level AstFault) → length text ≤ most_query → Spells text v → Answers r (answer_of (ast v)) → AnsweredAs ast text r
answered ast text v (Ok q) f s a = answer.value v f s (sym a)
answered ast text v (Err TooLong) f s a = answer.value v f s (sym a)
answered ast text v (Err (NotJson at)) f s a = answer.value v f s (sym a)
answered ast text v (Err (NotQuery p)) f s a = answer.value v f s (sym a)
answered ast text v (Err (UnknownEntity p)) f s a = answer.value v f s (sym a)
answered ast text v (Err (UnknownField p)) f s a = answer.value v f s (sym a)
answered ast text v (Err (BadOperand p)) f s a = answer.value v f s (sym a)
answered ast text v (Err Memory) f s a = tt

-- the fault of a text that is no JSON is answered
pub unspelt : (ast : Json → Read Level) (text : List ℕ) (e : ReadFault) → length text ≤ most_query → ((at : ℕ) → e ≡ read.NotJson at → NotJsonAt text at) → ((at : ℕ) → e ≡ read.TooDeep at → TooDeepAt text at) → AnsweredAs ast text (Err (not_json e))
unspelt ast text (read.NotJson at) f n d = answer.no_json at f (n at refl) refl
unspelt ast text (read.TooDeep at) f n d = answer.deep at f (d at refl) refl
unspelt ast text read.Memory f n d = tt
