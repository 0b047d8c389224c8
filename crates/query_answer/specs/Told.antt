-- What reading a text in its language returns: the query that it spells, or why it spells none.
use Rattle.std.specs.Prelude.{ℕ, List, Bool, true, false, Result, Ok, Err}
use Rattle.ast_reader.specs.declared.read.AstFault.{AstFault}
use Rattle.ast_reader.specs.declared.read.AstFault.TheVariants as ast_read
use Rattle.ast_reader.specs.query_spec.Answer.{Answer, AnswerOf, query, too_long, not_json, not_query, unknown_entity, unknown_field, bad_operand}
use Rattle.ast_reader.specs.query_spec.Query.{Level}
use Rattle.pql_reader.specs.declared.read.PqlFault.{PqlFault}
use Rattle.pql_reader.specs.declared.read.PqlFault.TheVariants as pql_read
use Rattle.pql_reader.specs.pql_spec.Texts as pql
use Rattle.query_answer.specs.Language.{is_ast}
use Rattle.query_answer.specs.declared.answer.AnswerFault.{AnswerFault}
use Rattle.query_answer.specs.declared.answer.AnswerFault.TheVariants.{Refused, Memory}
use Rattle.query_answer.specs.declared.refusal.QueryRefusal.{QueryRefusal}
use Rattle.query_answer.specs.declared.refusal.QueryRefusal.TheVariants.{TooLong, NotJson, PqlBad, NotQuery, UnknownEntity, UnknownField, BadOperand, BadPattern, SumTooLarge}

-- ---- the faults of the readers

abbrev pub unread_ast : AstFault → AnswerFault
unread_ast ast_read.TooLong = Refused TooLong
unread_ast (ast_read.NotJson at) = Refused (NotJson at)
unread_ast (ast_read.NotQuery p) = Refused (NotQuery p)
unread_ast (ast_read.UnknownEntity p) = Refused (UnknownEntity p)
unread_ast (ast_read.UnknownField p) = Refused (UnknownField p)
unread_ast (ast_read.BadOperand p) = Refused (BadOperand p)
unread_ast ast_read.Memory = Memory

abbrev pub unread_pql : PqlFault → AnswerFault
unread_pql pql_read.TooLong = Refused TooLong
unread_pql (pql_read.PqlBad at) = Refused (PqlBad at)
unread_pql (pql_read.UnknownEntity p) = Refused (UnknownEntity p)
unread_pql (pql_read.UnknownField p) = Refused (UnknownField p)
unread_pql (pql_read.BadOperand p) = Refused (BadOperand p)
unread_pql pql_read.Memory = Memory

-- ---- the result of reading

abbrev pub Told : Type 0
Told = Result Level QueryRefusal

-- the result of reading the AST
abbrev pub in_ast : (Answer → Type 0) → Told → Type 0
in_ast answer (Ok q) = answer (Ok q)
in_ast answer (Err TooLong) = answer (Err too_long)
in_ast answer (Err (NotJson at)) = answer (Err (not_json at))
in_ast answer (Err (NotQuery p)) = answer (Err (not_query p))
in_ast answer (Err (UnknownEntity p)) = answer (Err (unknown_entity p))
in_ast answer (Err (UnknownField p)) = answer (Err (unknown_field p))
in_ast answer (Err (BadOperand p)) = answer (Err (bad_operand p))
in_ast answer (Err _) = ⊥

-- the result of reading PQL
abbrev pub in_pql : List ℕ → Told → Type 0
in_pql text (Ok q) = pql.AnswerOf text (Ok q)
in_pql text (Err TooLong) = pql.AnswerOf text (Err pql.too_long)
in_pql text (Err (PqlBad at)) = pql.AnswerOf text (Err (pql.pql_bad at))
in_pql text (Err (UnknownEntity p)) = pql.AnswerOf text (Err (pql.unknown_entity p))
in_pql text (Err (UnknownField p)) = pql.AnswerOf text (Err (pql.unknown_field p))
in_pql text (Err (BadOperand p)) = pql.AnswerOf text (Err (pql.bad_operand p))
in_pql text (Err _) = ⊥

abbrev pub in_language : Bool → List ℕ → Told → Type 0
in_language true text = in_ast (AnswerOf query text)
in_language false text = in_pql text

-- the AST if the first byte after white space is `[`, otherwise PQL
abbrev pub told_of : List ℕ → Told → Type 0
told_of text = in_language (is_ast text) text
