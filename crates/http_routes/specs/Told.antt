-- The result of reading a question's query, compared with the definition's.
use Rattle.std.specs.Prelude.{Option, Some, None, Result, Ok, Err}
use Rattle.ast_reader.specs.declared.read.AstFault.{AstFault}
use Rattle.ast_reader.specs.declared.read.AstFault.TheVariants as ast
use Rattle.pql_reader.specs.declared.read.PqlFault.{PqlFault}
use Rattle.pql_reader.specs.declared.read.PqlFault.TheVariants as pql
use Rattle.routes_spec.specs.query_spec.Check.{Place}
use Rattle.routes_spec.specs.query_spec.Query.{Level}
use Rattle.routes_spec.specs.query_answer.Told as meant
use Rattle.routes_spec.specs.query_answer.declared.refusal.QueryRefusal.TheVariants as why
use Rattle.http_routes.specs.declared.told.Told.{Told}
use Rattle.http_routes.specs.declared.told.Told.TheVariants.{Query, Refused, Missing, Memory}

abbrev pub told_ast : Result Level AstFault → Told
told_ast (Ok q) = Query q
told_ast (Err ast.TooLong) = Refused why.TooLong
told_ast (Err (ast.NotJson at)) = Refused (why.NotJson at)
told_ast (Err (ast.NotQuery p)) = Refused (why.NotQuery p)
told_ast (Err (ast.UnknownEntity p)) = Refused (why.UnknownEntity p)
told_ast (Err (ast.UnknownField p)) = Refused (why.UnknownField p)
told_ast (Err (ast.BadOperand p)) = Refused (why.BadOperand p)
told_ast (Err ast.Memory) = Memory

abbrev pub told_pql : Result Level PqlFault → Told
told_pql (Ok q) = Query q
told_pql (Err pql.TooLong) = Refused why.TooLong
told_pql (Err (pql.PqlBad at)) = Refused (why.PqlBad at)
told_pql (Err (pql.UnknownEntity p)) = Refused (why.UnknownEntity p)
told_pql (Err (pql.UnknownField p)) = Refused (why.UnknownField p)
told_pql (Err (pql.BadOperand p)) = Refused (why.BadOperand p)
told_pql (Err pql.Memory) = Memory

-- the result for a query: a refusal if there is a place with an unknown entity, otherwise the query
abbrev pub told_checked : Option Place → Level → Told
told_checked None q = Query q
told_checked (Some p) q = Refused (why.UnknownEntity p)

-- P holds for the result of reading a text, unless memory ran out
abbrev pub TellsOf : Told → (meant.Told → Type 0) → Type 0
TellsOf (Query q) P = P (Ok q)
TellsOf (Refused reason) P = P (Err reason)
TellsOf Missing P = ⊥
TellsOf Memory P = Unit {0}

-- P holds for the result, where the text may be missing, unless memory ran out
abbrev pub Tells : Told → (Option meant.Told → Type 0) → Type 0
Tells (Query q) P = P (Some (Ok q))
Tells (Refused reason) P = P (Some (Err reason))
Tells Missing P = P None
Tells Memory P = Unit {0}
