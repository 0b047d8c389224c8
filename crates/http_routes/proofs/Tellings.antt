-- From what was read of a text to what is told of it.
use Rattle.std.proofs.Common.{◌≡◌, ◌∙◌, ℕ, List, true, false, Option, Some, None, Result, Ok, Err, refl, sym, ap, subst}
use Rattle.std.specs.Prelude.{is_none, IsTrue}
use Rattle.http_spec.specs.text_spec.Json.{Json}
use Rattle.routes_spec.specs.fleet_rows.declared.row.Entity.{Entity}
use Rattle.routes_spec.specs.fleet_rows.declared.row.Entity.TheVariants.{Nodes, Factsets, Facts, Catalogs, Resources, Edges, Reports, FactContents, Inventory, Events, EventCounts}
use Rattle.ast_reader.specs.Answered.{AnsweredAs}
use Rattle.ast_reader.specs.declared.read.AstFault.{AstFault}
use Rattle.ast_reader.specs.declared.read.AstFault.TheVariants as ast
use Rattle.pql_reader.specs.Answered.{Answered}
use Rattle.pql_reader.specs.declared.read.PqlFault.{PqlFault}
use Rattle.pql_reader.specs.declared.read.PqlFault.TheVariants as pql
use Rattle.routes_spec.specs.query_spec.Answer as spelt
use Rattle.routes_spec.specs.query_spec.Answer.{AnswerOf}
use Rattle.routes_spec.specs.query_spec.Ast.{Read}
use Rattle.routes_spec.specs.query_spec.Check.{Place, entity_named, level_fault}
use Rattle.routes_spec.specs.query_spec.Query.{Level}
use Rattle.routes_spec.specs.query_spec.declared.sought.Sought.TheVariants as seek
use Rattle.routes_spec.specs.query_answer.Language.{is_ast}
use Rattle.routes_spec.specs.query_answer.Told.{in_ast, in_pql, in_language, told_of}
use Rattle.routes_spec.specs.declared.route.Route.TheVariants.{Queries, RowsOf}
use Rattle.routes_spec.specs.query_answer.means_laws.Laws.{whole}
use Rattle.routes_spec.specs.Queries.{IsToldOn}
use Rattle.http_routes.specs.declared.told.Told.{Told}
use Rattle.http_routes.specs.declared.told.Told.TheVariants.{Query, Refused, Missing, Memory}
use Rattle.http_routes.specs.Told.{told_ast, told_pql, told_checked, TellsOf, Tells}

-- ---- of a text

pub ast_tells : (read : Json → Read Level) (text : List ℕ) (r : Result Level AstFault) → AnsweredAs read text r → TellsOf (told_ast r) (in_ast (AnswerOf read text))
ast_tells read text (Ok q) h = h
ast_tells read text (Err ast.TooLong) h = h
ast_tells read text (Err (ast.NotJson at)) h = h
ast_tells read text (Err (ast.NotQuery p)) h = h
ast_tells read text (Err (ast.UnknownEntity p)) h = h
ast_tells read text (Err (ast.UnknownField p)) h = h
ast_tells read text (Err (ast.BadOperand p)) h = h
ast_tells read text (Err ast.Memory) h = tt

pub pql_tells : (text : List ℕ) (r : Result Level PqlFault) → Answered text r → TellsOf (told_pql r) (in_pql text)
pql_tells text (Ok q) h = h
pql_tells text (Err pql.TooLong) h = h
pql_tells text (Err (pql.PqlBad at)) h = h
pql_tells text (Err (pql.UnknownEntity p)) h = h
pql_tells text (Err (pql.UnknownField p)) h = h
pql_tells text (Err (pql.BadOperand p)) h = h
pql_tells text (Err pql.Memory) h = tt

-- in the language that the test says
pub told_as_ast : (text : List ℕ) (t : Told) → is_ast text ≡ true → TellsOf t (in_ast (AnswerOf spelt.query text)) → TellsOf t (told_of text)
told_as_ast text t is h = subst (λ b. TellsOf t (in_language b text)) (sym is) h

pub told_as_pql : (text : List ℕ) (t : Told) → is_ast text ≡ false → TellsOf t (in_pql text) → TellsOf t (told_of text)
told_as_pql text t is h = subst (λ b. TellsOf t (in_language b text)) (sym is) h

-- ---- on a route

pub on_queries : (text : List ℕ) (t : Told) → TellsOf t (told_of text) → Tells t (IsToldOn Queries (Some text))
on_queries text (Query q) h = h
on_queries text (Refused why) h = h
on_queries text Missing h = absurd h
on_queries text Memory h = tt

pub on_rows : (e : Entity) (text : List ℕ) (t : Told) → TellsOf t (in_ast (AnswerOf (spelt.route e) text)) → Tells t (IsToldOn (RowsOf e) (Some text))
on_rows e text (Query q) h = h
on_rows e text (Refused why) h = h
on_rows e text Missing h = absurd h
on_rows e text Memory h = tt

pub without_fault : (fault : Option Place) (q : Level) → IsTrue (is_none fault) → Query q ≡ told_checked fault q
without_fault None q h = refl
without_fault (Some p) q h = absurd (let apart : false ≡ true = h in cc)

-- all rows of an entity
told_whole : (e : Entity) → Tells (told_checked (level_fault seek.Entity (whole e)) (whole e)) (IsToldOn (RowsOf e) None)
unfolding entity_named
told_whole Nodes = refl
told_whole Factsets = refl
told_whole Facts = refl
told_whole Catalogs = refl
told_whole Resources = refl
told_whole Edges = refl
told_whole Reports = refl
told_whole FactContents = refl
told_whole Inventory = refl
told_whole Events = refl
told_whole EventCounts = refl

pub all_told : (e : Entity) (q : Level) (t : Told) → q ≡ whole e → t ≡ told_checked (level_fault seek.Entity q) q → Tells t (IsToldOn (RowsOf e) None)
all_told e q t is told =
    subst (λ x. Tells x (IsToldOn (RowsOf e) None)) (sym (told ∙ ap (λ (l : Level). told_checked (level_fault seek.Entity l) l) is)) (told_whole e)
