use Rattle.std.proofs.Common.{◌∙◌, sym, subst}
use Rattle.routes_spec.specs.query_spec.Answer as spelt
use Rattle.routes_spec.specs.query_spec.Answer.{AnswerOf}
use Rattle.routes_spec.specs.query_answer.Told.{in_ast, in_pql}
use Rattle.http_routes.specs.Told.{TellsOf}
use Rattle.http_routes.proofs.Tellings.{ast_tells, pql_tells, told_as_ast, told_as_pql}
use Rattle.http_routes.proofs.told.told_of.Goals as goal

pub returns-then-is_ast : goal.returns-then-is_ast
returns-then-is_ast c =
    let text = c.args.text.now in
    told_as_ast text c.told_in_ast.result (sym c.is_ast.ensures ∙ c.if-is_ast.true)
    (subst (λ t. TellsOf t (in_ast (AnswerOf spelt.query text))) (sym c.told_in_ast.ensures) (ast_tells spelt.query text c.read_ast.result c.read_ast.ensures))

pub returns-else-is_ast : goal.returns-else-is_ast
returns-else-is_ast c =
    let text = c.args.text.now in
    told_as_pql text c.told_in_pql.result (sym c.is_ast.ensures ∙ c.if-is_ast.false)
    (subst (λ t. TellsOf t (in_pql text)) (sym c.told_in_pql.ensures) (pql_tells text c.read_pql.result c.read_pql.ensures))
