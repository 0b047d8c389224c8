use Rattle.std.proofs.Common.{sym, subst, refl, Some, None}
use Rattle.routes_spec.specs.query_spec.Answer as spelt
use Rattle.routes_spec.specs.query_spec.Answer.{AnswerOf}
use Rattle.routes_spec.specs.query_answer.Told.{in_ast}
use Rattle.routes_spec.specs.Queries.{IsToldOn}
use Rattle.http_routes.specs.Told.{TellsOf, Tells}
use Rattle.http_routes.proofs.Tellings.{ast_tells, on_queries, on_rows}
use Rattle.http_routes.proofs.told.told_of_text.Goals as goal

pub returns-in-Queries : goal.returns-in-Queries
returns-in-Queries c =
    let text = c.args.text.now in
    subst (λ r. Tells c.told_of.result (IsToldOn r (Some text))) (sym c.in-Queries.is) (on_queries text c.told_of.result c.told_of.ensures)

pub returns-in-RowsOf : goal.returns-in-RowsOf
returns-in-RowsOf c =
    let text = c.args.text.now in
    let entity = c.in-RowsOf.entity in
    subst (λ r. Tells c.told_in_ast.result (IsToldOn r (Some text))) (sym c.in-RowsOf.is)
    (on_rows entity text c.told_in_ast.result
    (subst (λ t. TellsOf t (in_ast (AnswerOf (spelt.route entity) text))) (sym c.told_in_ast.ensures) (ast_tells (spelt.route entity) text c.read_filter.result c.read_filter.ensures)))

pub returns-in-Commands : goal.returns-in-Commands
returns-in-Commands c = subst (λ r. IsToldOn r (Some c.args.text.now) None) (sym c.in-Commands.is) refl
