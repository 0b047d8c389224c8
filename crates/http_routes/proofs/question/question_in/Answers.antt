use Rattle.std.proofs.Common.{◌∙◌}
use Rattle.routes_spec.specs.Parameters.{parameters_of}
use Rattle.routes_spec.specs.Routes.{query_of}
use Rattle.http_routes.proofs.QuestionLaws.{asked_same}
use Rattle.http_routes.proofs.question.question_in.Goals as goal

pub returns : goal.returns
returns c =
    let request = c.args.request.now in
    asked_same c.in_ok-question.question c.as_slice-method.result.now request.method c.as_slice.result.now (parameters_of (query_of request.target)) c.as_slice-body.result.now request.body
    c.as_slice-method.ensures (c.as_slice.ensures.value ∙ c.in_ok-list.ensures) c.as_slice-body.ensures c.in_ok-question.ensures
