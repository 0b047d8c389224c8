use Rattle.std.specs.Prelude.{Option}
use Rattle.json_read.specs.json_tree.Tree.{json_of}
use Rattle.routes_spec.specs.Queries.{IsQuestionOfBody}
use Rattle.http_routes.specs.declared.question.Question.{Question}
use Rattle.http_routes.specs.Questions.{IsAskedByValue, IsNoneBy, IfAsked}
use Rattle.http_routes.proofs.QuestionLaws.{value_asks, fault_asks}
use Rattle.http_routes.proofs.Results.{if_then}
use Rattle.http_routes.proofs.question.asked_by_body.Goals as goal

pub returns-in-Ok : goal.returns-in-Ok
returns-in-Ok c =
    let text = c.args.body.now in
    if_then (λ (q : Option Question). IsAskedByValue q (json_of c.in-Ok.json)) (λ (q : Option Question). IfAsked q (IsQuestionOfBody text)) c.asked_by_value.result
    (λ q so. value_asks text (json_of c.in-Ok.json) q c.in-Ok.ensures.found so) c.asked_by_value.ensures

pub returns-in-Err : goal.returns-in-Err
returns-in-Err c =
    let text = c.args.body.now in
    if_then (λ (q : Option Question). IsNoneBy c.in-Err.fault q) (λ (q : Option Question). IfAsked q (IsQuestionOfBody text)) c.asked_by_none.result
    (λ q so. fault_asks text c.in-Err.fault q c.in-Err.ensures.only so) c.asked_by_none.ensures
