use Rattle.std.proofs.Common.{◌≡◌, ◌∙◌, sym, subst, refl, Bool, true, false, Some}
use Rattle.std.specs.Prelude.{IfOk, Option}
use Rattle.routes_spec.specs.Queries.{asked_by_url, IsQuestionBy}
use Rattle.routes_spec.specs.Routes.{is_post}
use Rattle.http_routes.specs.declared.question.Question.{Question}
use Rattle.http_routes.specs.Questions.{IfAsked}
use Rattle.http_routes.proofs.question.question_of.Goals as goal

pub returns-then-is_post : goal.returns-then-is_post
returns-then-is_post c =
    let posted : is_post c.args.method.now ≡ true = sym c.is_post.ensures ∙ c.if-is_post.true in
    subst (λ (t : Bool). IfOk c.asked_by_body.result (λ (q : Option Question). IfAsked q (IsQuestionBy t c.args.list.now c.args.body.now))) (sym posted) c.asked_by_body.ensures

pub returns-in_ok-question : goal.returns-in_ok-question
returns-in_ok-question c =
    let list = c.args.list.now in
    let other : is_post c.args.method.now ≡ false = sym c.is_post.ensures ∙ c.if-is_post.false in
    (Some (asked_by_url list), c.in_ok-question.ensures, subst (λ (t : Bool). IsQuestionBy t list c.args.body.now (Some (asked_by_url list))) (sym other) refl)
