use Rattle.std.proofs.Common.{◌∙◌, ap, sym, refl}
use Rattle.routes_spec.specs.Queries.{query_text}
use Rattle.http_routes.proofs.QuestionLaws.{members_ask, members_ask_nothing}
use Rattle.http_routes.proofs.question.asked_by_members.Goals as goal

pub returns-in_ok-params-in-Some : goal.returns-in_ok-params-in-Some
returns-in_ok-params-in-Some c =
    members_ask c.args.members c.take-query.new.self c.in-Some.query _ c.take-query.ensures.others (ap query_text (sym c.take-query.ensures.value) ∙ sym c.in_ok-asked.ensures ∙ c.in-Some.is) refl
    c.in_ok-params-in-Some.ensures

pub returns-in-None : goal.returns-in-None
returns-in-None c = members_ask_nothing c.args.members (ap query_text (sym c.take-query.ensures.value) ∙ sym c.in_ok-asked.ensures ∙ c.in-None.is)
