use Rattle.std.proofs.Common.{◌≡◌, ◌∙◌, ap}
use Rattle.http_spec.specs.declared.answer.Answer.{Answer}
use Rattle.routes_spec.specs.query_answer.RefusalText.{refusal_text}
use Rattle.routes_spec.specs.Answers.{error}
use Rattle.http_routes.proofs.Results.{if_is}
use Rattle.http_routes.proofs.answers.refused.Goals as goal

pub returns : goal.returns
returns c =
    let told = refusal_text c.args.why.now in
    let same : c.as_slice.result.now ≡ told = c.as_slice.ensures ∙ c.in_ok-text.ensures in
    if_is (λ (a : Answer). a ≡ error c.args.ends 400 told) (error c.args.ends 400 c.as_slice.result.now) c.error.result (ap (error c.args.ends 400) same) c.error.ensures
