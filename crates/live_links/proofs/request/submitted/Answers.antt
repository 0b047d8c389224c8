use Rattle.http_routes.specs.routes.Answers.{submitted_answer}
use Rattle.live_links.proofs.Requests.{numbered_so}
use Rattle.live_links.proofs.request.submitted.Goals as goal

pub returns-clause-call : goal.returns-clause-call
returns-clause-call g c = (
  c.submit-came.result.0,
  c.submit-came.result.1,
  c.submit-came.ensures.call,
  numbered_so c.submit-came.result.1 c.answer_submitted.result c.numbered.result (submitted_answer c.args.ends c.submit-came.result.0) c.numbered.ensures c.answer_submitted.ensures.told c.answer_submitted.ensures.code,
)
