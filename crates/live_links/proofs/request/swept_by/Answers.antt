use Rattle.live_links.specs.Answers.{swept_answer}
use Rattle.live_links.proofs.Requests.{numbered_so}
use Rattle.live_links.proofs.request.swept_by.Goals as goal

pub returns-clause-call : goal.returns-clause-call
returns-clause-call g c = (
  c.sweep-came.result.0,
  c.sweep-came.result.1,
  c.sweep-came.ensures.call,
  numbered_so c.sweep-came.result.1 c.answer_swept.result c.numbered.result (swept_answer c.args.ends c.sweep-came.result.0) c.numbered.ensures c.answer_swept.ensures.told c.answer_swept.ensures.code,
)
