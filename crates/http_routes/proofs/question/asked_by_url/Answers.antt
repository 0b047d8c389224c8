use Rattle.http_routes.proofs.QuestionLaws.{url_asks}
use Rattle.http_routes.proofs.question.asked_by_url.Goals as goal

pub returns : goal.returns
returns c = url_asks c.args.list.now _ c.in_ok-query.ensures c.in_ok-params.ensures
