use Rattle.std.specs.Prelude.{Option}
use Rattle.json_read.specs.json_tree.Tree.{json_of}
use Rattle.routes_spec.specs.Queries.{asked_by_members}
use Rattle.http_routes.specs.declared.question.Question.{Question}
use Rattle.http_routes.specs.Questions.{IsAskedSo, IsAskedByValue}
use Rattle.http_routes.proofs.QuestionLaws.{map_asks}
use Rattle.http_routes.proofs.Results.{if_then}
use Rattle.http_routes.proofs.question.asked_by_value.Goals as goal

pub returns-in-Map : goal.returns-in-Map
returns-in-Map c =
    if_then (λ (q : Option Question). IsAskedSo q (asked_by_members c.in-Map.members)) (λ (q : Option Question). IsAskedByValue q (json_of c.args.json)) c.asked_by_members.result
    (λ q so. map_asks c.args.json c.in-Map.members q c.in-Map.is so) c.asked_by_members.ensures
