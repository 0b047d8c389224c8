use Rattle.std.proofs.Common.{◌≡◌, ◌++◌, drop}
use Rattle.std.specs.Prelude.{map}
use Rattle.http_routes.specs.Questions.{url_pair}
use Rattle.http_routes.proofs.question.url_params.Given as goal

abbrev pub invariant-loop-pair : goal.invariant-loop-pair
invariant-loop-pair l = l.params ++ map url_pair (drop l.pair-index l.list) ≡ map url_pair l.list
