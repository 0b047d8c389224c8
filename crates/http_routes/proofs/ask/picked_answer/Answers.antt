use Rattle.std.proofs.Common.{subst, sym, ℕ, List}
use Rattle.paging_params.specs.Params.{last_under}
use Rattle.http_routes.specs.Asked.{IsPickedAnswer}
use Rattle.http_routes.proofs.ask.picked_answer.Goals as goal

pub returns-in-Ok-clause-answer : goal.returns-in-Ok-clause-answer
returns-in-Ok-clause-answer c =
    subst (λ p. IsPickedAnswer c.args.ends c.args.query.now (λ (name : List ℕ). last_under name c.args.params.now) p c.paged.result) (sym c.in-Ok.is) c.paged.ensures.answer

pub returns-in-Err-clause-answer : goal.returns-in-Err-clause-answer
returns-in-Err-clause-answer c =
    subst (λ p. IsPickedAnswer c.args.ends c.args.query.now (λ (name : List ℕ). last_under name c.args.params.now) p c.unpicked.result) (sym c.in-Err.is) c.unpicked.ensures.answer
