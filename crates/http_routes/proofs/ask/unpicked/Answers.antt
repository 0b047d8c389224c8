use Rattle.std.proofs.Common.{subst, sym, arith}
use Rattle.routes_spec.specs.query_answer.declared.refusal.QueryRefusal.TheVariants.{BadPattern, SumTooLarge}
use Rattle.routes_spec.specs.query_answer.RefusalText.{refusal_text}
use Rattle.routes_spec.specs.Answers.{error}
use Rattle.http_routes.specs.Asked.{IsUnpickedAnswer}
use Rattle.http_routes.proofs.Results.{has_code}
use Rattle.http_routes.proofs.ask.unpicked.Goals as goal

pub returns-in-BadPattern-clause-answer : goal.returns-in-BadPattern-clause-answer
returns-in-BadPattern-clause-answer c = subst (λ f. IsUnpickedAnswer c.args.ends f c.refused.result) (sym c.in-BadPattern.is) c.refused.ensures

pub returns-in-BadPattern-clause-code : goal.returns-in-BadPattern-clause-code
returns-in-BadPattern-clause-code c = has_code (error c.args.ends 400 (refusal_text (BadPattern c.in-BadPattern.path))) c.refused.result (λ h. omega (arith, h)) c.refused.ensures

pub returns-in-SumTooLarge-clause-answer : goal.returns-in-SumTooLarge-clause-answer
returns-in-SumTooLarge-clause-answer c = subst (λ f. IsUnpickedAnswer c.args.ends f c.refused-in-SumTooLarge.result) (sym c.in-SumTooLarge.is) c.refused-in-SumTooLarge.ensures

pub returns-in-SumTooLarge-clause-code : goal.returns-in-SumTooLarge-clause-code
returns-in-SumTooLarge-clause-code c =
    has_code (error c.args.ends 400 (refusal_text (SumTooLarge c.in-SumTooLarge.path))) c.refused-in-SumTooLarge.result (λ h. omega (arith, h)) c.refused-in-SumTooLarge.ensures
