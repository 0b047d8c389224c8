use Rattle.std.proofs.Common.{◌≡◌, arith, subst, sym, None}
use Rattle.std.specs.Prelude.{codes, IfOk}
use Rattle.http_spec.specs.declared.answer.Answer.{Answer}
use Rattle.routes_spec.specs.Answers.{done, error, uuid_body, submitted_answer}
use Rattle.http_routes.proofs.Results.{has_code}
use Rattle.http_routes.proofs.answers.answer_submitted.Goals as goal

pub returns-in-Receipt-clause-code : goal.returns-in-Receipt-clause-code
returns-in-Receipt-clause-code c = has_code (done c.args.ends None (uuid_body c.in-Receipt.receipt)) c.taken.result (λ h. omega (arith, h)) c.taken.ensures

pub returns-in-Full-clause-code : goal.returns-in-Full-clause-code
returns-in-Full-clause-code c = has_code (error c.args.ends 503 (codes "queue full")) c.error.result (λ h. omega (arith, h)) c.error.ensures

pub returns-in-QueueFault-clause-code : goal.returns-in-QueueFault-clause-code
returns-in-QueueFault-clause-code c = has_code (error c.args.ends 503 (codes "queue fault")) c.error-in-QueueFault.result (λ h. omega (arith, h)) c.error-in-QueueFault.ensures

pub returns-in-Spent-clause-code : goal.returns-in-Spent-clause-code
returns-in-Spent-clause-code c = has_code (error c.args.ends 503 (codes "queue spent")) c.error-in-Spent.result (λ h. omega (arith, h)) c.error-in-Spent.ensures

pub returns-in-Down-clause-code : goal.returns-in-Down-clause-code
returns-in-Down-clause-code c = has_code (error c.args.ends 503 (codes "queue down")) c.error-in-Down.result (λ h. omega (arith, h)) c.error-in-Down.ensures

pub returns-in-Receipt-clause-told : goal.returns-in-Receipt-clause-told
returns-in-Receipt-clause-told c = subst (λ s. IfOk c.taken.result (λ (told : Answer). told ≡ submitted_answer c.args.ends s)) (sym c.in-Receipt.is) c.taken.ensures

pub returns-in-Full-clause-told : goal.returns-in-Full-clause-told
returns-in-Full-clause-told c = subst (λ s. IfOk c.error.result (λ (told : Answer). told ≡ submitted_answer c.args.ends s)) (sym c.in-Full.is) c.error.ensures

pub returns-in-QueueFault-clause-told : goal.returns-in-QueueFault-clause-told
returns-in-QueueFault-clause-told c = subst (λ s. IfOk c.error-in-QueueFault.result (λ (told : Answer). told ≡ submitted_answer c.args.ends s)) (sym c.in-QueueFault.is) c.error-in-QueueFault.ensures

pub returns-in-Spent-clause-told : goal.returns-in-Spent-clause-told
returns-in-Spent-clause-told c = subst (λ s. IfOk c.error-in-Spent.result (λ (told : Answer). told ≡ submitted_answer c.args.ends s)) (sym c.in-Spent.is) c.error-in-Spent.ensures

pub returns-in-Down-clause-told : goal.returns-in-Down-clause-told
returns-in-Down-clause-told c = subst (λ s. IfOk c.error-in-Down.result (λ (told : Answer). told ≡ submitted_answer c.args.ends s)) (sym c.in-Down.is) c.error-in-Down.ensures
