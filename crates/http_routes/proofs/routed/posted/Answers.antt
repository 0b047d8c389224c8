use Rattle.std.proofs.Common.{◌∙◌, subst, Ok}
use Rattle.routes_spec.specs.Commands.{IsPosted}
use Rattle.http_routes.proofs.RoutedLaws.{badly_posted}
use Rattle.http_routes.proofs.routed.posted.Goals as goal

pub returns-in-Command : goal.returns-in-Command
returns-in-Command c =
    subst (λ p. IsPosted c.args.now p c.args.request.body (Ok c.in-Command.command)) (c.as_slice.ensures.value ∙ c.in_ok-list.ensures) c.in-Command.ensures

pub returns-in-Bad : goal.returns-in-Bad
returns-in-Bad c =
    badly_posted c.args.now c.args.request c.as_slice.result.now c.in-Bad.text.now c.refusal.result (c.as_slice.ensures.value ∙ c.in_ok-list.ensures) c.in-Bad.ensures c.refusal.ensures
