use Rattle.std.proofs.Common.{subst, sym, ap}
use Rattle.std.specs.Prelude.{codes}
use Rattle.http_routes.specs.routes.Commands.{needed}
use Rattle.live_links.specs.SweepSteps.{Tells, with_at}
use Rattle.live_links.proofs.sweeps.with_kinds.Goals as goal

pub returns-in-Some : goal.returns-in-Some
returns-in-Some c = subst (λ o. Tells c.with_at.result (needed (codes "at") o (λ _. with_at c.args.text.now c.args.moment))) c.in-Some.ensures c.with_at.ensures

pub returns-in-None : goal.returns-in-None
returns-in-None c = ap (λ o. needed (codes "at") o (λ _. with_at c.args.text.now c.args.moment)) (sym c.in-None.ensures)
