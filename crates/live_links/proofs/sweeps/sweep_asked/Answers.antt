use Rattle.std.proofs.Common.{ℕ, List, subst, sym, ap}
use Rattle.std.specs.Prelude.{codes}
use Rattle.http_routes.specs.routes.Commands.{needed}
use Rattle.live_links.specs.SweepSteps.{Tells, with_kinds}
use Rattle.live_links.proofs.sweeps.sweep_asked.Goals as goal

pub returns-in-Some : goal.returns-in-Some
returns-in-Some c =
    let list = c.args.list.now in
    let moment = c.moment_in-moment.result in (
      moment,
      c.moment_in-moment.ensures,
      sym (subst (λ o. Tells c.with_kinds.result (needed (codes "kinds") o (λ (text : List ℕ). with_kinds list moment text))) c.in-Some.ensures c.with_kinds.ensures),
    )

pub returns-in-None : goal.returns-in-None
returns-in-None c =
    let list = c.args.list.now in
    let moment = c.moment_in-moment.result in
    (moment, c.moment_in-moment.ensures, ap (λ o. needed (codes "kinds") o (λ (text : List ℕ). with_kinds list moment text)) c.in-None.ensures)
