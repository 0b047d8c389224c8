use Rattle.std.proofs.Common.{◌∙◌, subst, sym, ap}
use Rattle.std.specs.Prelude.{codes}
use Rattle.http_routes.specs.routes.Commands.{unless_bad}
use Rattle.live_links.specs.Sweeps.{kinds_named}
use Rattle.live_links.specs.SweepSteps.{Tells, at_moment}
use Rattle.live_links.proofs.sweeps.with_at.Goals as goal

pub returns-in-Some : goal.returns-in-Some
returns-in-Some c =
    subst (λ o. Tells c.at_moment.result (unless_bad (codes "bad kinds") o (λ kinds. at_moment kinds c.args.moment))) (c.in-Some.ensures ∙ ap kinds_named c.as_str.ensures) c.at_moment.ensures

pub returns-in-None : goal.returns-in-None
returns-in-None c = ap (λ o. unless_bad (codes "bad kinds") o (λ kinds. at_moment kinds c.args.moment)) (sym (c.in-None.ensures ∙ ap kinds_named c.as_str.ensures))
