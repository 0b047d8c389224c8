use Rattle.std.proofs.Common.{ap, Ok}
use Rattle.std.specs.Prelude.{codes}
use Rattle.http_routes.specs.routes.Commands.{unless_bad}
use Rattle.live_links.proofs.sweeps.at_moment.Goals as goal

pub returns-in-Some : goal.returns-in-Some
returns-in-Some c = ap (λ o. unless_bad (codes "bad at") o (λ m. Ok (c.args.kinds, m))) c.in-Some.is

pub returns-in-None : goal.returns-in-None
returns-in-None c = ap (λ o. unless_bad (codes "bad at") o (λ m. Ok (c.args.kinds, m))) c.in-None.is
