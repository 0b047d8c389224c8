use Rattle.std.proofs.Common.{subst, sym, ap}
use Rattle.std.specs.Prelude.{codes}
use Rattle.routes_spec.specs.Commands.{unless_bad}
use Rattle.http_routes.specs.Posted.{Tells, with_version}
use Rattle.http_routes.proofs.command.with_certname.Goals as goal

pub returns-in-Some : goal.returns-in-Some
returns-in-Some c =
    subst (λ o. Tells c.with_version.result (unless_bad (codes "bad version") o (λ n. with_version c.args.now c.args.list.now c.args.body c.args.word.now n))) (sym c.in-Some.is) c.with_version.ensures

pub returns-in-None : goal.returns-in-None
returns-in-None c = ap (λ o. unless_bad (codes "bad version") o (λ n. with_version c.args.now c.args.list.now c.args.body c.args.word.now n)) c.in-None.is
