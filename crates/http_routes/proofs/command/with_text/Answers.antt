use Rattle.std.proofs.Common.{◌∙◌, subst, sym, ap}
use Rattle.std.specs.Prelude.{codes}
use Rattle.routes_spec.specs.Commands.{needed, if_filled}
use Rattle.http_routes.specs.Posted.{Tells, with_certname}
use Rattle.http_routes.proofs.command.with_text.Goals as goal

pub returns-in-Some : goal.returns-in-Some
returns-in-Some c =
    subst (λ o. Tells c.with_certname.result (needed (codes "certname") o (λ _. with_certname c.args.now c.args.list.now c.args.body c.args.word.now c.args.version)))
    (c.in-Some.ensures ∙ ap if_filled c.last_under.ensures) c.with_certname.ensures

pub returns-in-None : goal.returns-in-None
returns-in-None c =
    ap (λ o. needed (codes "certname") o (λ _. with_certname c.args.now c.args.list.now c.args.body c.args.word.now c.args.version)) (sym (c.in-None.ensures ∙ ap if_filled c.last_under.ensures))
