use Rattle.std.proofs.Common.{subst, sym, ap}
use Rattle.std.specs.Prelude.{codes}
use Rattle.routes_spec.specs.Commands.{needed}
use Rattle.http_routes.specs.Posted.{Tells, with_text}
use Rattle.http_routes.proofs.command.with_word.Goals as goal

pub returns-in-Some : goal.returns-in-Some
returns-in-Some c =
    subst (λ o. Tells c.with_text.result (needed (codes "version") o (λ _. with_text c.args.now c.args.list.now c.args.body c.args.word.now c.args.version))) c.in-Some.ensures c.with_text.ensures

pub returns-in-None : goal.returns-in-None
returns-in-None c = ap (λ o. needed (codes "version") o (λ _. with_text c.args.now c.args.list.now c.args.body c.args.word.now c.args.version)) (sym c.in-None.ensures)
