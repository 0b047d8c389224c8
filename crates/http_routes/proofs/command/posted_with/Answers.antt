use Rattle.std.proofs.Common.{subst, ap, ℕ, List}
use Rattle.std.specs.Prelude.{codes}
use Rattle.routes_spec.specs.Commands.{needed}
use Rattle.http_routes.specs.Posted.{Tells, with_word}
use Rattle.http_routes.proofs.PostedLaws.{posted_so}
use Rattle.http_routes.proofs.command.posted_with.Goals as goal

pub returns-in-Some : goal.returns-in-Some
returns-in-Some c =
    let list = c.args.list.now in
    let version = c.version_in-version.result in
    posted_so c.args.now list c.args.body version c.with_word.result c.version_in-version.ensures
    (subst (λ o. Tells c.with_word.result (needed (codes "command") o (λ (word : List ℕ). with_word c.args.now list c.args.body version word))) c.in-Some.ensures c.with_word.ensures)

pub returns-in-None : goal.returns-in-None
returns-in-None c =
    let list = c.args.list.now in
    let version = c.version_in-version.result in
    (version, c.version_in-version.ensures, ap (λ o. needed (codes "command") o (λ (word : List ℕ). with_word c.args.now list c.args.body version word)) c.in-None.ensures)
