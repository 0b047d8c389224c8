use Rattle.std.proofs.Common.{◌∙◌, subst, sym, ap, Ok, Err, if◌then◌else◌}
use Rattle.std.specs.Prelude.{codes}
use Rattle.routes_spec.specs.Commands.{unless_bad, kind_named, has_checksum, command}
use Rattle.http_routes.specs.Posted.{Tells, with_kind}
use Rattle.http_routes.proofs.command.with_version.Goals as goal

pub returns-in-Some : goal.returns-in-Some
returns-in-Some c =
    let list = c.args.list.now in
    let body = c.args.body in
    let handed = command c.in-Some.kind c.args.version c.args.now body in
    let summed = subst (λ o. Tells c.summed.result (if has_checksum o body then Ok handed else Err (codes "bad checksum"))) c.last_under-checksum.ensures c.summed.ensures in
    subst (λ o. Tells c.summed.result (unless_bad (codes "bad command") o (λ kind. with_kind c.args.now list body c.args.version kind))) (c.in-Some.ensures ∙ ap kind_named c.as_str.ensures) summed

pub returns-in-None : goal.returns-in-None
returns-in-None c =
    ap (λ o. unless_bad (codes "bad command") o (λ kind. with_kind c.args.now c.args.list.now c.args.body c.args.version kind)) (sym (c.in-None.ensures ∙ ap kind_named c.as_str.ensures))
