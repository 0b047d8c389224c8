use Rattle.std.proofs.Common.{◌≡◌, ◌∙◌, arith, rules}
use Rattle.std.proofs.lemmas.Fmt.{parse-decimal}
use Rattle.http_routes.proofs.command.version_of.Goals as goal

pub returns-else-eq : goal.returns-else-eq
returns-else-eq c n small is =
    let read = parse-decimal 32 n _ _ small (omega arith) (c.as_str.ensures ∙ is) c.parse.ensures.value.0 in
    let text : c.format.result.now ≡ c.as_str-in-Ok.result.now = cc in
    search rules

pub returns-in-Err : goal.returns-in-Err
returns-in-Err c n small is =
    let read = parse-decimal 32 n _ _ small (omega arith) (c.as_str.ensures ∙ is) c.parse.ensures.value.0 in
    cc
