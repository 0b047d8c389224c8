use Rattle.std.proofs.Common.{◌≡◌, rules}
use Rattle.std.proofs.lemmas.Fmt.{parse-decimal}
use Rattle.live_links.proofs.header.number_in.Goals as goal

pub returns-else-eq : goal.returns-else-eq
returns-else-eq c n small is =
    let read = parse-decimal 64 n _ _ small small is c.parse.ensures.value.0 in
    let text : c.format.result.now ≡ c.args.text.now = cc in
    search rules

pub returns-in-Err : goal.returns-in-Err
returns-in-Err c n small is =
    let read = parse-decimal 64 n _ _ small small is c.parse.ensures.value.0 in
    cc
