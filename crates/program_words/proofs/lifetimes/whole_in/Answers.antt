use Rattle.std.proofs.Common.{◌≡◌, rules}
use Rattle.std.proofs.lemmas.Fmt.{parse-decimal}
use Rattle.program_words.proofs.lifetimes.whole_in.Goals as goal

pub returns-in-Ok-clause-every : goal.returns-in-Ok-clause-every
returns-in-Ok-clause-every c n small is =
    let read = parse-decimal 64 n _ _ small small is c.parse.ensures.value.0 in
    cc

pub returns-in_default-clause-every : goal.returns-in_default-clause-every
returns-in_default-clause-every c n small is =
    let read = parse-decimal 64 n _ _ small small is c.parse.ensures.value.0 in
    let text : c.format.result.now ≡ c.args.word.now = cc in
    absurd (search rules)

pub returns-in_default-2-clause-every : goal.returns-in_default-2-clause-every
returns-in_default-2-clause-every c n small is =
    let read = parse-decimal 64 n _ _ small small is c.parse.ensures.value.0 in
    absurd (cc)
