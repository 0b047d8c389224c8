use Rattle.std.proofs.Common.{◌≡◌, ◌<◌, ◌^◌, arith, rules}
use Rattle.std.proofs.lemmas.Fmt.{parse-decimal}
use Rattle.program_words.proofs.lifetimes.number_in.Goals as goal

pub returns-in-Ok-clause-every : goal.returns-in-Ok-clause-every
returns-in-Ok-clause-every c n least most is =
    let small : n < 2 ^ 32 = omega arith in
    let read = parse-decimal 32 n _ _ small (omega arith) is c.parse.ensures.value.0 in
    cc

pub returns-in_default-clause-every : goal.returns-in_default-clause-every
returns-in_default-clause-every c n least most is =
    let small : n < 2 ^ 32 = omega arith in
    let read = parse-decimal 32 n _ _ small (omega arith) is c.parse.ensures.value.0 in
    let text : c.format.result.now ≡ c.args.word.now = cc in
    absurd (search rules)

pub returns-in_default-2-clause-every : goal.returns-in_default-2-clause-every
returns-in_default-2-clause-every c n least most is =
    let small : n < 2 ^ 32 = omega arith in
    let read = parse-decimal 32 n _ _ small (omega arith) is c.parse.ensures.value.0 in
    let same : c.in-Ok.n ≡ n = cc in
    absurd (omega arith)

pub returns-in_default-3-clause-every : goal.returns-in_default-3-clause-every
returns-in_default-3-clause-every c n least most is =
    let small : n < 2 ^ 32 = omega arith in
    let read = parse-decimal 32 n _ _ small (omega arith) is c.parse.ensures.value.0 in
    let same : c.in-Ok.n ≡ n = cc in
    absurd (omega arith)

pub returns-in_default-4-clause-every : goal.returns-in_default-4-clause-every
returns-in_default-4-clause-every c n least most is =
    let small : n < 2 ^ 32 = omega arith in
    let read = parse-decimal 32 n _ _ small (omega arith) is c.parse.ensures.value.0 in
    absurd (cc)
