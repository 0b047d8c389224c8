use Rattle.std.proofs.Common.{◌≡◌, IsSome, true, false, subst}
use Rattle.program_words.specs.Splitting.{split_of, plain_words}
use Rattle.program_words.proofs.Requests.{asks_alone}
use Rattle.program_words.proofs.asked.without_options.Goals as goal

pub returns-in_err-alone-clause-every : goal.returns-in_err-alone-clause-every
returns-in_err-alone-clause-every c request none asks =
    let only = asks_alone c.args.verb (split_of c.args.told) request none asks in
    let some : false ≡ true = subst IsSome c.in_err-alone.was (c.alone.ensures.every (plain_words c.args.told.plain) only) in absurd (cc)
