use Rattle.program_words.specs.Splitting.{plain_words}
use Rattle.program_words.proofs.Requests.{given}
use Rattle.program_words.specs.declared.verb.Verb.TheVariants as verb
use Rattle.program_words.proofs.asked.init_of.Goals as goal

pub returns-in-Some-clause-every : goal.returns-in-Some-clause-every
returns-in-Some-clause-every c request is =
    let init = given verb.Init (plain_words c.args.plain) request is.1 in
    let told = c.lifetimes_of.ensures.every init.0 init.2 in
    let same = init.1 in cc

pub returns-in-None-clause-every : goal.returns-in-None-clause-every
returns-in-None-clause-every c request is =
    let init = given verb.Init (plain_words c.args.plain) request is.1 in
    let told = c.lifetimes_of.ensures.every init.0 init.2 in
    absurd (cc)
