use Rattle.std.proofs.Common.{◌≡◌, [], ◌∷◌, IsSome, true, false, subst}
use Rattle.program_words.proofs.read.text_of.Goals as goal

pub returns-in_err-text-clause-every : goal.returns-in_err-text-clause-every
returns-in_err-text-clause-every c text is =
    let some : false ≡ true = subst IsSome c.in_err-text.was (c.alone.ensures.every (text ∷ []) is) in absurd (cc)
