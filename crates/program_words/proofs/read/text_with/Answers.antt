use Rattle.program_words.proofs.read.text_with.Goals as goal

pub returns-then-eq-clause-every : goal.returns-then-eq-clause-every
returns-then-eq-clause-every c = λ text query is. c.text_of.ensures.every text is
