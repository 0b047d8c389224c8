use Rattle.program_words.proofs.read.query_of.Goals as goal

pub returns-in-Some-clause-every : goal.returns-in-Some-clause-every
returns-in-Some-clause-every c = rw c.in-Some.is at c.in-Ok.ensures.every_query
