use Rattle.query_laws.proofs.Spelt.{queries_are_spelt, queries_are_shallow, spelt_queries_are_read}
use Rattle.query_laws.proofs.laws.queries_are_what_the_grammar_spells.Goals as goal

pub returns-clause-read : goal.returns-clause-read
returns-clause-read c = queries_are_spelt

pub returns-clause-shallow : goal.returns-clause-shallow
returns-clause-shallow c = queries_are_shallow

pub returns-clause-spelt : goal.returns-clause-spelt
returns-clause-spelt c = spelt_queries_are_read
