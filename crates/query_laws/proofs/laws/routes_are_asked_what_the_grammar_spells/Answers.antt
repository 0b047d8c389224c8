use Rattle.query_laws.proofs.Spelt.{routes_are_spelt, spelt_routes_are_read}
use Rattle.query_laws.proofs.laws.routes_are_asked_what_the_grammar_spells.Goals as goal

pub returns-clause-read : goal.returns-clause-read
returns-clause-read c = routes_are_spelt

pub returns-clause-spelt : goal.returns-clause-spelt
returns-clause-spelt c = spelt_routes_are_read
