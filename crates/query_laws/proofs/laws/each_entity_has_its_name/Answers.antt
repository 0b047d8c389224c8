use Rattle.query_laws.proofs.Names.{entities_have_names, only_names_name_entities}
use Rattle.query_laws.proofs.laws.each_entity_has_its_name.Goals as goal

pub returns-clause-found : goal.returns-clause-found
returns-clause-found c = entities_have_names

pub returns-clause-only : goal.returns-clause-only
returns-clause-only c = only_names_name_entities
