use Rattle.http_spec.proofs.NamedFields.{first_found, all_unnamed, none_named, named_alike}
use Rattle.http_spec.proofs.laws.the_first_field_of_a_name_is_found.Goals as goal

pub returns-clause-found : goal.returns-clause-found
returns-clause-found c = first_found

pub returns-clause-none : goal.returns-clause-none
returns-clause-none c name heads = (all_unnamed name heads, none_named name heads)

pub returns-clause-any_case : goal.returns-clause-any_case
returns-clause-any_case c = named_alike
