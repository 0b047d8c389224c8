use Rattle.query_laws.proofs.JudgedForms.{first_refusals_are_told, first_refusals_of_routes_are_told}
use Rattle.query_laws.proofs.laws.the_first_value_without_a_form_is_told.Goals as goal

pub returns-clause-query : goal.returns-clause-query
returns-clause-query c = first_refusals_are_told

pub returns-clause-route : goal.returns-clause-route
returns-clause-route c = first_refusals_of_routes_are_told
