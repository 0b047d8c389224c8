use Rattle.query_laws.proofs.FirstFaults.{first_faults_are_told, first_faults_of_routes_are_told}
use Rattle.query_laws.proofs.laws.the_first_fault_is_told.Goals as goal

pub returns-clause-query : goal.returns-clause-query
returns-clause-query c = first_faults_are_told

pub returns-clause-route : goal.returns-clause-route
returns-clause-route c = first_faults_of_routes_are_told
