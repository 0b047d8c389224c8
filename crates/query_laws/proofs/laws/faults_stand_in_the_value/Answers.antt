use Rattle.query_laws.proofs.Placed.{faults_stand_in_the_value, faults_of_routes_stand_in_the_value}
use Rattle.query_laws.proofs.laws.faults_stand_in_the_value.Goals as goal

pub returns-clause-query : goal.returns-clause-query
returns-clause-query c = faults_stand_in_the_value

pub returns-clause-route : goal.returns-clause-route
returns-clause-route c = faults_of_routes_stand_in_the_value
