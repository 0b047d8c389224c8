use Rattle.table_machine.proofs.TableLaws.{nodes_tell_their_deactivation, nodes_tell_their_expiry, nodes_tell_whether_they_are_inactive, nodes_tell_whether_a_purge_takes_them}
use Rattle.table_machine.proofs.nodes.a_node_tells_what_its_life_does.Goals as goal

pub returns-clause-deactivation : goal.returns-clause-deactivation
returns-clause-deactivation c = nodes_tell_their_deactivation

pub returns-clause-expiry : goal.returns-clause-expiry
returns-clause-expiry c = nodes_tell_their_expiry

pub returns-clause-inactive : goal.returns-clause-inactive
returns-clause-inactive c = nodes_tell_whether_they_are_inactive

pub returns-clause-purge : goal.returns-clause-purge
returns-clause-purge c = nodes_tell_whether_a_purge_takes_them
