use Rattle.std.proofs.Common.{subst}
use Rattle.std.specs.List.{AllByRecursion}
use Rattle.checkpoint_spec.specs.table_machine.Table.{Table}
use Rattle.fleet_tables.specs.Groups.{StandInOrder}
use Rattle.kept_nodes.specs.Owned.{IsOwn}
use Rattle.fleet_tables.proofs.state.State.stand_by_certname.Goals as goal

pub returns-clause-order : goal.returns-clause-order
returns-clause-order c = subst (λ (t : Table). StandInOrder t.nodes) c.self.view_is c.self.invariant.3

pub returns-clause-own : goal.returns-clause-own
returns-clause-own c = subst (λ (t : Table). AllByRecursion IsOwn t.nodes) c.self.view_is c.self.invariant.6
