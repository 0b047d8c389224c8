-- The tables that can be dumped: their changes meet the rules of changes, and their sweeps have stamps.
use Rattle.std.specs.Prelude.{List, ◌++◌}
use Rattle.std.specs.List.{AllByRecursion}
use Rattle.dump_writer.specs.dump_spec.fleet_rows.declared.change.Change.{Change}
use Rattle.dump_writer.specs.dump_spec.history_spec.Lawful.{IsChange, IfMoment}
use Rattle.dump_writer.specs.dump_spec.list_again.Told.{if_there}
use Rattle.dump_writer.specs.dump_spec.list_again.Whole.{greatest_there, lacking}
use Rattle.dump_writer.specs.dump_spec.table_spec.Rows.{change_of}
use Rattle.dump_writer.specs.dump_spec.table_machine.Table.{Node, Table}
use Rattle.dump_writer.specs.dump_spec.Dumps.{node_changes}

-- what a dump writes of a node besides its reports, from its deactivation on, from its expiration on, from its catalog on, and all
abbrev pub from_deactivation : Node → List Change
from_deactivation node = if_there (change_of node.deactivate) ++ if_there (lacking node.certname node.active (greatest_there node))

abbrev pub from_expiration : Node → List Change
from_expiration node = if_there (change_of node.expiration) ++ from_deactivation node

abbrev pub from_catalog : Node → List Change
from_catalog node = if_there (change_of node.catalog) ++ from_expiration node

abbrev pub newest_changes : Node → List Change
newest_changes node = if_there (change_of node.facts) ++ from_catalog node

-- each change that a dump writes of the node is lawful
abbrev pub IsDumpableNode : Node → Type 0
IsDumpableNode node = AllByRecursion IsChange (node_changes node)

-- whoever writes a dump of tables shows this of them
pub record IsDumpable (table : Table) : Type 0 where
  pub expiry : IfMoment table.expiry
  pub retention : IfMoment table.retention
  pub nodes : AllByRecursion IsDumpableNode table.nodes
