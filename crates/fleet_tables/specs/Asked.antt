-- Look-ups in a table by certname.
use Rattle.std.specs.Prelude.{ℕ, Bool, false, List, Option}
use Rattle.std.specs.Option.{option_and_then, option_map_or}
use Rattle.checkpoint_spec.specs.fleet_rows.declared.command.Kind.{Kind}
use Rattle.checkpoint_spec.specs.fleet_rows.declared.rank.Rank.{Rank}
use Rattle.checkpoint_spec.specs.table_machine.Table.{Table}
use Rattle.checkpoint_spec.specs.table_machine.Node.{node_inactive}
use Rattle.checkpoint_spec.specs.table_machine.Steps.{find_node}
use Rattle.kept_nodes.specs.Seen.{newest_rank}

-- the rank of the node's newest command of this kind; none if the table has no such node
abbrev pub newest_in : Table → List ℕ → Kind → Option Rank
newest_in table certname kind = option_and_then (newest_rank kind) (find_node certname table.nodes)

-- whether the table has such a node and it is deactivated or expired
abbrev pub is_inactive_in : Table → List ℕ → Bool
is_inactive_in table certname = option_map_or (node_inactive table.ttls table.expiry) (find_node certname table.nodes) false
