-- The list of a table's checkpoint, and the table that a list leads to.
use Rattle.std.specs.Prelude.{List, [], ◌∷◌, ◌++◌, Option, Some, None, map, flat_map}
use Rattle.std.specs.declared.cmp.Ordering.{Ordering}
use Rattle.table_laws.specs.fleet_rows.Rank.{rank_cmp}
use Rattle.table_laws.specs.fleet_rows.declared.applied.Applied.{Applied}
use Rattle.table_laws.specs.fleet_rows.declared.store.Mark.{Mark}
use Rattle.table_laws.specs.fleet_rows.declared.store.StoreList.{StoreList}
use Rattle.table_laws.specs.history_spec.Trace.{rank_of}
use Rattle.table_laws.specs.table_spec.Sorted.{sorted_by}
use Rattle.table_laws.specs.table_machine.Node.{stamp_of_newest}
use Rattle.table_laws.specs.table_machine.Steps.{empty_table, with_node, apply}
use Rattle.table_laws.specs.table_machine.Table.{Node, Table}

-- ---- the list of a table

abbrev pub by_rank : Applied → Applied → Ordering
by_rank x y = rank_cmp (rank_of x) (rank_of y)

abbrev pub if_kept : Option Applied → List Applied
if_kept None = []
if_kept (Some x) = x ∷ []

-- what is known of a node besides its commands; its newest deactivation is also its greatest
abbrev pub mark_of : Node → Mark
mark_of node = record { certname = node.certname; active = node.active; deactivated = stamp_of_newest node.deactivate }

-- a node's newest command of each kind except reports, then its kept reports by rank
abbrev pub commands_of : Node → List Applied
commands_of node =
    if_kept node.facts ++ (if_kept node.catalog ++ (if_kept node.deactivate ++ (if_kept node.expiration ++ sorted_by by_rank node.reports)))

abbrev pub list_of : Table → StoreList
list_of table = record {
  ttls = table.ttls;
  expire = table.expiry;
  retain = table.retention;
  marks = map mark_of table.nodes;
  applied = flat_map commands_of table.nodes;
}

-- ---- the table of a list

-- sets the greatest activity of the mark's node. A mark's deactivation isn't needed: the kept command has it
abbrev pub marked : Mark → Table → Table
marked mark table = record table { nodes = with_node mark.certname (λ node. record node { active = mark.active }) table.nodes }

abbrev pub all_marked : List Mark → Table → Table
all_marked [] table = table
all_marked (mark ∷ marks) table = all_marked marks (marked mark table)

-- applies the commands in their order
abbrev pub all_applied : List Applied → Table → Table
all_applied [] table = table
all_applied (x ∷ xs) table = all_applied xs (apply x table)

-- the table before its commands: the lifetimes, the greatest sweeps and the nodes of the marks
abbrev pub table_of_marks : StoreList → Table
table_of_marks list = all_marked list.marks (record (empty_table list.ttls) { expiry = list.expire; retention = list.retain })

abbrev pub table_of_list : StoreList → Table
table_of_list list = all_applied list.applied (table_of_marks list)
