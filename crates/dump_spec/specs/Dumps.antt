-- The dump of a table: a spool whose items lead to the table's rows again.
use Rattle.std.specs.Prelude.{ℕ, ℤ, pos, List, [], ◌∷◌, ◌++◌, Option, Some, None, map, flat_map}
use Rattle.list_again.specs.spool_spec.Spool.{command_text, sweep_text}
use Rattle.list_again.specs.history_spec.Thread.{Item, command, sweep}
use Rattle.list_again.specs.fleet_rows.declared.change.Change.{Change}
use Rattle.list_again.specs.fleet_rows.declared.settings.Kinds.{Kinds}
use Rattle.list_again.specs.Told.{if_there, change_in, expire_alone, reports_alone}
use Rattle.list_again.specs.Whole.{greatest_there, lacking}
use Rattle.list_again.specs.checkpoint_spec.Lists.{by_rank}
use Rattle.list_again.specs.table_spec.Sorted.{sorted_by}
use Rattle.list_again.specs.table_spec.Rows.{change_of}
use Rattle.list_again.specs.table_machine.Table.{Node, Table}
use Rattle.dump_spec.specs.Payloads.{command_of}
use Rattle.dump_spec.specs.Stamps.{short_text}

-- ---- items

-- a node's newest facts, catalog, expiration and deactivation, then an empty report where its greatest activity is the stamp of
-- none of its commands, then its reports by rank
abbrev pub node_changes : Node → List Change
node_changes node =
    if_there (change_of node.facts)
    ++ (if_there (change_of node.catalog)
    ++ (if_there (change_of node.expiration)
    ++ (if_there (change_of node.deactivate)
    ++ (if_there (lacking node.certname node.active (greatest_there node))
    ++ map change_in (sorted_by by_rank node.reports)))))

abbrev pub sweep_if : Kinds → Option ℤ → List Item
sweep_if kinds None = []
sweep_if kinds (Some m) = sweep kinds m ∷ []

-- the nodes by certname, then the greatest sweep of expiry and the greatest sweep of reports. The reader of a spool sets the
-- moment at which commands are received
abbrev pub dump_items : ℤ → Table → List Item
dump_items received table =
    map (λ c. command (command_of received c)) (flat_map node_changes table.nodes)
    ++ (sweep_if expire_alone table.expiry ++ sweep_if reports_alone table.retention)

-- ---- bytes

abbrev pub item_text : Item → List ℕ
item_text (command c) = command_text c
item_text (sweep kinds m) = sweep_text kinds (short_text m)

unfoldable pub dump_text : Table → List ℕ
dump_text table = flat_map item_text (dump_items (pos 0) table)
