-- A core under the lock may go to another thread, where its disks and its keeper may.
use mathlib.Core.List.{[], ◌∷◌}
use denote.Builtin.{One}
use denote.RattleType.{RattleType}
use denote.Ref.{NamedLft}
use denote.Struct.Field.{shr_ref_field}
use denote.Struct.Tuple.{TupleAt}
use denote.Param.Send.{IsSend, IsSync, sendable}
use Rattle.core_ends.specs.fleet_ports.declared.disk.Disk as disk
use Rattle.core_ends.specs.fleet_keeper.declared.keeper.Keeper as keeper
use Rattle.hub_calls.specs.declared.purpose.Purpose as purpose
use Rattle.hub_calls.specs.contracts.followed.Followed as Followed
use Rattle.std.proofs.Crossing.{crosses}
use Rattle.std.proofs.marker.PhantomData.TheSendSync as phantom
use Rattle.core_ends.proofs.of_json_tree.text.Text.TheSendSync as text
use Rattle.core_ends.proofs.of_json_tree.text.Bytes.TheSendSync as bytes
use Rattle.core_ends.proofs.of_stamp_time.moment.Moment.TheSendSync as moment
use Rattle.core_ends.proofs.of_fleet_rows.list.Names.TheSendSync as names
use Rattle.core_ends.proofs.of_fleet_rows.list.Edges.TheSendSync as edges
use Rattle.core_ends.proofs.of_fleet_tables.of_kept_nodes.counts.Counts.TheSendSync as counts
use Rattle.core_ends.proofs.of_fleet_tables.of_kept_nodes.kept.Deactivation.TheSendSync as deactivation
use Rattle.core_ends.proofs.of_fleet_tables.of_kept_nodes.kept.Expiration.TheSendSync as expiration
use Rattle.core_ends.proofs.of_fleet_tables.of_kept_nodes.shown.FactsShown.TheSendSync as facts_shown
use Rattle.core_ends.proofs.of_fleet_tables.of_kept_nodes.shown.CatalogShown.TheSendSync as catalog_shown
use Rattle.core_ends.proofs.of_fleet_tables.of_packed_values.PackedItems.TheSendSync as packed_items
use Rattle.core_ends.proofs.of_fleet_tables.of_kept_nodes.of_packed_shown.hash.PackedHash.TheSendSync as packed_hash
use Rattle.core_ends.specs.json_tree.contracts.tree.Items as Items
use Rattle.core_ends.specs.json_tree.contracts.tree.Members as Members
use Rattle.core_ends.specs.fleet_rows.contracts.list.Resources as Resources
use Rattle.core_ends.specs.fleet_rows.contracts.catalog.Resource as Resource
use Rattle.core_ends.specs.fleet_rows.contracts.catalog.CatalogChange as CatalogChange
use Rattle.core_ends.specs.fleet_rows.contracts.change.FactsChange as FactsChange
use Rattle.core_ends.specs.fleet_tables.kept_nodes.contracts.kept.Factset as Factset
use Rattle.core_ends.specs.fleet_tables.kept_nodes.contracts.kept.NodeCatalog as NodeCatalog
use Rattle.core_ends.specs.fleet_tables.kept_nodes.contracts.packed.PackedLists as PackedLists
use Rattle.core_ends.specs.fleet_tables.kept_nodes.contracts.packed.PackedReport as PackedReport
use Rattle.core_ends.specs.fleet_tables.kept_nodes.contracts.kept.Report as Report
use Rattle.core_ends.specs.fleet_tables.kept_nodes.contracts.kept.HeldReport as HeldReport
use Rattle.core_ends.specs.fleet_tables.kept_nodes.contracts.node.Node as Node
use Rattle.core_ends.specs.fleet_tables.contracts.group.Group as Group
use Rattle.core_ends.specs.fleet_tables.contracts.state.State as State
use Rattle.core_ends.specs.fleet_tables.contracts.tables.Tables as Tables
use Rattle.core_ends.specs.core_state.contracts.state.CoreState as CoreState
use Rattle.core_ends.specs.command_core.contracts.calls.Core as Core
use Rattle.core_ends.specs.supersede_core.contracts.pending.Pending as Pending
use Rattle.core_ends.specs.core_state.contracts.found.Found as Found
use Rattle.core_ends.specs.core_state.contracts.events.Events as Events
use Rattle.core_ends.proofs.of_retry_discard.discards.Discards.TheSendSync as discards
use Rattle.core_ends.proofs.of_queue_log.queue.QueueLog.TheSendSync as queue

-- what a core is made of
ruleset parts = (sendable, crosses, text.the_send, bytes.the_send, moment.the_send, names.the_send, edges.the_send)

module _ (items : IsSend (Items.the_field).row) (members : IsSend (Members.the_field).row) where
  facts : IsSend (FactsChange.the_field).row
  facts = search (parts, members) depth 20

  resource : IsSend (Resource.the_field).row
  resource = search (parts, members) depth 20

  resources : IsSend (Resources.the_field).row
  resources = search (parts, resource) depth 20

  catalog : IsSend (CatalogChange.the_field).row
  catalog = search (parts, resources) depth 20

  packed_lists : IsSend (PackedLists.the_field).row
  packed_lists = search (parts, packed_items.the_send) depth 20

  packed_report : IsSend (PackedReport.the_field).row
  packed_report = search (parts, packed_lists) depth 20

  factset : IsSend (Factset.the_field).row
  factset = search (parts, facts, facts_shown.the_field_send) depth 20

  node_catalog : IsSend (NodeCatalog.the_field).row
  node_catalog = search (parts, catalog, catalog_shown.the_field_send) depth 20

  node_report : IsSend (Report.the_field).row
  node_report = search (parts, packed_report, packed_hash.the_send) depth 20

  held_report : IsSend (HeldReport.the_field).row
  held_report = search (parts, node_report) depth 20

  node : IsSend (Node.the_field).row
  node = search (parts, factset, node_catalog, deactivation.the_field_send, expiration.the_field_send, held_report, counts.the_field_send) depth 20

  group : IsSend (Group.the_field).row
  group = search (parts, node, counts.the_field_send) depth 20

  state : IsSend (State.the_field).row
  state = search (parts, group, counts.the_field_send) depth 20

  tables : IsSend (Tables.the_field).row
  tables = search (parts, state) depth 20

  module _ (pending : IsSend (Pending.the_field).row) (found : IsSend (Found.the_field).row) (events : IsSend (Events.the_field).row) (D K P : RattleType) (d : IsSend D) (k : IsSend K) (p : IsSend P) (disks : disk.Ghosts D.Denot)
      (keepers : keeper.Ghosts K.Denot) (purposes : purpose.Ghosts P.Denot) where
    core_state : IsSend (CoreState.the_field D K).row
    core_state = search (parts, queue.the_field_send, tables, pending, discards.the_send, events, found, d, k) depth 20

    core : IsSend (Core.the_field D K disks keepers).row
    core = search (parts, core_state) depth 20

    inside : IsSend (Followed.TheInside.the_field D K P disks keepers purposes).row
    inside = search (parts, core, phantom.the_field_send) depth 20

    pub followed_goes : IsSend (Followed.the_row D K P disks keepers purposes)
    followed_goes = search (parts, inside) depth 20

-- what a closure catches by references may be shared where it may
pub caught : (a b c d : NamedLft) (A B C D : RattleType) (u : One A.mir) (v : One B.mir) (w : One C.mir) (x : One D.mir) → IsSync A → IsSync B → IsSync C → IsSync D
    → IsSync (TupleAt [] ((shr_ref_field a A u).row ∷ (shr_ref_field b B v).row ∷ (shr_ref_field c C w).row ∷ (shr_ref_field d D x).row ∷ []))
caught a b c d A B C D u v w x p q r s = search sendable depth 20
