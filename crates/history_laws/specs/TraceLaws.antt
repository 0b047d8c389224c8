-- Statements on the traces of histories and on their nodes.
use Rattle.std.specs.Prelude.{◌≢◌, ◌↔◌, ℕ, List, []}
use Rattle.std.specs.List.{Contains}
use Rattle.std.specs.List.Sorted.{IsStrictlySortedBy}
use Rattle.spool_spec.specs.text_spec.Compact.{text_cmp}
use Rattle.spool_spec.specs.fleet_rows.declared.settings.Ttls.{Ttls}
use Rattle.spool_spec.specs.history_spec.Trace.{Trace, IsTrace, receipts}
use Rattle.spool_spec.specs.history_spec.Life.{life, nodes}
use Rattle.history_laws.specs.OrderLaws.{AreDistinct}
use Rattle.history_laws.specs.RowLaws.{HaveDistinctNames}

-- all receipts are distinct
abbrev pub TracesHaveDistinctReceipts : Type 0
TracesHaveDistinctReceipts = (history : Trace) → IsTrace history → AreDistinct (receipts history)

-- all facts have distinct names
abbrev pub TracesHaveDistinctNames : Type 0
TracesHaveDistinctNames = (history : Trace) → IsTrace history → HaveDistinctNames history

-- the nodes are strictly sorted by their bytes
abbrev pub NodesAreStrictlySorted : Type 0
NodesAreStrictlySorted = (ttls : Ttls) (history : Trace) → IsStrictlySortedBy text_cmp (nodes ttls history)

-- a node is listed exactly if its life has a command
abbrev pub NodesHaveALife : Type 0
NodesHaveALife = (ttls : Ttls) (history : Trace) (node : List ℕ) → Contains (nodes ttls history) node ↔ (life ttls node history ≢ [])
