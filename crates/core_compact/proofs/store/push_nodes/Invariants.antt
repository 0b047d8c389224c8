use Rattle.std.proofs.Common.{◌≡◌, ◌++◌, drop}
use Rattle.std.specs.List.{AllByRecursion}
use Rattle.core_state.specs.record_spec.Store.{IsStoreRecord}
use Rattle.core_state.specs.compact_laws.Lawful.{IsLawfulCommand}
use Rattle.core_state.specs.compact_laws.Records.{each_node}
use Rattle.core_compact.proofs.store.push_nodes.Given as goal

abbrev pub invariant-nodes : goal.invariant-nodes
invariant-nodes l =
    (l.records ++ each_node (drop l.mark-index l.marks) l.left.items ≡ l.initial.records ++ each_node l.marks l.initial.left.items)
    × AllByRecursion IsLawfulCommand l.left.items × AllByRecursion IsStoreRecord l.records
