use Rattle.std.proofs.Common.{[], lit≤}
use Rattle.checkpoint_spec.proofs.of_history_laws.StrictlySorted.{sorted-nil}
use Rattle.checkpoint_spec.specs.table_machine.Table.{node_cmp}
use Rattle.fleet_tables.proofs.StartLaws.{no_starts}
use Rattle.kept_nodes.proofs.RowCounts.{count_none}
use Rattle.fleet_tables.proofs.state.State.new.Goals as goal

pub invariant_of-result : goal.invariant_of-result
invariant_of-result c =
    rw (c.new.ensures.items, c.none.ensures, c.new-2.ensures.items)
    (tt, tt, tt, sorted-nil node_cmp, (λ entity ttls expiry. count_none ttls expiry entity), (lit≤ tt, lit≤ tt, lit≤ tt, lit≤ tt, lit≤ tt, lit≤ tt, lit≤ tt), tt, no_starts [])
