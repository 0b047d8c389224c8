use Rattle.std.proofs.Common.{refl, lit≤}
use Rattle.checkpoint_spec.proofs.of_history_laws.StrictlySorted.{sorted-nil}
use Rattle.checkpoint_spec.specs.table_machine.Table.{node_cmp}
use Rattle.fleet_tables.proofs.group.Group.new.Goals as goal

pub invariant_of-result : goal.invariant_of-result
invariant_of-result c =
    rw (c.new.ensures.items, c.none.ensures) (tt, sorted-nil node_cmp, tt, refl, (lit≤ tt, lit≤ tt, lit≤ tt, lit≤ tt, lit≤ tt, lit≤ tt, lit≤ tt))
