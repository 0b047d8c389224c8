use Rattle.std.proofs.Common.{◌≡◌, ◌++◌, take, drop, map}
use Rattle.checkpoint_spec.specs.table_machine.Steps.{with_retained}
use Rattle.fleet_tables.proofs.groups.retain_each.Given as goal

abbrev pub invariant-sweeping : goal.invariant-sweeping
invariant-sweeping l =
    l.group-items ≡ map (map (with_retained l.ttls l.retention)) (take l.group-index l.initial.group-items) ++ drop l.group-index l.initial.group-items
