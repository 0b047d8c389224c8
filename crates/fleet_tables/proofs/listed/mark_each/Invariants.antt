use Rattle.std.proofs.Common.{◌≡◌, drop}
use Rattle.std.specs.List.{AllByRecursion}
use Rattle.checkpoint_spec.specs.Lists.{all_marked}
use Rattle.fleet_tables.specs.Listed.{HasMoment}
use Rattle.fleet_tables.proofs.listed.mark_each.Given as goal

abbrev pub invariant-marking : goal.invariant-marking
invariant-marking l = record {
  marked : all_marked (drop l.mark-index l.marks) l.tables ≡ all_marked l.marks l.initial.tables;
  left : AllByRecursion HasMoment (drop l.mark-index l.marks);
}
