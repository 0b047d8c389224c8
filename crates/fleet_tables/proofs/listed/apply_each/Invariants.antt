use Rattle.std.proofs.Common.{◌≡◌, drop}
use Rattle.std.specs.List.{AllByRecursion}
use Rattle.checkpoint_spec.specs.Lists.{all_applied}
use Rattle.fleet_tables.specs.Listed.{HasLawfulChange}
use Rattle.fleet_tables.proofs.listed.apply_each.Given as goal

abbrev pub invariant-applying : goal.invariant-applying
invariant-applying l = record {
  applied : all_applied (drop l.command-index l.commands) l.tables ≡ all_applied l.commands l.initial.tables;
  left : AllByRecursion HasLawfulChange (drop l.command-index l.commands);
}
