use Rattle.std.proofs.Common.{◌<◌, length, refl, arith}
use Rattle.checkpoint_spec.specs.table_machine.Steps.{apply}
use Rattle.checkpoint_spec.specs.Lists.{all_applied}
use Rattle.fleet_tables.specs.Listed.{HasLawfulChange}
use Rattle.fleet_tables.proofs.ListedLaws.{one_further, holds_here, holds_behind}
use Rattle.fleet_tables.proofs.listed.apply_each.Goals as goal

pub apply_copy-requires : goal.apply_copy-requires
apply_copy-requires c =
    let within : c.applying.command-index < length c.args.commands.now = omega arith in
    holds_here c.args.commands.now c.applying.command-index c.command-item.result within c.command-item.is HasLawfulChange c.applying.invariant.left

pub applying-preserved : goal.applying-preserved
applying-preserved c =
    let commands = c.args.commands.now in
    let at = c.applying.command-index in
    let within : at < length commands = omega arith in
    let command = c.command-item.result in record {
      applied = one_further commands at command within c.command-item.is all_applied apply (λ y ys t. refl) c.applying.tables c.apply_copy.new.tables _ c.in_ok-apply_copy.ensures c.applying.invariant.applied;
      left = holds_behind commands at command within c.command-item.is HasLawfulChange c.applying.invariant.left;
    }
