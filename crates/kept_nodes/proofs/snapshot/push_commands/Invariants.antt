use Rattle.std.proofs.Common.{◌≡◌, ◌++◌, drop}
use Rattle.std.specs.List.{flat_map}
use Rattle.checkpoint_spec.specs.Lists.{commands_of}
use Rattle.kept_nodes.specs.Places.{seen_in}
use Rattle.kept_nodes.proofs.snapshot.push_commands.Given as goal

abbrev pub invariant-listing : goal.invariant-listing
invariant-listing l = l.commands ++ flat_map commands_of (seen_in (drop l.node-index l.nodes)) ≡ l.initial.commands ++ flat_map commands_of (seen_in l.nodes)
