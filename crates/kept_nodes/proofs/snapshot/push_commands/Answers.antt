use Rattle.std.proofs.Common.{◌∙◌, ◌<◌, ◌++◌, length, ap, arith}
use Rattle.std.specs.List.{flat_map}
use Rattle.checkpoint_spec.specs.Lists.{commands_of}
use Rattle.kept_nodes.specs.Places.{seen_in}
use Rattle.kept_nodes.specs.Seen.{node_seen}
use Rattle.kept_nodes.specs.declared.node.Node.{Node}
use Rattle.kept_nodes.proofs.SnapshotLaws.{node_flat}
use Rattle.kept_nodes.proofs.snapshot.push_commands.Goals as goal

pub listing-preserved : goal.listing-preserved
listing-preserved c =
    let boxes = c.args.nodes.now in
    let at = c.listing.node-index in
    let so_far = c.listing.commands in
    let within : at < length boxes = omega arith in
    node_flat so_far c.push.new.commands (c.args.commands.now ++ flat_map commands_of (seen_in boxes)) boxes at c.node-item.result within c.node-item.is commands_of
    (c.in_ok-push.ensures ∙ ap (λ (n : Node). so_far ++ commands_of (node_seen n)) c.deref.ensures) c.listing.invariant
