use Rattle.std.proofs.Common.{◌∙◌, ◌<◌, ◌++◌, ◌∷◌, [], length, map, ap, arith}
use Rattle.checkpoint_spec.specs.Lists.{mark_of}
use Rattle.kept_nodes.specs.Places.{seen_in}
use Rattle.kept_nodes.specs.Seen.{node_seen}
use Rattle.kept_nodes.specs.declared.node.Node.{Node}
use Rattle.kept_nodes.proofs.SnapshotLaws.{node_mapped}
use Rattle.kept_nodes.proofs.snapshot.push_marks.Goals as goal

pub listing-preserved : goal.listing-preserved
listing-preserved c =
    let boxes = c.args.nodes.now in
    let at = c.listing.node-index in
    let so_far = c.listing.marks in
    let within : at < length boxes = omega arith in
    node_mapped so_far c.push.new.self (c.args.marks.now ++ map mark_of (seen_in boxes)) boxes at c.node-item.result within c.node-item.is mark_of
    (c.in_ok-push.ensures.ok ∙ ap (λ m. so_far ++ m ∷ []) (c.in_ok-mark.ensures ∙ ap (λ (n : Node). mark_of (node_seen n)) c.deref.ensures)) c.listing.invariant
