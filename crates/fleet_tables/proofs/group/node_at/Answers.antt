use Rattle.std.proofs.Common.{◌≡◌, ◌∙◌, length, map, take, Ok, Err, refl, sym, ap, subst}
use Rattle.std.specs.List.{insert, AllByRecursion}
use Rattle.std.specs.declared.alloc.Global.{Global}
use Rattle.std.specs.declared.boxed.Box.{Box}
use Rattle.checkpoint_spec.specs.table_machine.Steps.{find_node}
use Rattle.kept_nodes.specs.Kept.{IsNode}
use Rattle.kept_nodes.specs.Places.{nodes_in, seen_in, IsPlaceOf, IsNodeFor}
use Rattle.kept_nodes.specs.Seen.{node_seen}
use Rattle.kept_nodes.specs.declared.node.Node.{Node}
use Rattle.kept_nodes.proofs.FoundNodes.{moved, place_absent}
use Rattle.kept_nodes.proofs.PutNodes.{node_there, node_put, map-insert, take-insert, all-insert}
use Rattle.fleet_tables.proofs.GroupRooms.{new_for, has_new}
use Rattle.fleet_tables.proofs.group.node_at.Goals as goal

pub unreachable-requires : goal.unreachable-requires
unreachable-requires c =
    let boxes = c.args.nodes.now.items in
    let absent = place_absent boxes c.requires.order (seen_in boxes) refl c.as_slice.result.now c.as_slice.ensures.value c.as_str.result.now c.args.certname.now c.as_str.ensures c.in-Err.at c.in-Err.ensures in
    has_new c.args.new (find_node c.args.certname.now (seen_in boxes)) c.args.certname.now (length (seen_in boxes)) c.in-None.is absent c.requires.new

pub returns-in-Ok-clause-node : goal.returns-in-Ok-clause-node
returns-in-Ok-clause-node c =
    let boxes = c.args.nodes.now.items in
    node_there c.args.certname.now (nodes_in boxes) c.in-Ok.at c.requires.order
    (moved boxes c.requires.order (seen_in boxes) refl c.as_slice.result.now c.as_slice.ensures.value c.as_str.result.now c.args.certname.now c.as_str.ensures (Ok c.in-Ok.at) c.in-Ok.ensures)

pub returns-in-Some-clause-node : goal.returns-in-Some-clause-node
returns-in-Some-clause-node c =
    let boxes = c.args.nodes.now.items in
    let at = c.in-Err.at in
    let new = c.in-Some.new in
    let absent = place_absent boxes c.requires.order (seen_in boxes) refl c.as_slice.result.now c.as_slice.ensures.value c.as_str.result.now c.args.certname.now c.as_str.ensures at c.in-Err.ensures in
    let place = moved boxes c.requires.order (seen_in boxes) refl c.as_slice.result.now c.as_slice.ensures.value c.as_str.result.now c.args.certname.now c.as_str.ensures (Err at) c.in-Err.ensures in
    let is_new = new_for c.args.new new (find_node c.args.certname.now (seen_in boxes)) c.args.certname.now (length (seen_in boxes)) c.in-Some.is absent c.requires.new in
    let list : nodes_in c.insert_in_room.new.list.items ≡ insert (nodes_in boxes) at new.node.value = ap nodes_in c.insert_in_room.ensures ∙ map-insert (λ (b : Box Node Global). b.value) boxes at new.node in
    subst (λ ns. IsNodeFor c.args.certname.now (seen_in boxes) (map node_seen ns) at) (sym list) (node_put c.args.certname.now (nodes_in boxes) at new.node.value place is_new.0)

pub returns-in-Some-clause-kept : goal.returns-in-Some-clause-kept
returns-in-Some-clause-kept c =
    let boxes = c.args.nodes.now.items in
    let at = c.in-Err.at in
    let new = c.in-Some.new in
    let absent = place_absent boxes c.requires.order (seen_in boxes) refl c.as_slice.result.now c.as_slice.ensures.value c.as_str.result.now c.args.certname.now c.as_str.ensures at c.in-Err.ensures in
    let is_new = new_for c.args.new new (find_node c.args.certname.now (seen_in boxes)) c.args.certname.now (length (seen_in boxes)) c.in-Some.is absent c.requires.new in
    let list : nodes_in c.insert_in_room.new.list.items ≡ insert (nodes_in boxes) at new.node.value = ap nodes_in c.insert_in_room.ensures ∙ map-insert (λ (b : Box Node Global). b.value) boxes at new.node in
    subst (AllByRecursion IsNode) (sym list) (all-insert IsNode (nodes_in boxes) at new.node.value c.requires.kept is_new.1)

pub returns-in-Some-clause-before : goal.returns-in-Some-clause-before
returns-in-Some-clause-before c =
    let boxes = c.args.nodes.now.items in
    let at = c.in-Err.at in
    let place : IsPlaceOf c.args.certname.now (nodes_in boxes) (Err at) =
    moved boxes c.requires.order (seen_in boxes) refl c.as_slice.result.now c.as_slice.ensures.value c.as_str.result.now c.args.certname.now c.as_str.ensures (Err at) c.in-Err.ensures in
    let list : nodes_in c.insert_in_room.new.list.items ≡ insert (nodes_in boxes) at c.in-Some.new.node.value = ap nodes_in c.insert_in_room.ensures ∙ map-insert (λ (b : Box Node Global). b.value) boxes at c.in-Some.new.node in
    ap (take at) list ∙ take-insert (nodes_in boxes) at c.in-Some.new.node.value place.0
