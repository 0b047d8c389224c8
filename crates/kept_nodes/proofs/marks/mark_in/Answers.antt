use Rattle.std.proofs.Common.{◌≡◌, ◌∙◌, ◌≤◌, length, map, take, refl, sym, ap, subst, arith, Ok, Err}
use Rattle.std.specs.List.{insert, AllByRecursion}
use Rattle.std.specs.declared.alloc.Global.{Global}
use Rattle.std.specs.declared.boxed.Box.{Box}
use Rattle.std.proofs.Math.ListN.{set}
use Rattle.std.proofs.lemmas.List.Edits.{length-insert}
use Rattle.kept_nodes.specs.Seen.{with_activity}
use Rattle.kept_nodes.specs.Counted.{counts}
use Rattle.kept_nodes.specs.Kept.{IsNode}
use Rattle.kept_nodes.specs.Places.{nodes_in, seen_in, IsPlaceOf}
use Rattle.kept_nodes.specs.Seen.{node_seen}
use Rattle.kept_nodes.specs.declared.node.Node.{Node}
use Rattle.kept_nodes.proofs.Counting.{numbers_kept}
use Rattle.kept_nodes.proofs.FoundNodes.{box_kept, moved, place_within, put_absent}
use Rattle.kept_nodes.proofs.PutNodes.{seen_there, seen_changed, kept_changed, node_there, map-insert, take-insert, all-insert}
use Rattle.kept_nodes.proofs.marks.mark_in.Goals as goal

pub know-requires-clause-kept : goal.know-requires-clause-kept
know-requires-clause-kept c =
    let boxes = c.args.nodes.now.items in
    let within = place_within boxes c.requires.order (seen_in boxes) refl c.as_slice.result.now c.as_slice.ensures.value c.as_str.result.now c.args.certname.now c.as_str.ensures c.in-Ok.at c.in-Ok.ensures in
    box_kept boxes c.in-Ok.at c.index_mut.result.now c.deref_mut.result.now c.requires.kept within c.index_mut.ensures.value c.deref_mut.ensures.value

pub returns-in-Ok-clause-seen : goal.returns-in-Ok-clause-seen
returns-in-Ok-clause-seen c =
    let boxes = c.args.nodes.now.items in
    let at = c.in-Ok.at in
    let node = c.deref_mut.result.now in
    let name = c.args.certname.now in
    let within = place_within boxes c.requires.order (seen_in boxes) refl c.as_slice.result.now c.as_slice.ensures.value c.as_str.result.now name c.as_str.ensures at c.in-Ok.ensures in
    let place = moved boxes c.requires.order (seen_in boxes) refl c.as_slice.result.now c.as_slice.ensures.value c.as_str.result.now name c.as_str.ensures (Ok at) c.in-Ok.ensures in
    let there = seen_there boxes at c.index_mut.result.now node within c.index_mut.ensures.value c.deref_mut.ensures.value in
    seen_changed boxes at c.index_mut.result.now c.know.new.self
    ∙ ap (set (seen_in boxes) at) c.know.ensures.seen
    ∙ sym ((node_there name (nodes_in boxes) at c.requires.order place (node_seen node) there).1 (with_activity c.args.active))

pub returns-in-Ok-clause-kept : goal.returns-in-Ok-clause-kept
returns-in-Ok-clause-kept c =
    kept_changed c.args.nodes.now.items c.in-Ok.at c.index_mut.result.now c.know.new.self c.requires.kept c.know.ensures.kept

pub returns-in-Ok-clause-counted : goal.returns-in-Ok-clause-counted
returns-in-Ok-clause-counted c =
    let boxes = c.args.nodes.now.items in
    let within = place_within boxes c.requires.order (seen_in boxes) refl c.as_slice.result.now c.as_slice.ensures.value c.as_str.result.now c.args.certname.now c.as_str.ensures c.in-Ok.at c.in-Ok.ensures in
    numbers_kept boxes c.in-Ok.at c.index_mut.result.now c.know.new.self c.index_mut.ensures.value within
    (c.know.ensures.before ∙ ap (λ (n : Node). n.before) c.deref_mut.ensures.value)
    (c.know.ensures.counts ∙ ap counts c.deref_mut.ensures.value)

pub returns-in_ok-insert-in-Err-clause-seen : goal.returns-in_ok-insert-in-Err-clause-seen
returns-in_ok-insert-in-Err-clause-seen c =
    let boxes = c.args.nodes.now.items in
    let at = c.in-Err.at in
    let name = c.args.certname.now in
    let node = c.in_ok-node-in-Err.node in
    let place = moved boxes c.requires.order (seen_in boxes) refl c.as_slice.result.now c.as_slice.ensures.value c.as_str.result.now name c.as_str.ensures (Err at) c.in-Err.ensures in
    let items : c.insert.new.self.items ≡ insert boxes at node = c.in_ok-insert-in-Err.ensures.items in
    ap seen_in items
    ∙ ap (map node_seen) (map-insert (λ (b : Box Node Global). b.value) boxes at node)
    ∙ map-insert node_seen (nodes_in boxes) at node.value
    ∙ ap (insert (seen_in boxes) at) c.in_ok-node-in-Err.ensures.seen
    ∙ sym (put_absent name (with_activity c.args.active) (nodes_in boxes) at place.1 place.2)

pub returns-in_ok-insert-in-Err-clause-kept : goal.returns-in_ok-insert-in-Err-clause-kept
returns-in_ok-insert-in-Err-clause-kept c =
    let boxes = c.args.nodes.now.items in
    let node = c.in_ok-node-in-Err.node in
    let items : c.insert.new.self.items ≡ insert boxes c.in-Err.at node = c.in_ok-insert-in-Err.ensures.items in
    subst (AllByRecursion IsNode) (sym (ap nodes_in items ∙ map-insert (λ (b : Box Node Global). b.value) boxes c.in-Err.at node))
    (all-insert IsNode (nodes_in boxes) c.in-Err.at node.value c.requires.kept c.in_ok-node-in-Err.ensures.kept)

pub returns-in_ok-insert-in-Err-clause-counted : goal.returns-in_ok-insert-in-Err-clause-counted
returns-in_ok-insert-in-Err-clause-counted c =
    let boxes = c.args.nodes.now.items in
    let at = c.in-Err.at in
    let node = c.in_ok-node-in-Err.node in
    let place : IsPlaceOf c.args.certname.now (nodes_in boxes) (Err at) =
    moved boxes c.requires.order (seen_in boxes) refl c.as_slice.result.now c.as_slice.ensures.value c.as_str.result.now c.args.certname.now c.as_str.ensures (Err at) c.in-Err.ensures in
    let items : c.insert.new.self.items ≡ insert boxes at node = c.in_ok-insert-in-Err.ensures.items in
    let list = ap nodes_in items ∙ map-insert (λ (b : Box Node Global). b.value) boxes at node in (
      subst (λ ns. at ≤ length ns) (sym list) (omega (arith, length-insert (nodes_in boxes) at node.value place.0, place.0)),
      ap (take at) list ∙ take-insert (nodes_in boxes) at node.value place.0,
    )
