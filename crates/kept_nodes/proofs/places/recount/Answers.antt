use Rattle.std.proofs.Common.{◌≡◌, ◌∙◌, ◌<◌, ◌+◌, ◌++◌, length, take, drop, get_or, sym, ap, subst, arith}
use Rattle.std.specs.declared.alloc.Global.{Global}
use Rattle.std.specs.declared.boxed.Box.{Box}
use Rattle.std.specs.Box.{with_value}
use Rattle.std.specs.List.{slice_index_or}
use Rattle.std.proofs.Math.ListN.{set}
use Rattle.std.proofs.lemmas.List.{map-set, length-map}
use Rattle.kept_nodes.specs.Counted.{plus, counts, total_from, IsWithin}
use Rattle.kept_nodes.specs.Places.{nodes_in, recounted}
use Rattle.kept_nodes.specs.declared.node.Node.{Node}
use Rattle.kept_nodes.proofs.NodePlaces.{box_at}
use Rattle.kept_nodes.proofs.Counting.{recounted_more, total_from_more, within_next}
use Rattle.kept_nodes.proofs.places.recount.Goals as goal

pub plus-before-requires : goal.plus-before-requires
plus-before-requires c =
    let items = c.loop-node.node-items in
    let i = c.loop-node.node-index in
    let b = c.node-item.result in
    let within : i < length items = omega arith in
    let all : IsWithin (total_from c.loop-node.before (drop i (nodes_in items))) = subst IsWithin (sym c.loop-node.invariant.total) c.requires in
    let next : IsWithin (plus c.loop-node.before (counts b.value)) = within_next c.loop-node.before items i b within c.node-item.is all in
    let same : c.counts.result ≡ counts b.value = c.counts.ensures ∙ ap counts c.deref.ensures ∙ ap counts c.deref_mut.ensures.value ∙ ap (λ (x : Box Node Global). counts x.value) (sym c.node-item.is) in
    record { within = subst (λ more. IsWithin (plus c.loop-node.before more)) (sym same) next }

pub loop-node-preserved : goal.loop-node-preserved
loop-node-preserved c =
    let items = c.loop-node.node-items in
    let i = c.loop-node.node-index in
    let b = c.node-item.result in
    let before = c.loop-node.before in
    let within : i < length (nodes_in items) = omega (arith, length-map items (λ (x : Box Node Global). x.value)) in
    let is : get_or (nodes_in items) i b.value ≡ b.value = box_at items i b (omega arith) c.node-item.is in
    let value : c.deref_mut.result.now ≡ b.value = c.deref_mut.ensures.value ∙ ap (λ (x : Box Node Global). x.value) (sym c.node-item.is) in
    let change : nodes_in (set items i (with_value (slice_index_or items i b) (record c.deref_mut.result.now { before = before }))) ≡ set (nodes_in items) i (record b.value { before = before }) =
    map-set (λ (x : Box Node Global). x.value) items i (with_value (slice_index_or items i b) (record c.deref_mut.result.now { before = before })) ∙ ap (λ (n : Node). set (nodes_in items) i (record n { before = before })) value in
    let same : c.counts.result ≡ counts b.value = c.counts.ensures ∙ ap counts c.deref.ensures ∙ ap counts value in
    let more : c.plus-before.result ≡ plus before (counts b.value) = c.plus-before.ensures ∙ ap (plus before) same in
    record {
      nodes = (λ j. take (i + 1) (change j) ++ recounted (more j) (drop (i + 1) (change j))) ∙ recounted_more before (nodes_in items) i b.value within is ∙ c.loop-node.invariant.nodes;
      total = (λ j. total_from (more j) (drop (i + 1) (change j))) ∙ total_from_more before (nodes_in items) i b.value within is ∙ c.loop-node.invariant.total;
    }
