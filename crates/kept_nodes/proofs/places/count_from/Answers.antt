use Rattle.std.proofs.Common.{◌≡◌, ◌∙◌, ◌-◌, length, take, map, ◌++◌, sym, ap, subst, arith}
use Rattle.std.specs.List.{AllByRecursion}
use Rattle.std.specs.List.Sorted.{IsStrictlySortedBy}
use Rattle.std.specs.Vec.{with_items}
use Rattle.std.proofs.lemmas.List.{with_items_is}
use borrow.Rule.Slice.PartMut.{put_mid}
use Rattle.checkpoint_spec.specs.table_machine.Table.{node_cmp}
use Rattle.kept_nodes.specs.Counted.{none, total_from, AreCountedFrom, IsWithin}
use Rattle.kept_nodes.specs.Kept.{IsNode}
use Rattle.kept_nodes.specs.Places.{Boxes, nodes_in, InOrder, recounted}
use Rattle.kept_nodes.specs.Seen.{node_seen}
use Rattle.kept_nodes.proofs.Counting.{within_front}
use Rattle.kept_nodes.proofs.Recounts.{recounted_on, recounted_on-seen, recounted_on-kept, recounted_on-counted, recounted_on-total, total_on, front_in, rest_in, parts_in}
use Rattle.kept_nodes.proofs.places.count_from.Goals as goal

pub rows_in-before-requires-clause-counted : goal.rows_in-before-requires-clause-counted
rows_in-before-requires-clause-counted c =
    subst (AreCountedFrom none) (sym (front_in c.args.nodes.now.items c.deref.result.now c.args.at c.deref.ensures.value)) c.requires.counted

pub rows_in-before-requires-clause-within : goal.rows_in-before-requires-clause-within
rows_in-before-requires-clause-within c =
    subst (λ nodes. IsWithin (total_from none nodes)) (sym (front_in c.args.nodes.now.items c.deref.result.now c.args.at c.deref.ensures.value))
    (within_front (nodes_in c.args.nodes.now.items) c.args.at c.requires.within)

pub recount-requires : goal.recount-requires
recount-requires c =
    let before : c.rows_in-before.result ≡ total_from none (take c.args.at (nodes_in c.args.nodes.now.items)) =
    c.rows_in-before.ensures ∙ ap (total_from none) (front_in c.args.nodes.now.items c.deref.result.now c.args.at c.deref.ensures.value) in
    let rest = rest_in c.args.nodes.now.items c.as_mut_slice.result.now c.args.at c.as_mut_slice.ensures.value in
    subst IsWithin (sym (total_on (nodes_in c.args.nodes.now.items) c.args.at) ∙ (λ i. total_from (sym before i) (sym rest i))) c.requires.within

pub returns : goal.returns
returns c =
    let boxes = c.args.nodes.now.items in
    let old = nodes_in boxes in
    let at = c.args.at in
    let slice : Boxes = c.as_mut_slice.result.now in
    let new : Boxes = put_mid at (length slice - at) slice c.recount.new.nodes in
    let same : length new ≡ c.args.nodes.now.len = omega arith in
    let before : c.rows_in-before.result ≡ total_from none (take c.args.at (nodes_in c.args.nodes.now.items)) =
    c.rows_in-before.ensures ∙ ap (total_from none) (front_in c.args.nodes.now.items c.deref.result.now c.args.at c.deref.ensures.value) in
    let rest = rest_in boxes slice at c.as_mut_slice.ensures.value in
    let nodes : nodes_in (with_items c.args.nodes.now new).items ≡ recounted_on old at =
    ap nodes_in (with_items_is c.args.nodes.now new same)
    ∙ parts_in boxes slice at c.as_mut_slice.ensures.value c.recount.new.nodes
    ∙ ap (λ l. take at old ++ l) (c.recount.ensures.nodes ∙ (λ i. recounted (before i) (rest i))) in
    let total : c.recount.result ≡ total_from none old = c.recount.ensures.total ∙ (λ i. total_from (before i) (rest i)) ∙ total_on old at in
    record {
      seen = ap (map node_seen) nodes ∙ recounted_on-seen old at;
      kept = (
        subst (AllByRecursion IsNode) (sym nodes) (recounted_on-kept old at c.requires.kept),
        subst InOrder (sym nodes) (subst (IsStrictlySortedBy node_cmp) (sym (recounted_on-seen old at)) c.requires.order),
        subst (AreCountedFrom none) (sym nodes) (recounted_on-counted old at c.requires.counted),
        total ∙ sym (recounted_on-total old at) ∙ ap (total_from none) (sym nodes),
        subst IsWithin (sym total) c.requires.within,
      );
    }
