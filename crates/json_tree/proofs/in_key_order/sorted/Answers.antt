use Rattle.std.proofs.Common.{◌≡◌, ◌∙◌, sym, ap, subst, length, take, drop, ◌++◌, map}
use Rattle.std.specs.List.Sorted.{IsPermutation}
use Rattle.std.proofs.Math.Seq.{take-append_seam}
use Rattle.std.proofs.lemmas.List.Sorted.{length_permutation}
use Rattle.text_spec.specs.Json.{members_of}
use Rattle.json_tree.specs.Arranged.{pair_by}
use Rattle.json_tree.proofs.ArrangedLaws.{in_key_order_lem}
use Rattle.json_tree.proofs.in_key_order.sorted.Goals as goal

pub returns : goal.returns
returns c =
    let part = c.sort_part.new.part in
    let items = c.in_ok-order.order.items in
    let moved : IsPermutation items part = subst (λ xs. IsPermutation xs part) c.as_mut_slice.ensures.value c.sort_part.ensures.permutation in
    let size : c.in_ok-order.order.len ≡ length part =
    sym c.as_mut_slice.ensures.len ∙ ap length c.as_mut_slice.ensures.value ∙ sym (length_permutation items part moved) in
    let whole : take c.in_ok-order.order.len (part ++ drop (length part) items) ≡ part =
    ap (λ n. take n (part ++ drop (length part) items)) size ∙ take-append_seam part (drop (length part) items) in
    ap (λ xs. members_of (map (pair_by (λ j. j)) xs)) whole
    ∙ in_key_order_lem c.args.list.now items part c.in_ok-order.ensures moved c.sort_part.ensures.sorted c.requires
