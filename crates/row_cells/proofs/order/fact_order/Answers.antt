use Rattle.std.proofs.Common.{◌∙◌, ap, map, Some, rules}
use Rattle.std.specs.Ordering.{is_lt}
use Rattle.std.proofs.lemmas.List.Sorted.{ranks_by, answers_always}
use Rattle.std.proofs.lemmas.Result.{IfOk-weaker}
use Rattle.row_cells.specs.Placed.{name_cmp, member_at}
use Rattle.row_cells.proofs.CmpLaws.{name_total}
use Rattle.row_cells.proofs.SortedLaws.{places_lem, sorted-by_name}
use Rattle.row_cells.proofs.order.fact_order.Goals as goal

pub returns : goal.returns
returns c =
    let weak = ranks_by name_total (λ p. member_at p) in
    let by = answers_always _ _ _ (λ f a r g h. search rules) in
    let sorted = c.in_ok-sort_by.ensures.sorted (λ x y. is_lt (name_cmp (member_at x) (member_at y))) weak by in
    let stable = c.in_ok-sort_by.ensures.stable (λ x y. is_lt (name_cmp (member_at x) (member_at y))) weak by in
    IfOk-weaker c.member_places.result _ _ (λ v is.
    places_lem (λ p. member_at p) name_cmp name_total _ (λ p. p.0) _ c.sort_by.new.self.items v.items c.in_ok-order.ensures.items c.in_ok-order.ensures.places
    c.in_ok-sort_by.ensures.permutation sorted stable (is ∙ ap (map (λ p. p.0)) c.as_slice.ensures.value)
    ∙ ap (map (λ x. Some x)) (sorted-by_name c.args.members.now)) c.member_places.ensures
