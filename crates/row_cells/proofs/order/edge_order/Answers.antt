use Rattle.std.proofs.Common.{◌∙◌, ap, map, rules}
use Rattle.std.specs.Ordering.{is_lt}
use Rattle.std.proofs.lemmas.List.Sorted.{ranks_by, answers_always}
use Rattle.std.proofs.lemmas.Result.{IfOk-weaker}
use Rattle.table_spec.specs.Sorted.{edge_cmp}
use Rattle.row_cells.proofs.CmpLaws.{edge_total}
use Rattle.row_cells.proofs.SortedLaws.{places_lem}
use Rattle.row_cells.proofs.order.edge_order.Goals as goal

pub returns : goal.returns
returns c =
    let weak = ranks_by edge_total (λ p. p.1.now) in
    let by = answers_always _ _ _ (λ f a r g h. search rules) in
    let sorted = c.in_ok-sort_by.ensures.sorted (λ x y. is_lt (edge_cmp x.1.now y.1.now)) weak by in
    let stable = c.in_ok-sort_by.ensures.stable (λ x y. is_lt (edge_cmp x.1.now y.1.now)) weak by in
    IfOk-weaker c.places.result _ _ (λ v is.
    places_lem (λ p. p.1.now) edge_cmp edge_total _ (λ p. p.0) _ c.sort_by.new.self.items v.items c.in_ok-order.ensures.items c.in_ok-order.ensures.places
    c.in_ok-sort_by.ensures.permutation sorted stable (is ∙ ap (map (λ p. p.0)) c.as_slice.ensures.value)) c.places.ensures
