use Rattle.std.proofs.Common.{◌≡◌, map, take}
use Rattle.row_cells.proofs.order.member_places.Given as goal

abbrev pub invariant-loop-item : goal.invariant-loop-item
invariant-loop-item l = l.order.items ≡ map (λ p. p.0) (take l.item-index l.list)
