use Rattle.std.proofs.Common.{◌≡◌, map, take, Some}
use Rattle.std.specs.Prelude.{All, slice_get}
use Rattle.row_cells.proofs.order.numbered.Given as goal

abbrev pub invariant-loop-at : goal.invariant-loop-at
invariant-loop-at g l = record {
  items : map (λ p. p.1.now) l.order.items ≡ take l.at l.list;
  places : All (λ p. slice_get l.list p.0 ≡ Some p.1.now) l.order.items;
}
