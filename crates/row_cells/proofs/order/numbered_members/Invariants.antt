use Rattle.std.proofs.Common.{◌≡◌, map, take, Some}
use Rattle.std.specs.Prelude.{All, slice_get}
use Rattle.row_cells.specs.Placed.{member_at}
use Rattle.row_cells.proofs.order.numbered_members.Given as goal

abbrev pub invariant-loop-at : goal.invariant-loop-at
invariant-loop-at l = record {
  items : map member_at l.order.items ≡ take l.at l.members;
  places : All (λ p. slice_get l.members p.0 ≡ Some (member_at p)) l.order.items;
}
