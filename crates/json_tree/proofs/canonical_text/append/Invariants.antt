use Rattle.std.proofs.Common.{◌≡◌, length, map, take, drop}
use Rattle.json_tree.proofs.canonical_text.append.Given as goal

abbrev pub invariant-loop-member : goal.invariant-loop-member
invariant-loop-member l = record {
  before : take (length l.fn.order.items) l.order.items ≡ l.fn.order.items;
  members : map (λ m. m.now) (drop (length l.fn.order.items) l.order.items) ≡ take l.member-index l.list;
}
