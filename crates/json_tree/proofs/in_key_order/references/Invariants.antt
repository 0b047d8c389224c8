use Rattle.std.proofs.Common.{◌≡◌, map, take}
use Rattle.json_tree.proofs.in_key_order.references.Given as goal

abbrev pub invariant-loop-member : goal.invariant-loop-member
invariant-loop-member l = map (λ m. m.now) l.order.items ≡ take l.member-index l.list
