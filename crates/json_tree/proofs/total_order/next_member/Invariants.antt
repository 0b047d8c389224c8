use Rattle.std.proofs.Common.{◌≡◌, None, drop}
use Rattle.std.specs.Prelude.{option_map}
use Rattle.json_tree.specs.Tree.{pair, pairs}
use Rattle.json_tree.specs.NextMember.{next_from}
use Rattle.json_tree.proofs.total_order.next_member.Given as goal

abbrev pub invariant-loop-member : goal.invariant-loop-member
invariant-loop-member l =
    next_from (option_map (λ s. s.now) l.last) (option_map (λ m. pair m.now) l.next) (pairs (drop l.member-index l.list))
    ≡ next_from (option_map (λ s. s.now) l.last) None (pairs l.list)
