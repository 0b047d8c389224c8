use Rattle.std.proofs.Common.{◌≡◌, ◌+◌, ◌*◌, length, drop}
use Rattle.std.specs.Prelude.{option_map}
use Rattle.text_spec.specs.Json.{levels, items_of, members_of, items_levels, members_levels}
use Rattle.text_spec.specs.Compact.{arranged_members}
use Rattle.text_spec.specs.Order.{members_order}
use Rattle.json_tree.specs.Tree.{json_of, jsons, pairs}
use Rattle.json_tree.specs.NextMember.{behind}
use Rattle.json_tree.proofs.ArrangedLaws.{sorted_in}
use Rattle.json_tree.proofs.NextLaws.{in_order}
use Rattle.json_tree.proofs.WalkLaws.{items_by, members_by}
use Rattle.json_tree.proofs.total_order.+order.Given as goal

abbrev pub invariant-items_order-loop-at : goal.invariant-items_order-loop-at
invariant-items_order-loop-at l = items_by (drop l.at l.a) (drop l.at l.b) ≡ items_by l.a l.b

abbrev pub invariant-rising_order-loop-at : goal.invariant-rising_order-loop-at
invariant-rising_order-loop-at l = members_by (drop l.at l.a) (drop l.at l.b) ≡ members_by l.a l.b

abbrev pub invariant-sought_order-keys : goal.invariant-sought_order-keys
invariant-sought_order-keys l =
    members_order (in_order (behind (option_map (λ s. s.now) l.last) (pairs l.a))) (in_order (behind (option_map (λ s. s.now) l.last) (pairs l.b)))
    ≡ members_order (arranged_members (members_of (pairs l.a))) (arranged_members (members_of (pairs l.b)))

abbrev pub decreases-sought_order-keys : goal.decreases-sought_order-keys
decreases-sought_order-keys l = length (sorted_in (behind (option_map (λ s. s.now) l.last) (pairs l.a)))

abbrev pub decreases-order : goal.decreases-order
decreases-order l = 4 * levels (json_of l.a.now)

abbrev pub decreases-items_order : goal.decreases-items_order
decreases-items_order l = 4 * items_levels (items_of (jsons l.a.now)) + 1

abbrev pub decreases-members_order : goal.decreases-members_order
decreases-members_order l = 4 * members_levels (members_of (pairs l.a.now)) + 3

abbrev pub decreases-rising_order : goal.decreases-rising_order
decreases-rising_order l = 4 * members_levels (members_of (pairs l.a.now)) + 2

abbrev pub decreases-sought_order : goal.decreases-sought_order
decreases-sought_order l = 4 * members_levels (members_of (pairs l.a.now)) + 2

abbrev pub decreases-member_order : goal.decreases-member_order
decreases-member_order l = 4 * levels (json_of l.m.now.1) + 1
