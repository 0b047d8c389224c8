use Rattle.std.proofs.Common.{◌≡◌, drop, max}
use Rattle.json_tree.specs.Tree.{jsons, pairs}
use Rattle.text_spec.specs.Json.{items_of, members_of, items_levels, members_levels}
use Rattle.json_tree.proofs.depth.+levels.Given as goal

abbrev pub invariant-items_levels-loop-item : goal.invariant-items_levels-loop-item
invariant-items_levels-loop-item l = max l.most (items_levels (items_of (jsons (drop l.item-index l.list)))) ≡ items_levels (items_of (jsons l.list))

abbrev pub invariant-members_levels-loop-member : goal.invariant-members_levels-loop-member
invariant-members_levels-loop-member l = max l.most (members_levels (members_of (pairs (drop l.member-index l.list)))) ≡ members_levels (members_of (pairs l.list))
