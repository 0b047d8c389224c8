-- Each measure is twice the levels that are left, and a number by which a call within one value falls.
use Rattle.std.proofs.Common.{◌≡◌, ◌+◌, ◌*◌, ◌-◌, ◌≤◌, ◌++◌, [], drop}
use Rattle.json_tree.specs.text_spec.Json.{items_of, items_list, members_of, settled, levels, items_levels, members_levels}
use Rattle.json_tree.specs.Tree.{json_of, jsons, pairs}
use Rattle.same_text.specs.Alike.{alike_items, alike_members}
use Rattle.same_text.proofs.alike.+alike.Given as goal

abbrev pub decreases-alike : goal.decreases-alike
decreases-alike l = 2 * levels (json_of l.json.now)

abbrev pub decreases-alike_items : goal.decreases-alike_items
decreases-alike_items l = 2 * items_levels (items_of l.items.now) + 1

abbrev pub decreases-alike_members : goal.decreases-alike_members
decreases-alike_members l = 2 * members_levels (members_of l.members.now) + 1

abbrev pub invariant-alike_items-loop-item : goal.invariant-alike_items-loop-item
invariant-alike_items-loop-item l = l.made ++ items_list (alike_items (items_of (jsons (drop l.item-index l.list)))) ≡ items_list (alike_items (items_of (jsons l.list)))

abbrev pub invariant-alike_members-members : goal.invariant-alike_members-members
invariant-alike_members-members l =
    record {
      set : settled [] (pairs l.list.items) ≡ alike_members (members_of (drop (l.count - l.i) l.members));
      levels : members_levels (members_of (pairs l.list.items)) ≤ 126;
    }
