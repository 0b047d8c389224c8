use Rattle.std.proofs.Common.{◌≡◌, ◌*◌, ◌+◌, ◌++◌, drop}
use Rattle.fleet_rows.specs.json_tree.Arranged.{placed}
use Rattle.fleet_rows.specs.json_tree.Tree.{json_of, jsons}
use Rattle.fleet_rows.specs.text_spec.Compact.{arranged_items, arranged_members}
use Rattle.fleet_rows.specs.text_spec.Json.{items_of, members_of, levels, items_levels, members_levels}
use Rattle.fact_paths.specs.Leaves.{item_leaves, member_leaves}
use Rattle.fact_paths.specs.Steps.{steps_of}
use Rattle.fact_paths.specs.Under.{rows_under}
use Rattle.fact_paths.proofs.walk.+walk.Given as goal

abbrev pub invariant-walk_items-loop-index : goal.invariant-walk_items-loop-index
invariant-walk_items-loop-index l = record {
  rows : l.rows ++ rows_under l.fact (steps_of l.fn.path.items) (item_leaves l.index (arranged_items (items_of (jsons (drop l.index l.list)))))
      ≡ l.fn.rows ++ rows_under l.fact (steps_of l.fn.path.items) (item_leaves 0 (arranged_items (items_of (jsons l.list))));
  path : l.path.items ≡ l.fn.path.items;
}

abbrev pub invariant-walk_members-loop-member : goal.invariant-walk_members-loop-member
invariant-walk_members-loop-member l = record {
  rows : l.rows ++ rows_under l.fact (steps_of l.fn.path.items) (member_leaves (placed (drop l.member-index l.member-items)))
      ≡ l.fn.rows ++ rows_under l.fact (steps_of l.fn.path.items) (member_leaves (arranged_members (members_of l.members)));
  path : l.path.items ≡ l.fn.path.items;
}

abbrev pub decreases-walk : goal.decreases-walk
decreases-walk l = 2 * levels (json_of l.value.now)

abbrev pub decreases-walk_items : goal.decreases-walk_items
decreases-walk_items l = 2 * items_levels (items_of (jsons l.list.now)) + 1

abbrev pub decreases-walk_members : goal.decreases-walk_members
decreases-walk_members l = 2 * members_levels (members_of l.members.now) + 1
