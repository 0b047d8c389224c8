use Rattle.std.proofs.Common.{◌≡◌, ◌≤◌, ◌+◌, ◌*◌, ◌++◌, length, take, drop, false}
use Rattle.std.specs.Prelude.{All}
use Rattle.std.specs.Io.{StartsWith}
use Rattle.text_spec.specs.Json.{levels, items_of, members_of, items_levels, members_levels}
use Rattle.text_spec.specs.Compact.{compact_items, compact_members, arranged_items, arranged_members}
use Rattle.json_tree.specs.Tree.{json_of, jsons, pairs}
use Rattle.json_tree.specs.Arranged.{placed}
use Rattle.json_tree.proofs.canonical_text.+put.Given as goal

abbrev pub invariant-put_items-loop-item : goal.invariant-put_items-loop-item
invariant-put_items-loop-item l = record {
  text : l.out.items ++ compact_items l.later (arranged_items (items_of (jsons (drop l.item-index l.list)))) ≡ l.fn.out.items ++ compact_items false (arranged_items (items_of (jsons l.list)));
  appends : StartsWith l.out.items l.fn.out.items;
  order : l.order.items ≡ l.fn.order.items;
}

abbrev pub invariant-put_members-loop-at : goal.invariant-put_members-loop-at
invariant-put_members-loop-at l = record {
  end : l.end ≡ length l.order.items;
  start : l.start ≡ length l.fn.order.items;
  from : l.start ≤ l.at;
  before : take l.start l.order.items ≡ l.fn.order.items;
  levels : All (λ m. levels (json_of m.now.1) ≤ members_levels (members_of (pairs l.list))) (drop l.start l.order.items);
  text : l.out.items ++ compact_members l.later (placed (drop l.at l.order.items)) ≡ l.fn.out.items ++ compact_members false (arranged_members (members_of (pairs l.list)));
  appends : StartsWith l.out.items l.fn.out.items;
}

abbrev pub decreases-put : goal.decreases-put
decreases-put l = 2 * levels (json_of l.json.now)

abbrev pub decreases-put_items : goal.decreases-put_items
decreases-put_items l = 2 * items_levels (items_of (jsons l.list.now)) + 1

abbrev pub decreases-put_members : goal.decreases-put_members
decreases-put_members l = 2 * members_levels (members_of (pairs l.list.now)) + 1
