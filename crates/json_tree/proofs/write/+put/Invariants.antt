use Rattle.std.proofs.Common.{◌≡◌, ◌++◌, drop, false}
use Rattle.std.specs.Io.{StartsWith}
use Rattle.json_tree.specs.Tree.{jsons, pairs}
use Rattle.text_spec.specs.Json.{items_of, members_of}
use Rattle.text_spec.specs.Compact.{compact_items, compact_members}
use Rattle.json_tree.proofs.write.+put.Given as goal

abbrev pub invariant-put_items-loop-item : goal.invariant-put_items-loop-item
invariant-put_items-loop-item l = record {
  text : l.out.items ++ compact_items l.later (items_of (jsons (drop l.item-index l.list))) ≡ l.fn.out.items ++ compact_items false (items_of (jsons l.list));
  appends : StartsWith l.out.items l.fn.out.items;
}

abbrev pub invariant-put_members-loop-member : goal.invariant-put_members-loop-member
invariant-put_members-loop-member l = record {
  text : l.out.items ++ compact_members l.later (members_of (pairs (drop l.member-index l.list))) ≡ l.fn.out.items ++ compact_members false (members_of (pairs l.list));
  appends : StartsWith l.out.items l.fn.out.items;
}
