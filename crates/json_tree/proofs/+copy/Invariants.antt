use Rattle.std.proofs.Common.{◌≡◌, ◌++◌, drop}
use Rattle.json_tree.specs.Tree.{jsons, pairs}
use Rattle.json_tree.proofs.+copy.Given as goal

abbrev pub invariant-copy::copy_items-loop-item : goal.invariant-copy::copy_items-loop-item
invariant-copy::copy_items-loop-item l = jsons l.copied.items ++ jsons (drop l.item-index l.list) ≡ jsons l.list

abbrev pub invariant-copy::copy_members-loop-member : goal.invariant-copy::copy_members-loop-member
invariant-copy::copy_members-loop-member l = pairs l.copied.items ++ pairs (drop l.member-index l.list) ≡ pairs l.list
