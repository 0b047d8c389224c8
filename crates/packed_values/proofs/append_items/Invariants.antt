use Rattle.std.proofs.Common.{◌≡◌, ◌++◌, ◌∷◌, drop, false}
use Rattle.json_read.specs.json_tree.Tree.{jsons}
use Rattle.json_read.specs.text_spec.Json.{items_of}
use Rattle.json_read.specs.text_spec.Compact.{compact_items}
use Rattle.packed_values.proofs.append_items.Given as goal

abbrev pub invariant-writing : goal.invariant-writing
invariant-writing l = l.out.items ++ compact_items l.later (items_of (jsons (drop l.item-index l.items))) ≡ l.fn.out.items ++ 91 ∷ compact_items false (items_of (jsons l.items))
