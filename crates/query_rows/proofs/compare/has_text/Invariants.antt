use Rattle.std.proofs.Common.{◌≡◌, drop}
use Rattle.std.specs.List.{list_any}
use Rattle.same_text.specs.text_spec.Json.{string}
use Rattle.same_text.specs.text_spec.Order.{same}
use Rattle.same_text.specs.json_tree.Tree.{jsons}
use Rattle.query_rows.proofs.compare.has_text.Given as goal

abbrev pub invariant-loop-item : goal.invariant-loop-item
invariant-loop-item l = list_any (same (string l.text)) (jsons (drop l.item-index l.items)) ≡ list_any (same (string l.text)) (jsons l.items)
