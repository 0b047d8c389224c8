use Rattle.std.proofs.Common.{◌≡◌, drop}
use Rattle.json_tree.specs.text_spec.Json.{items_of}
use Rattle.json_tree.specs.Tree.{jsons}
use Rattle.query_spec.specs.Ast.{orders_at}
use Rattle.ast_parts.specs.Gives.{with_front}
use Rattle.ast_parts.proofs.page.orders.Given as goal

abbrev pub invariant-loop-json : goal.invariant-loop-json
invariant-loop-json l = record {
  at : l.at ≡ l.json-index;
  same : with_front l.found (orders_at l.place l.at (items_of (jsons (drop l.json-index l.list)))) ≡ orders_at l.place 0 (items_of (jsons l.list));
}
