use Rattle.std.proofs.Common.{◌≡◌, ◌+◌, drop}
use Rattle.json_tree.specs.text_spec.Json.{items_of}
use Rattle.json_tree.specs.Tree.{jsons}
use Rattle.query_spec.specs.Ast.{paging_at}
use Rattle.query_spec.specs.Parts.{unpaged}
use Rattle.ast_parts.proofs.page.paging.Given as goal

abbrev pub invariant-loop-json : goal.invariant-loop-json
invariant-loop-json l = record {
  at : l.at ≡ l.from + l.json-index;
  same : paging_at l.place l.at l.found (items_of (jsons (drop l.json-index l.list))) ≡ paging_at l.place l.from unpaged (items_of (jsons l.list));
}
