use Rattle.std.proofs.Common.{◌≡◌, [], drop}
use Rattle.json_read.specs.text_spec.Json.{items_of}
use Rattle.json_read.specs.json_tree.Tree.{jsons}
use Rattle.query_spec.specs.Ast.{selection_at}
use Rattle.ast_reader.proofs.shown.selection.Given as goal

abbrev pub invariant-loop-json : goal.invariant-loop-json
invariant-loop-json l = record {
  at : l.at ≡ l.json-index;
  same : selection_at l.place l.at l.found (items_of (jsons (drop l.json-index l.list))) ≡ selection_at l.place 0 [] (items_of (jsons l.list));
}
