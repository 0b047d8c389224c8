use Rattle.std.proofs.Common.{◌≡◌, drop}
use Rattle.json_read.specs.json_tree.Tree.{jsons}
use Rattle.wire_catalog.specs.wire_spec.Table.{object_in, each_from}
use Rattle.wire_catalog.specs.wire_fields.Checks.{checked}
use Rattle.change_reader.proofs.report.are_objects.Given as goal

abbrev pub invariant-loop-json : goal.invariant-loop-json
invariant-loop-json l = record {
  at : l.index ≡ l.json-index;
  rest : checked (each_from l.index (object_in l.field) (jsons (drop l.json-index l.values))) ≡ checked (each_from 0 (object_in l.field) (jsons l.values));
}
