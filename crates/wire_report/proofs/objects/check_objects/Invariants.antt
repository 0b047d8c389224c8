use Rattle.std.proofs.Common.{◌≡◌, drop}
use Rattle.wire_fields.specs.json_tree.Tree.{jsons}
use Rattle.wire_fields.specs.wire_spec.Table.{object_in, each_from}
use Rattle.wire_fields.specs.Checks.{checked}
use Rattle.wire_report.proofs.objects.check_objects.Given as goal

abbrev pub invariant-loop-json : goal.invariant-loop-json
invariant-loop-json l = record {
  at : l.index ≡ l.json-index;
  rest : checked (each_from l.index (object_in l.field) (jsons (drop l.json-index l.values))) ≡ checked (each_from 0 (object_in l.field) (jsons l.values));
}
