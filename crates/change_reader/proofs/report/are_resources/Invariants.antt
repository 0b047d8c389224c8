use Rattle.std.proofs.Common.{◌≡◌, drop}
use Rattle.std.specs.List.{AllByRecursion}
use Rattle.json_read.specs.json_tree.Tree.{jsons}
use Rattle.wire_catalog.specs.wire_spec.Table.{report_resource, each_from}
use Rattle.wire_catalog.specs.wire_fields.Checks.{checked}
use Rattle.record_fields.specs.history_spec.Lawful.{IsJson}
use Rattle.change_reader.proofs.report.are_resources.Given as goal

abbrev pub invariant-loop-json : goal.invariant-loop-json
invariant-loop-json l = record {
  at : l.index ≡ l.json-index;
  are : AllByRecursion (IsJson 125) (jsons (drop l.json-index l.values));
  rest : checked (each_from l.index report_resource (jsons (drop l.json-index l.values))) ≡ checked (each_from 0 report_resource (jsons l.values));
}
