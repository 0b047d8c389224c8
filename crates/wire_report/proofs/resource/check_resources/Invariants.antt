use Rattle.std.proofs.Common.{◌≡◌, ◌+◌, ◌<◌, ◌^◌, drop}
use Rattle.wire_fields.specs.json_tree.Tree.{jsons}
use Rattle.wire_fields.specs.wire_spec.Table.{report_resource, each_from}
use Rattle.wire_fields.specs.Checks.{checked}
use Rattle.wire_fields.proofs.of_wire_spec.CountedLaws.{listed}
use Rattle.wire_report.proofs.resource.check_resources.Given as goal

abbrev pub invariant-loop-json : goal.invariant-loop-json
invariant-loop-json l = record {
  room : l.index + listed (jsons (drop l.json-index l.resources)) < 2 ^ 32;
  rest : checked (each_from l.index report_resource (jsons (drop l.json-index l.resources))) ≡ checked (each_from 0 report_resource (jsons l.resources));
}
