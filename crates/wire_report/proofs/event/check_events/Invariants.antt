use Rattle.std.proofs.Common.{◌≡◌, drop}
use Rattle.wire_fields.specs.json_tree.Tree.{jsons}
use Rattle.wire_fields.specs.wire_spec.Table.{event, each_from}
use Rattle.wire_fields.specs.Checks.{checked}
use Rattle.wire_report.proofs.event.check_events.Given as goal

abbrev pub invariant-loop-json : goal.invariant-loop-json
invariant-loop-json l = record {
  at : l.within ≡ l.json-index;
  rest : checked (each_from l.within (event l.index) (jsons (drop l.json-index l.events))) ≡ checked (each_from 0 (event l.index) (jsons l.events));
}
