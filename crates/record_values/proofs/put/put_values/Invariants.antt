use Rattle.std.proofs.Common.{◌≡◌, ◌++◌, drop}
use Rattle.std.specs.List.{AllByRecursion, flat_map}
use Rattle.json_read.specs.json_tree.Tree.{jsons}
use Rattle.record_fields.specs.history_spec.Lawful.{IsJson}
use Rattle.record_fields.specs.record_spec.Parts.{json_text, list_text}
use Rattle.record_values.proofs.put.put_values.Given as goal

abbrev pub invariant-loop-value : goal.invariant-loop-value
invariant-loop-value l = record {
  so_far : l.out.items ++ flat_map json_text (jsons (drop l.value-index l.values)) ≡ l.fn.out.items ++ list_text json_text (jsons l.values);
  are : AllByRecursion (IsJson 125) (jsons (drop l.value-index l.values));
}
