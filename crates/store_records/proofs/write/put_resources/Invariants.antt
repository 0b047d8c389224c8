use Rattle.std.proofs.Common.{◌≡◌, ◌++◌, drop}
use Rattle.std.specs.List.{AllByRecursion, flat_map}
use Rattle.record_fields.specs.history_spec.Lawful.{IsResource}
use Rattle.record_fields.specs.record_spec.Parts.{list_text}
use Rattle.record_fields.specs.record_spec.Changes.{resource_text}
use Rattle.store_records.proofs.write.put_resources.Given as goal

abbrev pub invariant-loop-resource : goal.invariant-loop-resource
invariant-loop-resource l = record {
  so_far : l.out.items ++ flat_map resource_text (drop l.resource-index l.resources) ≡ l.fn.out.items ++ list_text resource_text l.resources;
  are : AllByRecursion IsResource (drop l.resource-index l.resources);
}
