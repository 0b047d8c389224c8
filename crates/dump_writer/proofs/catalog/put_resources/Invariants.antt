use Rattle.std.proofs.Common.{◌≡◌, ◌++◌, ◌∷◌, drop, map, false}
use Rattle.dump_laws.specs.dump_spec.text_spec.Json.{items_of}
use Rattle.dump_laws.specs.dump_spec.text_spec.Compact.{compact_items}
use Rattle.dump_laws.specs.dump_spec.Payloads.{resource_value}
use Rattle.dump_writer.proofs.catalog.put_resources.Given as goal

abbrev pub invariant-loop-resource : goal.invariant-loop-resource
invariant-loop-resource l = l.out.items ++ compact_items l.later (items_of (map resource_value (drop l.resource-index l.resources))) ≡ l.fn.out.items ++ 91 ∷ compact_items false (items_of (map resource_value l.resources))
