use Rattle.std.proofs.Common.{◌≡◌, map, take}
use Rattle.wire_catalog.specs.Marks.{resource_mark}
use Rattle.wire_catalog.proofs.marks.are_resources_apart.Given as goal

abbrev pub invariant-loop-resource : goal.invariant-loop-resource
invariant-loop-resource l = l.marks.items ≡ map resource_mark (take l.resource-index l.resources)
