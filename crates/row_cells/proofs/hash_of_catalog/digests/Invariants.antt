use Rattle.std.proofs.Common.{◌≡◌, map, take}
use Rattle.table_spec.specs.Cells.{hash, resource_object}
use Rattle.row_cells.proofs.hash_of_catalog.digests.Given as goal

abbrev pub invariant-loop-resource : goal.invariant-loop-resource
invariant-loop-resource l = l.digests.items ≡ map (λ r. hash (resource_object r.now)) (take l.resource-index l.resources)
