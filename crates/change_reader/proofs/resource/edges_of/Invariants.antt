use Rattle.std.proofs.Common.{◌≡◌}
use Rattle.change_reader.specs.Changes.{edge_at}
use Rattle.record_values.specs.Lists.{items_at}
use Rattle.record_values.proofs.Lists.{behind}
use Rattle.change_reader.proofs.resource.edges_of.Given as goal

abbrev pub invariant-reading : goal.invariant-reading
invariant-reading l = behind l.done (items_at edge_at l.left l.rest) ≡ items_at edge_at l.count l.bytes

abbrev pub decreases-reading : goal.decreases-reading
decreases-reading l = l.left
