use Rattle.std.proofs.Common.{◌≡◌}
use Rattle.record_fields.specs.Reading.{text_at}
use Rattle.record_values.specs.Lists.{items_at}
use Rattle.record_values.proofs.Lists.{behind}
use Rattle.record_values.proofs.list.names_of.Given as goal

abbrev pub invariant-reading : goal.invariant-reading
invariant-reading l = behind l.done (items_at text_at l.left l.rest) ≡ items_at text_at l.count l.bytes

abbrev pub decreases-reading : goal.decreases-reading
decreases-reading l = l.left
