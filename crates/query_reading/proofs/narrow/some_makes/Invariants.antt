use Rattle.std.proofs.Common.{◌≡◌, drop}
use Rattle.std.specs.List.{list_any}
use Rattle.query_reading.specs.Narrow.{field_makes}
use Rattle.query_reading.proofs.narrow.some_makes.Given as goal

abbrev pub invariant-loop-field : goal.invariant-loop-field
invariant-loop-field l = list_any (field_makes l.entity) (drop l.field-index l.fields) ≡ list_any (field_makes l.entity) l.fields
