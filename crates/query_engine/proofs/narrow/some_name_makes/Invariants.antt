use Rattle.std.proofs.Common.{◌≡◌, drop}
use Rattle.std.specs.List.{list_any}
use Rattle.query_engine.specs.Narrow.{name_makes}
use Rattle.query_engine.proofs.narrow.some_name_makes.Given as goal

abbrev pub invariant-loop-name : goal.invariant-loop-name
invariant-loop-name l = list_any (name_makes l.entity) (drop l.name-index l.group) ≡ list_any (name_makes l.entity) l.group
