use Rattle.std.proofs.Common.{◌≡◌, drop}
use Rattle.query_reading.specs.Narrow.{steps_make}
use Rattle.query_reading.proofs.narrow.steps_make.Given as goal

abbrev pub invariant-loop-ready : goal.invariant-loop-ready
invariant-loop-ready l = steps_make l.entity (drop l.ready-index l.steps) ≡ steps_make l.entity l.steps
