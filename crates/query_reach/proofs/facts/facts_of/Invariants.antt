use Rattle.std.proofs.Common.{◌≡◌, ◌++◌, drop}
use Rattle.query_plan.specs.Made.{steps_of}
use Rattle.query_reach.specs.Pins.{steps_facts}
use Rattle.query_reach.specs.Seen.{texts_seen}
use Rattle.query_reach.proofs.facts.facts_of.Given as goal

abbrev pub invariant-walking : goal.invariant-walking
invariant-walking l = texts_seen l.names.items ++ steps_facts (steps_of (drop l.step-index l.steps)) ≡ steps_facts (steps_of l.steps)
