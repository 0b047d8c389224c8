use Rattle.std.proofs.Common.{◌≡◌, take}
use Rattle.kept_nodes.specs.Runs.{is_before, name_rank, number}
use Rattle.kept_nodes.proofs.runs.facts_counted.Given as goal

abbrev pub invariant-facts : goal.invariant-facts
invariant-facts l = l.before ≡ number (λ fact. is_before l.past (name_rank l.name fact)) (take l.at l.values)
