use Rattle.std.proofs.Common.{◌-◌, ◌≤◌, length}
use Rattle.kept_nodes.specs.Runs.{is_before, name_rank, number}
use Rattle.kept_nodes.proofs.runs.facts_before.Given as goal

-- the number lies between them
abbrev pub invariant-halves : goal.invariant-halves
invariant-halves l = record {
  low : l.low ≤ number (λ fact. is_before l.past (name_rank l.name fact)) l.change.values;
  high : number (λ fact. is_before l.past (name_rank l.name fact)) l.change.values ≤ l.high;
  within : l.high ≤ length l.order;
}

abbrev pub decreases-halves : goal.decreases-halves
decreases-halves l = l.high - l.low
