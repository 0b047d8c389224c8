use Rattle.std.proofs.Common.{◌-◌, ◌≤◌, length}
use Rattle.kept_nodes.specs.Runs.{is_before, number, resource_rank}
use Rattle.kept_nodes.specs.Wanted.{text_in}
use Rattle.kept_nodes.proofs.runs.resources_before.Given as goal

-- the number lies between them
abbrev pub invariant-halves : goal.invariant-halves
invariant-halves l = record {
  low : l.low ≤ number (λ resource. is_before l.past (resource_rank l.rtype (text_in l.title) resource)) l.resources;
  high : number (λ resource. is_before l.past (resource_rank l.rtype (text_in l.title) resource)) l.resources ≤ l.high;
  within : l.high ≤ length l.order;
}

abbrev pub decreases-halves : goal.decreases-halves
decreases-halves l = l.high - l.low
