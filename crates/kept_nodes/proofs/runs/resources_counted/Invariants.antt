use Rattle.std.proofs.Common.{◌≡◌, take}
use Rattle.kept_nodes.specs.Runs.{is_before, number, resource_rank}
use Rattle.kept_nodes.specs.Wanted.{text_in}
use Rattle.kept_nodes.proofs.runs.resources_counted.Given as goal

abbrev pub invariant-resources : goal.invariant-resources
invariant-resources l = l.before ≡ number (λ resource. is_before l.past (resource_rank l.rtype (text_in l.title) resource)) (take l.at l.resources)
