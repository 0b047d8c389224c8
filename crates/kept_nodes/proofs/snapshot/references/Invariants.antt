use Rattle.std.proofs.Common.{◌≡◌, map, take}
use Rattle.kept_nodes.proofs.snapshot.references.Given as goal

abbrev pub invariant-loop-at : goal.invariant-loop-at
invariant-loop-at l = map (λ r. r.now) l.referred.items ≡ take l.at l.reports
