use Rattle.std.proofs.Common.{length}
use Rattle.core_compact.proofs.Nodes.{IsUnder}
use Rattle.core_compact.proofs.store.push_own.Given as goal

abbrev pub invariant-taking : goal.invariant-taking
invariant-taking l = IsUnder l.certname l.initial.records l.initial.left.items l.records l.left.items

abbrev pub decreases-taking : goal.decreases-taking
decreases-taking l = length l.left.items
