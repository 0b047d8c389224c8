use Rattle.std.proofs.Common.{length}
use Rattle.entry_tree.proofs.edits.+without.Given as goal

abbrev pub decreases-without : goal.decreases-without
decreases-without l = length l.tree
