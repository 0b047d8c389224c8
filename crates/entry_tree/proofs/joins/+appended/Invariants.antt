use Rattle.std.proofs.Common.{length}
use Rattle.entry_tree.proofs.joins.+appended.Given as goal

abbrev pub decreases-appended : goal.decreases-appended
decreases-appended l = length l.tree
