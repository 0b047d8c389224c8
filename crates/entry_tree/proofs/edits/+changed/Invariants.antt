use Rattle.std.proofs.Common.{length}
use Rattle.entry_tree.proofs.edits.+changed.Given as goal

abbrev pub decreases-changed : goal.decreases-changed
decreases-changed l = length l.tree
