use Rattle.std.proofs.Common.{◌+◌, length}
use Rattle.entry_tree.proofs.joins.+joined.Given as goal

abbrev pub decreases-joined : goal.decreases-joined
decreases-joined l = length l.low + length l.high
