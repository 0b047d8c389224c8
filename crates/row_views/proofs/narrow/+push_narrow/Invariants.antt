use Rattle.std.proofs.Common.{length}
use Rattle.row_views.proofs.narrow.+push_narrow.Given as goal

abbrev pub decreases-push_narrow : goal.decreases-push_narrow
decreases-push_narrow l = length l.flags.now
