use Rattle.std.proofs.Common.{length}
use Rattle.row_views.proofs.narrow.+is_referred_among.Given as goal

abbrev pub decreases-is_referred_among : goal.decreases-is_referred_among
decreases-is_referred_among l = length l.flags.now
