use Rattle.std.proofs.Common.{length}
use Rattle.row_views.proofs.seen.+seen_among.Given as goal

abbrev pub decreases-seen_among : goal.decreases-seen_among
decreases-seen_among l = length l.columns.now
