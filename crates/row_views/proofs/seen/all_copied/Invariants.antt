use Rattle.std.proofs.Common.{◌≡◌, ◌++◌, drop, map}
use Rattle.row_views.specs.Seen.{seen_value}
use Rattle.row_views.proofs.seen.all_copied.Given as goal

abbrev pub invariant-loop-seen : goal.invariant-loop-seen
invariant-loop-seen l = l.cells ++ map seen_value (drop l.seen-index l.row) ≡ map seen_value l.row
