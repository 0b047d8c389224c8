use Rattle.std.proofs.Common.{◌≡◌}
use Rattle.row_views.proofs.rows.lines_of.Given as goal

abbrev pub invariant-making : goal.invariant-making
invariant-making l = l.lines ≡ l.yielded
