use Rattle.std.proofs.Common.{◌≡◌, ◌++◌, drop, map}
use Rattle.row_views.specs.Narrow.{shown_as}
use Rattle.row_views.proofs.rows.views_of.Given as goal

abbrev pub invariant-loop-row : goal.invariant-loop-row
invariant-loop-row l = l.views.items ++ map (shown_as l.narrow l.entity) (drop l.row-index l.rows) ≡ map (shown_as l.narrow l.entity) l.rows
