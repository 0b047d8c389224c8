use Rattle.std.proofs.Common.{◌≡◌, ◌++◌, drop, map, true}
use Rattle.row_views.specs.Narrow.{shown_as}
use Rattle.row_views.proofs.rows.narrow_lines.Given as goal

abbrev pub invariant-loop-row : goal.invariant-loop-row
invariant-loop-row l = l.lines ++ map (shown_as true l.entity) (drop l.row-index l.rows) ≡ map (shown_as true l.entity) l.rows
