use Rattle.std.proofs.Common.{◌≡◌, ◌++◌, ◌∷◌, drop, false}
use Rattle.paging_text.specs.Shown.{rows_behind}
use Rattle.paging_text.proofs.write.write_rows.Given as goal

abbrev pub invariant-loop-row : goal.invariant-loop-row
invariant-loop-row l = l.out.items ++ rows_behind l.later l.rows.names (drop l.row-index l.rows.rows) ≡ 91 ∷ rows_behind false l.rows.names l.rows.rows
