use Rattle.std.proofs.Common.{◌≡◌, ◌++◌, drop}
use Rattle.query_rows.specs.Referred.{rows_of}
use Rattle.level_answers.proofs.groups.all_of.Given as goal

abbrev pub invariant-loop-row : goal.invariant-loop-row
invariant-loop-row l = rows_of l.found.items ++ drop l.row-index l.rows ≡ l.rows
