use Rattle.std.proofs.Common.{◌≡◌, ◌++◌, drop}
use Rattle.std.specs.Prelude.{filter}
use Rattle.query_plan.specs.means_spec.Groups.{key_of, in_one_group}
use Rattle.query_rows.specs.Referred.{rows_of}
use Rattle.level_answers.proofs.groups.rows_like.Given as goal

abbrev pub invariant-loop-row : goal.invariant-loop-row
invariant-loop-row l = rows_of l.found.items ++ filter (in_one_group (key_of l.entity l.columns) l.first) (rows_of (drop l.row-index l.rows)) ≡ filter (in_one_group (key_of l.entity l.columns) l.first) (rows_of l.rows)
