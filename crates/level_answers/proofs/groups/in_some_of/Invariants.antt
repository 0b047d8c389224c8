use Rattle.std.proofs.Common.{◌≡◌, drop}
use Rattle.std.specs.List.{list_any}
use Rattle.query_plan.specs.means_spec.Groups.{key_of, in_one_group}
use Rattle.query_rows.specs.Referred.{rows_of}
use Rattle.level_answers.proofs.groups.in_some_of.Given as goal

abbrev pub invariant-loop-first : goal.invariant-loop-first
invariant-loop-first l = list_any (in_one_group (key_of l.entity l.columns) l.row) (rows_of (drop l.first-index l.begun)) ≡ list_any (in_one_group (key_of l.entity l.columns) l.row) (rows_of l.begun)
