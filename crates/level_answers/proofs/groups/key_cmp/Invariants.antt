use Rattle.std.proofs.Common.{◌≡◌, drop}
use Rattle.query_plan.specs.means_spec.Groups.{key_of, cells_cmp}
use Rattle.level_answers.proofs.groups.key_cmp.Given as goal

abbrev pub invariant-loop-column : goal.invariant-loop-column
invariant-loop-column l =
    cells_cmp (key_of l.entity (drop l.column-index l.columns) l.a) (key_of l.entity (drop l.column-index l.columns) l.b)
    ≡ cells_cmp (key_of l.entity l.columns l.a) (key_of l.entity l.columns l.b)
