use Rattle.std.proofs.Common.{◌≡◌, ◌++◌, drop}
use Rattle.query_plan.specs.means_spec.Shown.{distinct, distinct_behind}
use Rattle.query_rows.specs.Referred.{selected_of}
use Rattle.level_answers.proofs.shown.distinct.Given as goal

abbrev pub invariant-loop-output : goal.invariant-loop-output
invariant-loop-output l = selected_of l.outputs.items ++ distinct_behind (selected_of l.outputs.items) (drop l.output-index l.shown) ≡ distinct l.shown
