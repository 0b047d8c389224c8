use Rattle.std.proofs.Common.{◌≡◌, drop}
use Rattle.query_plan.specs.query_spec.Check.{has_output}
use Rattle.query_rows.specs.Referred.{selected_of}
use Rattle.level_answers.proofs.shown.has_output.Given as goal

abbrev pub invariant-loop-output : goal.invariant-loop-output
invariant-loop-output l = has_output (selected_of (drop l.output-index l.outputs)) l.name ≡ has_output (selected_of l.outputs) l.name
