use Rattle.std.proofs.Common.{◌≡◌, ◌++◌, drop, map}
use Rattle.query_plan.specs.query_spec.Parts.{output_name}
use Rattle.query_rows.specs.Referred.{selected_of}
use Rattle.level_answers.proofs.shown.names_of.Given as goal

abbrev pub invariant-loop-output : goal.invariant-loop-output
invariant-loop-output l = l.names ++ map output_name (selected_of (drop l.output-index l.outputs)) ≡ map output_name (selected_of l.outputs)
