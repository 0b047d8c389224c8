use Rattle.std.proofs.Common.{◌≡◌, drop}
use Rattle.std.specs.List.{list_any}
use Rattle.means_spec.specs.Means.{is_state}
use Rattle.query_plan.proofs.plan.some_state.Given as goal

abbrev pub invariant-loop-field : goal.invariant-loop-field
invariant-loop-field l = list_any is_state (drop l.field-index l.fields) ≡ list_any is_state l.fields
