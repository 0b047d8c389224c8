use Rattle.std.proofs.Common.{◌≡◌, drop}
use Rattle.fleet_rows.specs.json_tree.Tree.{json_of}
use Rattle.fact_paths.specs.Leaves.{value_at}
use Rattle.fact_paths.specs.Steps.{along}
use Rattle.fact_paths.proofs.names.value_along.Given as goal

abbrev pub invariant-loop-name : goal.invariant-loop-name
invariant-loop-name l = value_at (along (drop l.name-index l.path)) (json_of l.reached) ≡ value_at (along l.path) (json_of l.fn.value)
