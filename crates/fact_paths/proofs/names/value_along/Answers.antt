use Rattle.std.proofs.Common.{arith}
use Rattle.fleet_rows.specs.json_tree.Tree.{json_of}
use Rattle.fact_paths.specs.Leaves.{value_at}
use Rattle.fact_paths.specs.Steps.{along}
use Rattle.fact_paths.proofs.NameLaws.{goes_on, ends_early, at_end}
use Rattle.fact_paths.proofs.names.value_along.Goals as goal

pub loop-name-preserved : goal.loop-name-preserved
loop-name-preserved c =
    goes_on c.args.path.now (json_of c.loop-name.reached.now) (value_at (along c.args.path.now) (json_of c.args.value.now)) c.loop-name.name-index _ (json_of c.in-Some.value.now) (omega arith) c.in-Some.ensures c.loop-name.invariant

pub returns-in-None : goal.returns-in-None
returns-in-None c =
    ends_early c.args.path.now (json_of c.loop-name.reached.now) (value_at (along c.args.path.now) (json_of c.args.value.now)) c.loop-name.name-index _ (omega arith) c.in-None.ensures c.loop-name.invariant

pub returns : goal.returns
returns c =
    at_end c.args.path.now (json_of c.loop-name.reached.now) (value_at (along c.args.path.now) (json_of c.args.value.now)) c.loop-name.name-index (omega arith) c.loop-name.invariant
