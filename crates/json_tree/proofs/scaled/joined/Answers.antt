use Rattle.json_tree.proofs.ScaledLaws.{joined_some, joined_none}
use Rattle.json_tree.proofs.scaled.joined.Goals as goal

pub returns-in-Some : goal.returns-in-Some
returns-in-Some c = joined_some c.value_after-in-Some.result c.args.whole.now c.args.fraction.now c.in-Some.front c.in-Some.ensures.0 c.value_after-in-Some.ensures

pub returns-in-None : goal.returns-in-None
returns-in-None c = joined_none c.args.whole.now c.args.fraction.now c.in-None.ensures
