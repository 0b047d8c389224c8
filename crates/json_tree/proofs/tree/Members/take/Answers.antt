use Rattle.json_tree.specs.Tree.{pairs}
use Rattle.json_tree.proofs.KeptLaws.{without-kept, taken-shallow}
use Rattle.json_tree.proofs.tree.Members.take.Goals as goal

pub invariant_of-self : goal.invariant_of-self
invariant_of-self c = without-kept c.args.name.now c.self.inside.list.items c.take_from.new.list.items c.take_from.ensures.others c.self.invariant

pub returns-clause-shallow : goal.returns-clause-shallow
returns-clause-shallow c = taken-shallow c.args.name.now (pairs c.self.inside.list.items) c.take_from.result c.take_from.ensures.value c.self.invariant.0
