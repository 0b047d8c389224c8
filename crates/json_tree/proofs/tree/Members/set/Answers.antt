use Rattle.json_tree.specs.Tree.{json_of}
use Rattle.json_tree.proofs.KeptLaws.{set-kept}
use Rattle.json_tree.proofs.tree.Members.set.Goals as goal

pub invariant_of-self : goal.invariant_of-self
invariant_of-self c = set-kept c.args.key (json_of c.args.value) c.set_in.result c.self.inside.list.items c.set_in.new.list.items c.set_in.ensures.ok c.set_in.ensures.err c.requires c.self.invariant
