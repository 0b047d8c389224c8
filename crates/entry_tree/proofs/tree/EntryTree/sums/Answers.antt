use Rattle.entry_tree.specs.Tree.{of_fork}
use Rattle.entry_tree.proofs.Numbers.{few_of}
use Rattle.entry_tree.proofs.tree.EntryTree.sums.Goals as goal

pub returns-clause-few : goal.returns-clause-few
returns-clause-few c = (few_of c.in-Some.fork.now.sums (of_fork c.in-Some.fork.now) c.in-Some.ensures.fork.1.sums c.in-Some.ensures.fork.1.few).0

pub returns-clause-candidates : goal.returns-clause-candidates
returns-clause-candidates c = (few_of c.in-Some.fork.now.sums (of_fork c.in-Some.fork.now) c.in-Some.ensures.fork.1.sums c.in-Some.ensures.fork.1.few).1

pub returns-clause-queued : goal.returns-clause-queued
returns-clause-queued c = (few_of c.in-Some.fork.now.sums (of_fork c.in-Some.fork.now) c.in-Some.ensures.fork.1.sums c.in-Some.ensures.fork.1.few).2
