use Rattle.std.proofs.Common.{◌≡◌, ◌<◌, arith}
use Rattle.entry_tree.specs.Waits.{candidate_number}
use Rattle.entry_tree.proofs.Numbers.{first_on_the_left, first_in_the_middle, first_on_the_right}
use Rattle.entry_tree.proofs.tree.EntryTree.+first.Goals as goal

pub returns-then-candidates-gt0 : goal.returns-then-candidates-gt0
returns-then-candidates-gt0 t c =
    let f = c.in-Some.fork.now in
    let some : 0 < candidate_number f.left = grind (arith, c.candidates.ensures) in
    first_on_the_left c.args.self.now f.left f.waiting f.right c.first.result c.in-Some.ensures.fork.0 some c.first.ensures

pub returns-then-fork : goal.returns-then-fork
returns-then-fork t c =
    let f = c.in-Some.fork.now in
    let none : candidate_number f.left ≡ 0 = grind (arith, c.candidates.ensures) in
    first_in_the_middle c.args.self.now f.left f.waiting f.right c.in-Some.ensures.fork.0 none c.if-fork.true

pub returns-else-fork : goal.returns-else-fork
returns-else-fork t c =
    let f = c.in-Some.fork.now in
    let none : candidate_number f.left ≡ 0 = grind (arith, c.candidates.ensures) in
    first_on_the_right c.args.self.now f.left f.waiting f.right c.first-else-fork.result c.in-Some.ensures.fork.0 none c.if-fork.false c.first-else-fork.ensures
