use Rattle.std.proofs.Common.{◌≡◌, arith}
use Rattle.entry_tree.proofs.MiddleLaws.{get_left, get_right, get_here}
use Rattle.entry_tree.proofs.tree.EntryTree.+get.Goals as goal

pub returns-then-receipt-here : goal.returns-then-receipt-here
returns-then-receipt-here t c =
    let f = c.in-Some.fork.now in
    get_left c.args.receipt c.args.self.now f.left f.waiting f.right _ c.in-Some.ensures.fork.0 c.in-Some.ensures.fork.1.rises c.if-receipt-here.true c.get.ensures

pub returns-then-here-receipt : goal.returns-then-here-receipt
returns-then-here-receipt t c =
    let f = c.in-Some.fork.now in
    get_right c.args.receipt c.args.self.now f.left f.waiting f.right _ c.in-Some.ensures.fork.0 c.in-Some.ensures.fork.1.rises c.if-here-receipt.true c.get-then-here-receipt.ensures

pub returns-else-here-receipt : goal.returns-else-here-receipt
returns-else-here-receipt t c =
    let f = c.in-Some.fork.now in
    let same : c.args.receipt ≡ f.waiting.entry.receipt = omega (arith, c.if-receipt-here.false, c.if-here-receipt.false) in
    get_here c.args.receipt c.args.self.now f.left f.waiting f.right c.in-Some.ensures.fork.0 c.in-Some.ensures.fork.1.rises same
