use Rattle.std.proofs.Common.{◌≡◌, ◌∙◌, sym, arith, true, false}
use Rattle.json_read.specs.json_tree.Tree.{json_of}
use Rattle.paging_params.specs.Paging.{is_of_order}
use Rattle.paging_params.proofs.OrderReads.{other_here, no_other_here}
use Rattle.paging_params.proofs.order.has_no_other.Goals as goal

pub returns-then-not-is_of_order : goal.returns-then-not-is_of_order
returns-then-not-is_of_order c =
    let other : is_of_order c.pair.result.0.now ≡ false = grind (arith, c.if-not-is_of_order.true, c.if-not-is_of_order.ensures, c.is_of_order.ensures, c.as_str.ensures) in
    sym (other_here c.args.members.now c.members.at (c.pair.result.0.now, json_of c.pair.result.1.now) c.pair.ensures.pair other) ∙ c.members.invariant.same

pub members-preserved : goal.members-preserved
members-preserved c =
    let same : is_of_order c.pair.result.0.now ≡ true = grind (arith, c.if-not-is_of_order.false, c.if-not-is_of_order.ensures, c.is_of_order.ensures, c.as_str.ensures) in
    record {
      within = omega (arith, c.members-test.true, c.len.ensures);
      same = sym (no_other_here c.args.members.now c.members.at (c.pair.result.0.now, json_of c.pair.result.1.now) c.pair.ensures.pair same) ∙ c.members.invariant.same;
    }
