use Rattle.std.proofs.Common.{◌∙◌, ◌-◌, sym, arith}
use Rattle.json_tree.proofs.WalkLaws.{rises_end}
use Rattle.json_tree.proofs.total_order.rises.Goals as goal

pub returns : goal.returns
returns c =
    sym (rises_end c.args.list.now (c.loop-at.at - 1) (omega (arith, c.loop-at-test.false, c.loop-at.auto.at, c.loop-at.auto.at-end)))
    ∙ c.loop-at.invariant
