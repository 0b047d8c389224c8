use Rattle.std.proofs.Common.{◌≡◌, ◌∙◌, ◌<◌, ◌≤◌, ◌+◌, ◌-◌, ◌*◌, ◌^◌, arith, sym, ap}
use Rattle.json_tree.specs.Scaled.{if_small}
use Rattle.json_tree.proofs.ScaledLaws.{size_whole, size_part}
use Rattle.json_tree.proofs.scaled.placed.Goals as goal

pub returns-then-tens-down-clause-size : goal.returns-then-tens-down-clause-size
returns-then-tens-down-clause-size c =
    let a = c.args in
    let few : a.zeros + (a.up + 18) < a.down = omega (arith, c.if-tens-down.true) in
    sym (size_part a.n a.zeros a.up a.down few c.requires.odd)

pub returns-else-tens-down-clause-size : goal.returns-else-tens-down-clause-size
returns-else-tens-down-clause-size c =
    let a = c.args in
    let enough : a.down ≤ a.zeros + (a.up + 18) = omega (arith, c.if-tens-down.false) in
    let same : a.zeros + a.up + 18 - a.down ≡ a.zeros + (a.up + 18) - a.down = omega arith in
    c.raised.ensures.size ∙ ap (λ k. if_small (a.n * 10 ^ k)) same ∙ sym (size_whole a.n a.zeros a.up a.down enough)
