use Rattle.std.proofs.Common.{◌≡◌, arith}
use Rattle.json_tree.proofs.ScaledLaws.{digits-take, cut_behind, cut_before}
use Rattle.json_tree.proofs.scaled.without_zeros.Goals as goal

pub joined-requires-clause-fraction : goal.joined-requires-clause-fraction
joined-requires-clause-fraction c = digits-take c.args.fraction.now c.trimmed-kept.result c.requires.fraction

pub value_after-requires-clause-digits : goal.value_after-requires-clause-digits
value_after-requires-clause-digits c = digits-take c.args.whole.now c.trimmed-front.result c.requires.whole

pub returns-then-kept-gt0-clause-cut : goal.returns-then-kept-gt0-clause-cut
returns-then-kept-gt0-clause-cut c = cut_behind c.args.whole.now c.args.fraction.now c.trimmed-kept.result c.trimmed-kept.ensures.zeros c.joined.result c.if-kept-gt0.true c.trimmed-kept.ensures.last c.joined.ensures

pub returns-clause-cut : goal.returns-clause-cut
returns-clause-cut c =
    let none : c.trimmed-kept.result ≡ 0 = omega (arith, c.if-kept-gt0.false) in
    cut_before c.args.whole.now c.args.fraction.now c.trimmed-kept.result c.trimmed-kept.ensures.zeros c.value_after.result c.trimmed-front.result none c.trimmed-front.ensures.zeros c.trimmed-front.ensures.last c.value_after.ensures
