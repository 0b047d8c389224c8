use Rattle.std.proofs.Common.{◌<◌, arith, sym}
use Rattle.std.specs.Str.Parse.{digits_value}
use Rattle.json_tree.proofs.ScaledLaws.{nothing_is_left, odd_left, far_exponent}
use Rattle.json_tree.proofs.scaled.size_left.Goals as goal

pub returns-then-n-eq0-clause-size : goal.returns-then-n-eq0-clause-size
returns-then-n-eq0-clause-size c = nothing_is_left c.args.n c.args.zeros _ _ c.if-n-eq0.true

pub returns-in-None-clause-size : goal.returns-in-None-clause-size
returns-in-None-clause-size c =
    let a = c.args in
    let some : 0 < a.n = omega (arith, c.if-n-eq0.false) in
    sym (far_exponent a.lowered a.n a.zeros (digits_value 10 a.exponent.now) a.behind some (odd_left a.n some c.requires.odd) c.requires.zeros c.ranges.behind.fits c.in-None.ensures)
