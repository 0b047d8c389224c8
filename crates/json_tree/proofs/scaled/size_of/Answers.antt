use Rattle.std.proofs.Common.{◌∙◌, ap, subst, ◌+◌, ◌++◌, length, if◌then◌else◌}
use Rattle.std.specs.Str.Parse.{digits_value}
use Rattle.json_tree.specs.Scaled.{scaled_size, IsCut}
use Rattle.json_tree.proofs.ScaledLaws.{much_is_left, cut_is, cut_odd}
use Rattle.json_tree.proofs.scaled.size_of.Goals as goal

pub size_left-requires-clause-odd : goal.size_left-requires-clause-odd
size_left-requires-clause-odd c =
    let total = digits_value 10 (c.args.whole.now ++ c.args.fraction.now) in
    let zeros = c.without_zeros-value.result.1 in
    cut_odd total c.in-Some.n zeros (subst (λ o. IsCut total o zeros) c.in-Some.is c.without_zeros-value.ensures.cut)

pub returns-in-Some-clause-size : goal.returns-in-Some-clause-size
returns-in-Some-clause-size c =
    let a = c.args in
    let total = digits_value 10 (a.whole.now ++ a.fraction.now) in
    let zeros = c.without_zeros-value.result.1 in
    let e = digits_value 10 a.exponent.now in
    let up = if a.lowered then 0 else e in
    let down = (if a.lowered then e else 0) + length a.fraction.now in
    c.size_left.ensures.size
    ∙ ap (λ n. scaled_size n up down) (cut_is total c.in-Some.n zeros (subst (λ o. IsCut total o zeros) c.in-Some.is c.without_zeros-value.ensures.cut))

pub returns-in-None-clause-size : goal.returns-in-None-clause-size
returns-in-None-clause-size c =
    let a = c.args in
    much_is_left (digits_value 10 (a.whole.now ++ a.fraction.now)) c.without_zeros-value.result.1 _ _ (subst (λ o. IsCut (digits_value 10 (a.whole.now ++ a.fraction.now)) o c.without_zeros-value.result.1) c.in-None.is c.without_zeros-value.ensures.cut)
