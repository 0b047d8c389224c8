use Rattle.std.proofs.Common.{◌≡◌, ℕ, ◌+◌, drop, length, sym, ap, subst, ◌∙◌, arith}
use Rattle.std.proofs.Math.Seq.{drop-length}
use Rattle.core_opening.specs.Opened.{greatest_of, IsGreatest}
use Rattle.core_opening.proofs.Maxima.{drop_get, greatest_is}
use Rattle.core_opening.proofs.greatest.greatest.Goals as goal

pub passing-preserved : goal.passing-preserved
passing-preserved c =
    let es = c.args.pending.now in
    ap (λ (n : ℕ). greatest_of n (drop (c.passing.at + 1) es)) c.max-most.ensures
    ∙ sym (ap (greatest_of c.passing.most) (drop_get es c.passing.at c.at.result.now c.at.ensures)) ∙ c.passing.invariant

pub returns-clause-greatest : goal.returns-clause-greatest
returns-clause-greatest c =
    let es = c.args.pending.now in
    let all : c.passing.at ≡ length es = omega (arith, c.passing-test.false, c.passing.auto.at-end, c.count-at-end.ensures.count) in
    let behind = ap (λ (n : ℕ). drop n es) all ∙ drop-length es in
    let most : greatest_of c.args.last es ≡ c.passing.most = sym c.passing.invariant ∙ ap (greatest_of c.passing.most) behind in
    subst (IsGreatest c.args.last es) most (greatest_is c.args.last es)
