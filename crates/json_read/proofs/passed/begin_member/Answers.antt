use Rattle.std.proofs.Common.{◌≡◌, ◌∙◌, ◌<◌, ◌∷◌, ◌++◌, length, refl, sym, subst, arith}
use Rattle.std.specs.Prelude.{slice_index}
use Rattle.json_machine.specs.Machine.{in_object, value, colon}
use Rattle.json_read.specs.Passed.{IsStack}
use Rattle.json_read.proofs.Stacks.{stack_push, colon_passed}
use Rattle.json_read.proofs.passed.begin_member.Goals as goal

pub returns-clause-value : goal.returns-clause-value
returns-clause-value c = λ base fs ms k s.
    let at = c.skip-at.result in
    let within : at < length c.args.bytes.now = omega (arith, c.skip-at.ensures.bounds, c.if-at-bytes.false) in
    let is : slice_index c.args.bytes.now at ≡ 58 = omega (arith, c.if-bytes-at-ne58.false) in (
      in_object ms k ∷ fs,
      value,
      subst (λ ks. IsStack ks (in_object ms k ∷ fs)) (sym c.in_ok-push.ensures.items) (stack_push c.args.kinds.now.items fs (in_object ms k) s),
      refl,
      c.skip-at.ensures.same (fs ++ base) (colon ms k) (λ n gs b h. rw h refl) ∙ colon_passed c.args.bytes.now (fs ++ base) ms k at within is,
    )
