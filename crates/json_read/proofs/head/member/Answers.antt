use Rattle.std.proofs.Common.{◌∙◌, ◌<◌, [], length, refl, sym, ap, subst, arith}
use Rattle.json_machine.specs.Machine.{next_key}
use Rattle.json_machine.proofs.Verdicts.{by_key}
use Rattle.json_read.specs.Found.{Faulted}
use Rattle.json_read.specs.HeadSteps.{MemberFound}
use Rattle.json_read.proofs.Steps.{err_key}
use Rattle.json_read.proofs.HeadLaws.{quoted_key}
use Rattle.json_read.proofs.head.member.Goals as goal

pub returns-in-Ok-clause-value : goal.returns-in-Ok-clause-value
returns-in-Ok-clause-value c = λ ms.
    let at = c.skip-at.result in
    let within : at < length c.args.bytes.now = omega (arith, c.skip-at.ensures.bounds, c.if-at-bytes.false) in
    subst (MemberFound c.args.bytes.now ms c.with_key.result)
    (sym (c.skip-at.ensures.same [] (next_key ms) (λ n fs b h. rw h refl)
    ∙ quoted_key c.args.bytes.now [] ms at within (omega (arith, c.if-bytes-at-ne34.false))
    ∙ ap (by_key 127 [] ms) c.in-Ok.ensures.value))
    (c.with_key.ensures.value c.args.bytes.now ms _ (c.member_value.ensures.value ms c.in-Ok.key))

pub returns-in-Err-clause-value : goal.returns-in-Err-clause-value
returns-in-Err-clause-value c = λ ms.
    let at = c.skip-at.result in
    let within : at < length c.args.bytes.now = omega (arith, c.skip-at.ensures.bounds, c.if-at-bytes.false) in
    subst (Faulted c.in-Err.fault)
    (sym (c.skip-at.ensures.same [] (next_key ms) (λ n fs b h. rw h refl)
    ∙ quoted_key c.args.bytes.now [] ms at within (omega (arith, c.if-bytes-at-ne34.false))))
    (err_key c.args.bytes.now c.in-Err.fault [] ms _ c.in-Err.ensures.value)
