use Rattle.std.proofs.Common.{◌∙◌, ◌<◌, length, refl, sym, ap, subst, arith}
use Rattle.json_machine.specs.text_spec.Json as spec
use Rattle.json_machine.specs.text_spec.Json.{members_of, settled}
use Rattle.json_machine.specs.Machine.{value}
use Rattle.json_machine.proofs.Verdicts.{by_string}
use Rattle.json_read.specs.Found.{Faulted}
use Rattle.json_read.proofs.Steps.{err_string}
use Rattle.json_read.proofs.HeadLaws.{quoted_value}
use Rattle.json_read.proofs.head.value_text.Goals as goal

pub returns-in-Ok-clause-value : goal.returns-in-Ok-clause-value
returns-in-Ok-clause-value c = λ base l.
    let at = c.skip-at.result in
    let within : at < length c.args.bytes.now = omega (arith, c.skip-at.ensures.bounds, c.if-at-bytes.false) in (
      spec.string c.in-Ok.text,
      refl,
      c.skip-at.ensures.same base value (λ n fs b h. rw h refl)
          ∙ quoted_value c.args.bytes.now base at within (omega (arith, c.if-bytes-at-eq34.true))
          ∙ ap (by_string 127 base) c.in-Ok.ensures.value,
    )

pub returns-in-Err-clause-value : goal.returns-in-Err-clause-value
returns-in-Err-clause-value c = λ base l.
    let at = c.skip-at.result in
    let within : at < length c.args.bytes.now = omega (arith, c.skip-at.ensures.bounds, c.if-at-bytes.false) in
    subst (Faulted c.in-Err.fault)
    (sym (c.skip-at.ensures.same base value (λ n fs b h. rw h refl)
    ∙ quoted_value c.args.bytes.now base at within (omega (arith, c.if-bytes-at-eq34.true))))
    (err_string c.args.bytes.now c.in-Err.fault base _ c.in-Err.ensures.value)
