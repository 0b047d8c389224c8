use Rattle.std.proofs.Common.{◌∙◌, ap, refl, arith, drop, []}
use Rattle.json_machine.specs.text_spec.Json as spec
use Rattle.json_machine.specs.Machine.{owed, inside}
use Rattle.json_machine.proofs.Verdicts.{verdict-string, by_string}
use Rattle.json_read.proofs.passed.pass_string.Goals as goal

pub returns-in-Ok-clause-value : goal.returns-in-Ok-clause-value
returns-in-Ok-clause-value c = λ fs depth inner.
    let s = c.in-Ok.ensures.value.0 in (
      owed [] (spec.string s),
      (spec.string s, (λ e. absurd (omega (arith, e, inner))), refl),
      verdict-string 127 fs (drop c.args.at c.args.bytes.now) c.args.at inside [] ∙ ap (by_string 127 fs) c.in-Ok.ensures.value.1,
    )

pub returns-in-Err-clause-value : goal.returns-in-Err-clause-value
returns-in-Err-clause-value c = λ fs depth inner. verdict-string 127 fs (drop c.args.at c.args.bytes.now) c.args.at inside [] ∙ ap (by_string 127 fs) c.in-Err.ensures.value
