use Rattle.std.proofs.Common.{◌∙◌, ◌+◌, ap, refl, drop, []}
use Rattle.std.specs.Prelude.{slice_range}
use Rattle.json_machine.specs.text_spec.Json as spec
use Rattle.json_machine.specs.Machine.{owed}
use Rattle.json_machine.proofs.Verdicts.{verdict-number, by_number}
use Rattle.json_read.specs.Numbers.{state_of}
use Rattle.json_read.proofs.passed.pass_number.Goals as goal

pub returns-in-Ok-clause-value : goal.returns-in-Ok-clause-value
returns-in-Ok-clause-value c = λ fs depth.
    let s = slice_range c.args.bytes.now c.args.start c.in-Ok.end in (
      owed [] (spec.number s),
      (spec.number s, (λ e. tt), refl),
      verdict-number 127 fs (drop (c.args.start + 1) c.args.bytes.now) (c.args.start + 1) (state_of c.args.first) (slice_range c.args.bytes.now c.args.start (c.args.start + 1))
          ∙ ap (by_number 127 fs) c.in-Ok.ensures.value,
    )

pub returns-in-Err-clause-value : goal.returns-in-Err-clause-value
returns-in-Err-clause-value c = λ fs depth.
    verdict-number 127 fs (drop (c.args.start + 1) c.args.bytes.now) (c.args.start + 1) (state_of c.args.first) (slice_range c.args.bytes.now c.args.start (c.args.start + 1))
    ∙ ap (by_number 127 fs) c.in-Err.ensures.value
