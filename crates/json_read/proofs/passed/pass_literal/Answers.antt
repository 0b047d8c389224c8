use Rattle.std.proofs.Common.{◌∙◌, ap, refl, drop, []}
use Rattle.json_machine.specs.Machine.{owed}
use Rattle.json_machine.proofs.Verdicts.{verdict-owed, by_owed}
use Rattle.json_read.proofs.passed.pass_literal.Goals as goal

pub returns-in-Ok-clause-value : goal.returns-in-Ok-clause-value
returns-in-Ok-clause-value c = λ fs depth j other.
    (owed [] j, (j, (λ e. other), refl), verdict-owed 127 fs j c.args.owed.now c.args.at (drop c.args.at c.args.bytes.now) ∙ ap (by_owed 127 fs j) c.in-Ok.ensures.value)

pub returns-in-Err-clause-value : goal.returns-in-Err-clause-value
returns-in-Err-clause-value c = λ fs depth j other. verdict-owed 127 fs j c.args.owed.now c.args.at (drop c.args.at c.args.bytes.now) ∙ ap (by_owed 127 fs j) c.in-Err.ensures.value
