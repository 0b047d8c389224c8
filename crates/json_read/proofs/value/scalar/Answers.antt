use Rattle.std.proofs.Common.{◌∙◌, ◌+◌, sym, ap, subst, arith, drop}
use Rattle.json_machine.specs.Machine.{verdict, number, after_minus, after_zero, in_whole}
use Rattle.json_read.specs.Found.{FoundScalar}
use Rattle.json_read.proofs.Steps.{one_byte, begins_minus, begins_zero, begins_digit}
use Rattle.json_read.proofs.value.scalar.Goals as goal

pub returns-in-45-clause-value : goal.returns-in-45-clause-value
returns-in-45-clause-value c = λ fs.
    let rest = drop (c.args.at + 1) c.args.bytes.now in
    subst (FoundScalar c.args.bytes.now fs c.number_value.result)
    (ap (λ s. verdict 127 fs (number after_minus s) (c.args.at + 1) rest) (one_byte c.args.bytes.now c.args.at c.args.byte c.requires.place c.requires.byte) ∙ sym (begins_minus fs c.args.byte c.args.at rest c.in-45.is))
    (c.number_value.ensures.value fs)

pub returns-in-48-clause-value : goal.returns-in-48-clause-value
returns-in-48-clause-value c = λ fs.
    let rest = drop (c.args.at + 1) c.args.bytes.now in
    subst (FoundScalar c.args.bytes.now fs c.number_value-in-48.result)
    (ap (λ s. verdict 127 fs (number after_zero s) (c.args.at + 1) rest) (one_byte c.args.bytes.now c.args.at c.args.byte c.requires.place c.requires.byte) ∙ sym (begins_zero fs c.args.byte c.args.at rest c.in-48.is))
    (c.number_value-in-48.ensures.value fs)

pub returns-in-49-to-57-clause-value : goal.returns-in-49-to-57-clause-value
returns-in-49-to-57-clause-value c = λ fs.
    let rest = drop (c.args.at + 1) c.args.bytes.now in
    subst (FoundScalar c.args.bytes.now fs c.number_value-in-49-to-57.result)
    (ap (λ s. verdict 127 fs (number in_whole s) (c.args.at + 1) rest) (one_byte c.args.bytes.now c.args.at c.args.byte c.requires.place c.requires.byte) ∙ sym (begins_digit fs c.args.byte c.args.at rest (omega (arith, c.in-49-to-57)) (omega (arith, c.in-49-to-57))))
    (c.number_value-in-49-to-57.ensures.value fs)
