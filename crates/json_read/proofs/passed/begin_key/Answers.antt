use Rattle.std.proofs.Common.{◌∙◌, ◌+◌, ◌++◌, sym, ap, subst, arith, drop}
use Rattle.json_machine.proofs.Verdicts.{by_key}
use Rattle.json_read.specs.Passed.{Passes}
use Rattle.json_read.proofs.Steps.{key_quote}
use Rattle.json_read.proofs.passed.begin_key.Goals as goal

pub returns-in-Ok-clause-value : goal.returns-in-Ok-clause-value
returns-in-Ok-clause-value c = λ base fs ms s.
    subst (Passes c.args.bytes.now base c.begin_member.new.kinds.items c.begin_member.result)
    (sym (key_quote (fs ++ base) ms c.args.byte c.args.at (drop (c.args.at + 1) c.args.bytes.now) (omega (arith, c.if-byte-ne34.false)) ∙ ap (by_key 127 (fs ++ base) ms) c.in-Ok.ensures.value.1))
    (c.begin_member.ensures.value base fs ms c.in-Ok.ensures.value.0 s)

pub returns-in-Err-clause-value : goal.returns-in-Err-clause-value
returns-in-Err-clause-value c = λ base fs ms s.
    key_quote (fs ++ base) ms c.args.byte c.args.at (drop (c.args.at + 1) c.args.bytes.now) (omega (arith, c.if-byte-ne34.false)) ∙ ap (by_key 127 (fs ++ base) ms) c.in-Err.ensures.value
