use Rattle.std.proofs.Common.{◌∙◌, sym, ap, arith, drop}
use Rattle.std.proofs.lemmas.List.{drop_all}
use Rattle.json_machine.specs.Machine.{owed_verdict}
use Rattle.json_read.proofs.Steps.{owed_past}
use Rattle.json_read.proofs.token.owed_end.Goals as goal

pub returns-then-end-bytes-clause-value : goal.returns-then-end-bytes-clause-value
returns-then-end-bytes-clause-value c =
    sym c.bytes.invariant.same
    ∙ ap (owed_verdict (drop c.bytes.expected-index c.args.owed.now) c.bytes.end) (drop_all c.bytes.end c.args.bytes.now (omega (arith, c.if-end-bytes.true)))
    ∙ owed_past c.args.owed.now c.bytes.expected-index c.bytes.end (omega (arith, c.bytes-test.true))
