use Rattle.std.proofs.Common.{◌∙◌, sym, ap, subst, drop, []}
use Rattle.json_machine.specs.Machine.{inside}
use Rattle.json_machine.proofs.Verdicts.{verdict-string, by_string}
use Rattle.json_read.specs.Found.{Faulted}
use Rattle.json_read.proofs.Steps.{err_string}
use Rattle.json_read.proofs.value.string_value.Goals as goal

pub returns-in-Ok-clause-value : goal.returns-in-Ok-clause-value
returns-in-Ok-clause-value c = λ fs. verdict-string 127 fs (drop c.args.at c.args.bytes.now) c.args.at inside [] ∙ ap (by_string 127 fs) c.in-Ok.ensures.value

pub returns-in-Err-clause-value : goal.returns-in-Err-clause-value
returns-in-Err-clause-value c = λ fs. subst (Faulted c.in-Err.fault) (sym (verdict-string 127 fs (drop c.args.at c.args.bytes.now) c.args.at inside [])) (err_string c.args.bytes.now c.in-Err.fault fs _ c.in-Err.ensures.value)
