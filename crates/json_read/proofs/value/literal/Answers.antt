use Rattle.std.proofs.Common.{◌∙◌, ap, drop}
use Rattle.json_tree.specs.Tree.{json_of}
use Rattle.json_machine.proofs.Verdicts.{verdict-owed, by_owed}
use Rattle.json_read.proofs.value.literal.Goals as goal

pub returns-in-Ok-clause-value : goal.returns-in-Ok-clause-value
returns-in-Ok-clause-value c = λ fs. verdict-owed 127 fs (json_of c.args.json) c.args.owed.now c.args.at (drop c.args.at c.args.bytes.now) ∙ ap (by_owed 127 fs (json_of c.args.json)) c.in-Ok.ensures.value

pub returns-in-Err-clause-value : goal.returns-in-Err-clause-value
returns-in-Err-clause-value c = λ fs. verdict-owed 127 fs (json_of c.args.json) c.args.owed.now c.args.at (drop c.args.at c.args.bytes.now) ∙ ap (by_owed 127 fs (json_of c.args.json)) c.in-Err.ensures.value
