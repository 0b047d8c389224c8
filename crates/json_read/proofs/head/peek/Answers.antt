use Rattle.json_read.proofs.Public.{head_spelled, head_other}
use Rattle.json_read.specs.Heads.{head_told}
use Rattle.json_machine.specs.Machine.{value, verdict}
use Rattle.std.proofs.Common.{[]}
use Rattle.json_read.proofs.head.peek.Goals as goal

pub returns-clause-spelled : goal.returns-clause-spelled
returns-clause-spelled c = head_spelled c.args.bytes.now c.unfaulted.result (c.unfaulted.ensures (head_told (verdict 127 [] value 0 c.args.bytes.now)) c.head.ensures)

pub returns-clause-other : goal.returns-clause-other
returns-clause-other c = head_other c.args.bytes.now c.unfaulted.result (c.unfaulted.ensures (head_told (verdict 127 [] value 0 c.args.bytes.now)) c.head.ensures)
