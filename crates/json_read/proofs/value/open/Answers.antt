use Rattle.std.proofs.Common.{◌+◌, drop}
use Rattle.json_read.specs.Found.{mode_of}
use Rattle.json_read.proofs.Steps.{no_room}
use Rattle.json_read.proofs.value.open.Goals as goal

pub returns-else-depth-lt127-clause-value : goal.returns-else-depth-lt127-clause-value
returns-else-depth-lt127-clause-value c = λ fs e. no_room fs (mode_of c.args.mode) c.args.depth c.args.at (drop (c.args.at + 1) c.args.bytes.now) e c.if-depth-lt127.false c.requires.depth
