use Rattle.std.specs.Prelude.{slice_range}
use Rattle.json_machine.proofs.SpelledBytes.{number-utf8}
use Rattle.json_read.proofs.number.number_of.Goals as goal

pub from_part-requires-clause-text : goal.from_part-requires-clause-text
from_part-requires-clause-text c = number-utf8 (slice_range c.args.bytes.now c.args.start c.args.end) c.requires.number
