use Rattle.std.proofs.Common.{arith}
use Rattle.history_laws.specs.Reading.{after_word}
use Rattle.spool_text.proofs.Words.{went_on, stopped}
use Rattle.spool_text.proofs.first_line.after.Goals as goal

pub loop-byte-preserved : goal.loop-byte-preserved
loop-byte-preserved c =
    went_on c.args.word.now c.loop-byte.rest.now c.in-Some.more.now c.loop-byte.byte-index (after_word c.args.word.now c.args.text.now) (omega arith) c.in-Some.ensures c.loop-byte.invariant

pub returns-in-None : goal.returns-in-None
returns-in-None c =
    stopped c.args.word.now c.loop-byte.rest.now c.loop-byte.byte-index (after_word c.args.word.now c.args.text.now) (omega arith) c.in-None.ensures c.loop-byte.invariant
