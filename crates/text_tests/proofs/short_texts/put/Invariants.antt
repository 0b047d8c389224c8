use Rattle.std.proofs.Common.{length}
use Rattle.text_tests.proofs.short_texts.put.Given as goal

abbrev pub decreases-loop-rest : goal.decreases-loop-rest
decreases-loop-rest l = length l.rest
