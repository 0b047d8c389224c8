use Rattle.std.proofs.Common.{◌∙◌, ap, true, false, Some}
use Rattle.pattern_port.specs.Course.{readings}
use Rattle.pattern_memory.specs.Readers.{course_of}
use Rattle.pattern_memory.proofs.Readings.{one_read}
use Rattle.pattern_memory.proofs.patterns.MemoryPatternsPatterns.compile.Goals as goal

pub returns-then-starts_with-clause-noted : goal.returns-then-starts_with-clause-noted
returns-then-starts_with-clause-noted c = ap (λ l. Some (readings l)) c.read.ensures ∙ ap (λ l. Some l) (one_read (course_of c.args.self.now) c.args.pattern.now true)

pub returns-in-Ok-clause-noted : goal.returns-in-Ok-clause-noted
returns-in-Ok-clause-noted c = ap (λ l. Some (readings l)) c.read-2.ensures ∙ ap (λ l. Some l) (one_read (course_of c.args.self.now) c.args.pattern.now false)

pub returns-in-Err-clause-noted : goal.returns-in-Err-clause-noted
returns-in-Err-clause-noted c = ap (λ l. Some (readings l)) c.read-2.ensures ∙ ap (λ l. Some l) (one_read (course_of c.args.self.now) c.args.pattern.now false)
