use Rattle.std.proofs.Common.{◌∙◌, ap, Some}
use Rattle.pattern_port.specs.Course.{readings}
use Rattle.pattern_memory.specs.Readers.{course_of, pattern_of}
use Rattle.pattern_memory.proofs.Readings.{one_tried}
use Rattle.pattern_memory.proofs.patterns.MemoryPatternsPatterns.matches.Goals as goal

pub returns-clause-silent : goal.returns-clause-silent
returns-clause-silent c = ap (λ l. Some (readings l)) c.tried.ensures ∙ ap (λ l. Some l) (one_tried (course_of c.args.self.now) c.as_str-pattern.result.now c.args.text.now)
