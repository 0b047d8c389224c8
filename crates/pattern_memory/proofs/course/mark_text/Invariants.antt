use Rattle.std.proofs.Common.{◌≡◌, drop}
use Rattle.pattern_memory.specs.Marks.{reading_of, with_text}
use Rattle.pattern_memory.proofs.course.mark_text.Given as goal

abbrev pub invariant-bytes : goal.invariant-bytes
invariant-bytes l = with_text (reading_of l.marks.items) (drop l.byte-index l.text) ≡ with_text (reading_of l.initial.marks.items) l.text
