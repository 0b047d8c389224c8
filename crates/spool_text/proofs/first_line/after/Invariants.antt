use Rattle.std.proofs.Common.{◌≡◌, drop}
use Rattle.history_laws.specs.Reading.{after_word}
use Rattle.spool_text.proofs.first_line.after.Given as goal

abbrev pub invariant-loop-byte : goal.invariant-loop-byte
invariant-loop-byte l = after_word (drop l.byte-index l.word) l.rest ≡ after_word l.fn.word l.fn.text
