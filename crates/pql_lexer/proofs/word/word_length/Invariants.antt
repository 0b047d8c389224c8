use Rattle.std.proofs.Common.{◌≡◌, ◌+◌, ◌≤◌, drop}
use Rattle.pql_lexer.specs.Fronts.{word_length}
use Rattle.pql_lexer.proofs.word.word_length.Given as goal

abbrev pub invariant-loop-byte : goal.invariant-loop-byte
invariant-loop-byte l = record {
  few : l.length ≤ l.byte-index;
  same : l.length + word_length (drop l.byte-index l.bytes) ≡ word_length l.bytes;
}
