use Rattle.std.proofs.Common.{◌≡◌, drop, [], false}
use Rattle.pql_lexer.specs.Fronts.{text_front}
use Rattle.pql_lexer.proofs.quoted.text_front.Given as goal

abbrev pub invariant-bytes : goal.invariant-bytes
invariant-bytes l = record {
  read : l.read ≡ l.byte-index;
  same : text_front l.quote l.behind l.held.items l.byte-index (drop l.byte-index l.bytes) ≡ text_front l.quote false [] 0 l.bytes;
}
