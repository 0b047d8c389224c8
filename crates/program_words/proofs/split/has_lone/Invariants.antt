use Rattle.std.proofs.Common.{◌≡◌, drop}
use Rattle.program_words.specs.Scanning.{has_lone, Texts}
use Rattle.program_words.proofs.split.has_lone.Given as goal

abbrev pub invariant-loop-word : goal.invariant-loop-word
invariant-loop-word l = record {
  value : has_lone (drop l.word-index l.words) ≡ has_lone l.words;
  texts : Texts (drop l.word-index l.words) → Texts l.words;
}
