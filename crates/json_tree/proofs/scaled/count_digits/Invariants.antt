use Rattle.std.proofs.Common.{◌≡◌, ◌+◌, drop}
use Rattle.text_spec.specs.StampReader.{digit_run}
use Rattle.json_tree.proofs.scaled.count_digits.Given as goal

abbrev pub invariant-loop-byte : goal.invariant-loop-byte
invariant-loop-byte l = record {
  index : l.count ≡ l.byte-index;
  run : l.count + digit_run (drop l.byte-index l.text) ≡ digit_run l.text;
}
