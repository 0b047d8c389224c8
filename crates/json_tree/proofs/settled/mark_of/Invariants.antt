use Rattle.std.proofs.Common.{◌≡◌, ◌<◌, drop}
use Rattle.json_tree.specs.Marks.{mark_from, mark_of}
use Rattle.json_tree.proofs.settled.mark_of.Given as goal

abbrev pub invariant-loop-byte : goal.invariant-loop-byte
invariant-loop-byte l = record {
  bound : l.mark < 2048;
  same : mark_from l.mark (drop l.byte-index l.key) ≡ mark_of l.key;
}
