use Rattle.std.proofs.Common.{◌≡◌, ◌<◌, ◌*◌, ◌^◌}
use Rattle.json_tree.proofs.scaled.raised.Given as goal

abbrev pub invariant-loop-left : goal.invariant-loop-left
invariant-loop-left l = record {
  product : l.value * 10 ^ l.left ≡ l.n * 10 ^ l.tens;
  some : 0 < l.value;
  small : l.value < 10 ^ 37;
}

abbrev pub decreases-loop-left : goal.decreases-loop-left
decreases-loop-left l = l.left
