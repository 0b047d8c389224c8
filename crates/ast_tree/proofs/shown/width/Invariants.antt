use Rattle.std.proofs.Common.{◌≡◌, ◌+◌, ◌≤◌, drop}
use Rattle.query_spec.specs.Check.{width}
use Rattle.ast_tree.proofs.shown.width.Given as goal

abbrev pub invariant-loop-i : goal.invariant-loop-i
invariant-loop-i l = record {
  few : l.count ≤ l.i;
  same : l.count + width (drop l.i l.shown) ≡ width l.shown;
}
