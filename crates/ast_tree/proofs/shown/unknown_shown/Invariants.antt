use Rattle.std.proofs.Common.{◌≡◌, drop}
use Rattle.query_spec.specs.Check.{unknown_shown}
use Rattle.ast_tree.proofs.shown.unknown_shown.Given as goal

abbrev pub invariant-loop-selected : goal.invariant-loop-selected
invariant-loop-selected l = unknown_shown l.entity (drop l.selected-index l.shown) ≡ unknown_shown l.entity l.shown
