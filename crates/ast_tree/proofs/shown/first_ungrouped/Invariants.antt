use Rattle.std.proofs.Common.{◌≡◌, drop}
use Rattle.query_spec.specs.Check.{first_ungrouped}
use Rattle.ast_tree.proofs.shown.first_ungrouped.Given as goal

abbrev pub invariant-loop-selected : goal.invariant-loop-selected
invariant-loop-selected l = first_ungrouped l.group (drop l.selected-index l.shown) ≡ first_ungrouped l.group l.shown
