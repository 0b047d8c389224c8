use Rattle.std.proofs.Common.{◌≡◌, drop}
use Rattle.query_spec.specs.Check.{has_output}
use Rattle.ast_tree.proofs.shown.has_output.Given as goal

abbrev pub invariant-loop-selected : goal.invariant-loop-selected
invariant-loop-selected l = has_output (drop l.selected-index l.shown) l.name ≡ has_output l.shown l.name
