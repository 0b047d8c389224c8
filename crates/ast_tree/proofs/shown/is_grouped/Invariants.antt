use Rattle.std.proofs.Common.{◌≡◌, drop}
use Rattle.query_spec.specs.Check.{is_grouped}
use Rattle.ast_tree.proofs.shown.is_grouped.Given as goal

abbrev pub invariant-loop-column : goal.invariant-loop-column
invariant-loop-column l = is_grouped (drop l.column-index l.group) l.name ≡ is_grouped l.group l.name
