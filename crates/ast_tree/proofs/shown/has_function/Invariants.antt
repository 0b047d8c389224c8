use Rattle.std.proofs.Common.{◌≡◌, drop}
use Rattle.std.specs.List.{list_any}
use Rattle.query_spec.specs.Parts.{is_function}
use Rattle.ast_tree.proofs.shown.has_function.Given as goal

abbrev pub invariant-loop-selected : goal.invariant-loop-selected
invariant-loop-selected l = list_any is_function (drop l.selected-index l.shown) ≡ list_any is_function l.shown
