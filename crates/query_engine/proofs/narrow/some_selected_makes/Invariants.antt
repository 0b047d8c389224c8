use Rattle.std.proofs.Common.{◌≡◌, drop}
use Rattle.std.specs.List.{list_any}
use Rattle.query_engine.specs.Narrow.{selected_makes}
use Rattle.query_engine.proofs.narrow.some_selected_makes.Given as goal

abbrev pub invariant-loop-selected : goal.invariant-loop-selected
invariant-loop-selected l = list_any (selected_makes l.entity) (drop l.selected-index l.shown) ≡ list_any (selected_makes l.entity) l.shown
