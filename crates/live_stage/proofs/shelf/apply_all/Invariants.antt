-- The tables have the same traces with fewer steps behind them.
use Rattle.std.proofs.Common.{◌≡◌, length}
use Rattle.std.specs.List.{AllByRecursion}
use Rattle.live_stage.specs.Shelf.{IsLawfulStep, GoesOn}
use Rattle.live_stage.proofs.shelf.apply_all.Given as goal

abbrev pub invariant-applying : goal.invariant-applying
invariant-applying l = AllByRecursion IsLawfulStep l.steps.items × GoesOn l.fn.tables l.fn.steps.items l.tables l.steps.items × (l.tables.ttls ≡ l.fn.tables.ttls)

abbrev pub decreases-applying : goal.decreases-applying
decreases-applying l = length l.steps.items
