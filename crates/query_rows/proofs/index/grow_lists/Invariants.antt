use Rattle.std.proofs.Common.{◌≡◌, ◌+◌, ◌-◌, ℕ, length}
use Rattle.query_rows.specs.Indexed.{places_at}
use Rattle.query_rows.proofs.index.grow_lists.Given as goal

abbrev pub invariant-growing : goal.invariant-growing
invariant-growing l = (q : ℕ) → places_at l.lists.items q ≡ places_at l.initial.lists.items q

abbrev pub decreases-growing : goal.decreases-growing
decreases-growing l = (l.number + 1) - length l.lists.items
