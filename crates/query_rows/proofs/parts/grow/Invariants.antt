use Rattle.std.proofs.Common.{◌≡◌, ◌+◌, ◌-◌, ℕ, length}
use Rattle.query_rows.specs.Marked.{part_at}
use Rattle.query_rows.proofs.parts.grow.Given as goal

abbrev pub invariant-growing : goal.invariant-growing
invariant-growing l = (q : ℕ) → part_at l.parts.items q ≡ part_at l.initial.parts.items q

abbrev pub decreases-growing : goal.decreases-growing
decreases-growing l = (l.mark + 1) - length l.parts.items
