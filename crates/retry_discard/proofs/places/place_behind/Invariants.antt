-- The place is from low to high.
use Rattle.std.proofs.Common.{◌≤◌, ◌-◌, length}
use Rattle.retry_discard.specs.Kept.{place_behind}
use Rattle.retry_discard.proofs.places.place_behind.Given as goal

abbrev pub invariant-halves : goal.invariant-halves
invariant-halves l = record { low : l.low ≤ place_behind l.receipt l.list; high : place_behind l.receipt l.list ≤ l.high; within : l.high ≤ length l.list }

abbrev pub decreases-halves : goal.decreases-halves
decreases-halves l = l.high - l.low
