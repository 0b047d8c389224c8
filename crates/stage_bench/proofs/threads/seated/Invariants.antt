-- So far each thread has a pass of the lock with no spare.
use Rattle.std.proofs.Common.{◌≡◌, All}
use Rattle.stage_bench.proofs.threads.seated.Given as goal

abbrev pub invariant-seats : goal.invariant-seats
invariant-seats g l = (l.first.lock ≡ l.fn.lock.lock) × All (λ p. (p.lock ≡ l.fn.lock.lock) × (p.spares ≡ 0)) l.passes.items
