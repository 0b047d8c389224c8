-- The pass stays.
use Rattle.std.proofs.Common.{◌≡◌}
use Rattle.stage_bench.proofs.threads.send_each.Given as goal

abbrev pub invariant-sending : goal.invariant-sending
invariant-sending g l = (l.hand.lock ≡ l.fn.hand.lock) × (l.hand.spares ≡ l.fn.hand.spares)
