use Rattle.std.proofs.Common.{◌≡◌}
use Rattle.lock_tests.proofs.turns.append_some.Given as goal

abbrev pub invariant-loop-call : goal.invariant-loop-call
invariant-loop-call g l = (l.pass.lock ≡ l.fn.lock.lock) × (l.pass.spares ≡ l.fn.pass.spares)
