use Rattle.std.proofs.Common.{◌≡◌, ◌+◌, All, vec_len}
use Rattle.lock_tests.proofs.turns.use_and_join_all.Given as goal

abbrev pub invariant-joins : goal.invariant-joins
invariant-joins g l = (l.pass.lock ≡ l.fn.lock.lock) × All (λ p. (p.lock ≡ l.fn.lock.lock) × (p.spares ≡ 0)) l.passes.items × (l.pass.spares + vec_len l.passes ≡ l.fn.pass.spares + vec_len l.fn.passes)

abbrev pub decreases-joins : goal.decreases-joins
decreases-joins g l = vec_len l.passes
