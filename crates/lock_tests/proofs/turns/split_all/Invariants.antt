use Rattle.std.proofs.Common.{◌≡◌, ◌+◌, All, vec_len}
use Rattle.lock_tests.proofs.turns.split_all.Given as goal

abbrev pub invariant-splits : goal.invariant-splits
invariant-splits l = (l.pass.lock ≡ l.fn.lock.lock) × All (λ p. (p.lock ≡ l.fn.lock.lock) × (p.spares ≡ 0)) l.passes.items × (l.pass.spares + vec_len l.passes ≡ l.fn.pass.spares)
