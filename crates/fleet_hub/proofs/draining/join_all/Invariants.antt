-- So far the pass has the seats that were joined.
use Rattle.std.proofs.Common.{◌≡◌, ◌+◌, All, vec_len}
use Rattle.fleet_hub.proofs.draining.join_all.Given as goal

abbrev pub invariant-joins : goal.invariant-joins
invariant-joins g l = (l.pass.lock ≡ l.fn.hub.lock) × All (λ p. (p.lock ≡ l.fn.hub.lock) × (p.spares ≡ 0)) l.seats.items × (l.pass.spares + vec_len l.seats ≡ l.fn.pass.spares + vec_len l.fn.seats)

abbrev pub decreases-joins : goal.decreases-joins
decreases-joins g l = vec_len l.seats
