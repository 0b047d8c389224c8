-- So far each seat has a pass of the hub with no spare, and no spare was lost.
use Rattle.std.proofs.Common.{◌≡◌, ◌+◌, All, vec_len}
use Rattle.fleet_hub.proofs.draining.seat_all.Given as goal

abbrev pub invariant-seats : goal.invariant-seats
invariant-seats g l = (l.pass.lock ≡ l.fn.hub.lock) × All (λ p. (p.lock ≡ l.fn.hub.lock) × (p.spares ≡ 0)) l.seats.items × (l.pass.spares + vec_len l.seats ≡ l.fn.pass.spares)
