use Rattle.std.proofs.Common.{◌≡◌}
use Rattle.http_routes.proofs.preparing.prepare_entities.Given as goal

abbrev pub invariant-preparing : goal.invariant-preparing
invariant-preparing g l = l.inbox ≡ l.fn.inbox
