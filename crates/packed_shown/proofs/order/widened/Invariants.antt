use Rattle.std.proofs.Common.{◌≡◌, take}
use Rattle.packed_shown.proofs.order.widened.Given as goal

abbrev pub invariant-widening : goal.invariant-widening
invariant-widening l = l.wide.items ≡ take l.place-index l.places
