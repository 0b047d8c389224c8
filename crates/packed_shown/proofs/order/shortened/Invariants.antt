use Rattle.std.proofs.Common.{◌≡◌, take}
use Rattle.packed_shown.proofs.order.shortened.Given as goal

abbrev pub invariant-shortening : goal.invariant-shortening
invariant-shortening l = l.short.items ≡ take l.place-index l.places
