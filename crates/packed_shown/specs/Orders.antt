-- The indices of an order, however they are stored.
use Rattle.std.specs.Prelude.{ℕ, List}
use Rattle.packed_shown.specs.declared.order.Held.{Held}
use Rattle.packed_shown.specs.declared.order.Held.TheVariants.{Short, Long}

abbrev pub places_of : Held → List ℕ
places_of (Short v) = v.items
places_of (Long v) = v.items
