-- The laws of the order of values.
use Rattle.std.specs.Prelude.{◌≡◌, ◌↔◌, ℕ, List, Some}
use Rattle.std.specs.Cmp.{IsTotalOrder}
use Rattle.std.specs.declared.cmp.Ordering.{Ordering}
use Rattle.std.specs.declared.cmp.Ordering.TheVariants.{Equal}
use Rattle.json_machine.specs.text_spec.Json.{Json, number}
use Rattle.json_machine.specs.text_spec.Compact.{arranged}
use Rattle.json_machine.specs.text_spec.Number.{compare}
use Rattle.json_machine.specs.text_spec.Order.{order}

abbrev pub OrderIsTotal : Type 0
OrderIsTotal = IsTotalOrder order

-- two values are equal in the order exactly if they differ at most in the order of members
abbrev pub EqualInOrderIsAlikeArranged : Type 0
EqualInOrderIsAlikeArranged = (a b : Json) → (order a b ≡ Equal) ↔ (arranged a ≡ arranged b)

-- where `compare` finds a difference, the order agrees with it
abbrev pub OrderFollowsCompare : Type 0
OrderFollowsCompare = (s t : List ℕ) (o : Ordering) → compare s t ≡ Some o → ¬ (o ≡ Equal) → order (number s) (number t) ≡ o
