-- References to members, sorted by the bytes of their keys.
use Rattle.std.specs.Prelude.{ℕ, List}
use Rattle.std.specs.Ordering.{is_lt}
use Rattle.std.specs.List.Sorted.{IsSortedBy}
use Rattle.std.specs.Borrow.{Bor}
use Rattle.text_spec.specs.Compact.{text_cmp}
use Rattle.json_tree.specs.declared.tree.Json.{Json}

abbrev pub AreInOrder : List (Bor (List ℕ × Json)) → Type 0
AreInOrder = IsSortedBy (λ x y. is_lt (text_cmp x.now.0 y.now.0))
