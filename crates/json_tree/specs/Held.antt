-- The bytes of a text, wherever they are stored.
use Rattle.std.specs.Prelude.{ℕ, ◌≤◌, List, take}
use Rattle.json_tree.specs.declared.text.Held.{Held}
use Rattle.json_tree.specs.declared.text.Held.TheVariants.{Short, Long}

abbrev pub bytes_of : Held → List ℕ
bytes_of (Short n bs) = take n bs
bytes_of (Long v) = v.items

abbrev pub FitsHeld : Held → Type 0
FitsHeld (Short n bs) = n ≤ 23
FitsHeld (Long v) = Unit {0}
