-- The law of the lengths of texts.
use Rattle.std.specs.Prelude.{ℕ, ◌≤◌, List, length}
use Rattle.json_machine.specs.text_spec.Json.{Json}
use Rattle.json_machine.specs.text_spec.JsonText.{Spells}
use Rattle.json_machine.specs.text_spec.Compact.{compact}

-- no text that spells a value is shorter than its compact text
abbrev pub CompactIsShortest : Type 0
CompactIsShortest = (bytes : List ℕ) (v : Json) → Spells bytes v → length (compact v) ≤ length bytes
