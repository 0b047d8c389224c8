-- The laws of JSON texts and values.
use Rattle.std.specs.Prelude.{◌≡◌, ◌≤◌, ℕ, List, []}
use Rattle.std.specs.Str.{IsUtf8}
use Rattle.text_spec.specs.Json.{Json, levels}
use Rattle.text_spec.specs.Compact.{compact}
use Rattle.text_spec.specs.JsonText.{SpellsWithin, Spells}
use Rattle.json_machine.specs.Values.{IsValue}
use Rattle.json_machine.specs.Verdict.{Verdict, Means}
use Rattle.json_machine.specs.Machine.{value, verdict}

-- a text spells at most one value, however deep it nests
abbrev pub SpellsOneValue : Type 0
SpellsOneValue = (n : ℕ) (bytes : List ℕ) (v w : Json) → SpellsWithin n bytes v → SpellsWithin n bytes w → v ≡ w

abbrev pub SpellsInUtf8 : Type 0
SpellsInUtf8 = (bytes : List ℕ) (v : Json) → Spells bytes v → IsUtf8 bytes

abbrev pub SpellsValues : Type 0
SpellsValues = (bytes : List ℕ) (v : Json) → Spells bytes v → IsValue v × (levels v ≤ 127)

abbrev pub CompactSpells : Type 0
CompactSpells = (v : Json) → IsValue v → levels v ≤ 127 → Spells (compact v) v

abbrev pub CompactTellsApart : Type 0
CompactTellsApart = (v w : Json) → IsValue v → IsValue w → compact v ≡ compact w → v ≡ w

-- for each text, exactly one verdict is true
abbrev pub HasOneVerdict : Type 0
HasOneVerdict = (bytes : List ℕ) → (v : Verdict) × Means bytes v × ((w : Verdict) → Means bytes w → w ≡ v)

-- the machine, started at a value with nothing open, reaches the true verdict
abbrev pub MachineTells : Type 0
MachineTells = (bytes : List ℕ) → Means bytes (verdict 127 [] value 0 bytes)
