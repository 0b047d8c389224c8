-- What a text that spells a value is, and what the value is.
use Rattle.std.proofs.Common.{ℕ, ◌≤◌, max, List, sym, subst, arith}
use Rattle.std.specs.Str.{IsUtf8}
use Rattle.text_spec.specs.Json.{Json, levels}
use Rattle.text_spec.specs.Compact.{compact}
use Rattle.text_spec.specs.JsonText.{SpellsWithin}
use Rattle.json_machine.specs.Values.{IsValue}
use Rattle.json_machine.specs.Laws.{SpellsInUtf8, SpellsValues, CompactSpells, CompactTellsApart}
use Rattle.json_machine.proofs.Law.{one_value}
use Rattle.json_machine.proofs.SpelledBytes.{element-utf8}
use Rattle.json_machine.proofs.SpelledValues.{element_value-is, levels-element}
use Rattle.json_machine.proofs.CompactTrees.{spells_compact}

pub spells_utf8 : (n : ℕ) (bytes : List ℕ) (v : Json) → SpellsWithin n bytes v → IsUtf8 bytes
spells_utf8 n bytes v s = subst IsUtf8 (sym s.bytes_are) (element-utf8 s.tree s.is_tree)

pub spells_value : (n : ℕ) (bytes : List ℕ) (v : Json) → SpellsWithin n bytes v → IsValue v × (levels v ≤ n)
spells_value n bytes v s = subst (λ u. IsValue u × (levels u ≤ n)) (sym s.value_is) (element_value-is s.tree s.is_tree, omega (arith, levels-element s.tree, s.levels))

pub spells_in_utf8 : SpellsInUtf8
spells_in_utf8 = spells_utf8 127

pub spells_values : SpellsValues
spells_values = spells_value 127

pub compact_spells : CompactSpells
compact_spells = spells_compact 127

pub compact_tells_apart : CompactTellsApart
compact_tells_apart v w hv hw same =
    let n = max (levels v) (levels w) in
    one_value n (compact v) v w (spells_compact n v hv (omega arith))
    (subst (λ bytes. SpellsWithin n bytes w) (sym same) (spells_compact n w hw (omega arith)))
