-- The laws of canonical texts, for values with numbers spelled as numbers, UTF-8 texts and distinct keys.
use Rattle.std.specs.Prelude.{◌≡◌, ◌≤◌, ◌↔◌, true}
use Rattle.std.specs.declared.cmp.Ordering.TheVariants.{Equal}
use Rattle.json_machine.specs.text_spec.Json.{Json, levels}
use Rattle.json_machine.specs.text_spec.JsonText.{Spells}
use Rattle.json_machine.specs.text_spec.Compact.{arranged, canonical}
use Rattle.json_machine.specs.text_spec.Order.{order, same}
use Rattle.json_machine.specs.Values.{IsValue}
use Rattle.text_laws.specs.DistinctKeys.{IsReordered}

-- the canonical text is a JSON text of the arranged value
abbrev pub CanonicalTextSpells : Type 0
CanonicalTextSpells = (a : Json) → IsValue a → levels a ≤ 127 → Spells (canonical a) (arranged a)

-- two values share a canonical text exactly if they differ only in the order of members
abbrev pub CanonicalTextsTellApart : Type 0
CanonicalTextsTellApart = (a b : Json) → IsValue a → IsValue b → (canonical a ≡ canonical b) ↔ ((c : Json) × IsReordered a c × IsReordered b c)

abbrev pub EqualInOrderIsOneCanonicalText : Type 0
EqualInOrderIsOneCanonicalText = (a b : Json) → IsValue a → IsValue b → (order a b ≡ Equal) ↔ (canonical a ≡ canonical b)

abbrev pub OneCanonicalTextIsSame : Type 0
OneCanonicalTextIsSame = (a b : Json) → IsValue a → IsValue b → canonical a ≡ canonical b → same a b ≡ true
