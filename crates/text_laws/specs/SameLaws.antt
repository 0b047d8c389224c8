-- The laws of `same`, the equality of values.
use Rattle.std.specs.Prelude.{◌≡◌, true}
use Rattle.std.specs.Cmp.{IsEquivalence}
use Rattle.json_machine.specs.text_spec.Json.{Json}
use Rattle.json_machine.specs.text_spec.Compact.{arranged, canonical}
use Rattle.json_machine.specs.text_spec.Order.{same}
use Rattle.text_laws.specs.DistinctKeys.{HasDistinctKeysThroughout}

-- a value whose objects have distinct keys
abbrev pub KeyedValue : Type 0
KeyedValue = (a : Json) × HasDistinctKeysThroughout a

abbrev pub SameIsAnEquivalence : Type 0
SameIsAnEquivalence = IsEquivalence {K = KeyedValue} (λ x y. same x.0 y.0)

-- values that are equal after sorting their members are the same
abbrev pub AlikeArrangedIsSame : Type 0
AlikeArrangedIsSame = (x y : KeyedValue) → arranged x.0 ≡ arranged y.0 → same x.0 y.0 ≡ true

-- two values that are the same may have different canonical texts
abbrev pub SameMayDiffer : Type 0
SameMayDiffer = (x : KeyedValue) × (y : KeyedValue) × (same x.0 y.0 ≡ true) × ¬ (canonical x.0 ≡ canonical y.0)
