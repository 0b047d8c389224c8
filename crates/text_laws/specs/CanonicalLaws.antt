-- The laws of arranged values and of the canonical text.
use Rattle.std.specs.Prelude.{◌≡◌, ℕ, List, map}
use Rattle.std.specs.List.Sorted.{IsPermutation, IsStrictlySortedBy}
use Rattle.json_machine.specs.text_spec.Json.{Json, object, Members, members_list, members_of, HasDistinctKeys}
use Rattle.json_machine.specs.text_spec.Compact.{text_cmp, arranged, arranged_members, canonical}
use Rattle.text_laws.specs.DistinctKeys.{HasDistinctKeysThroughout, IsReordered}

abbrev pub ArrangedStays : Type 0
ArrangedStays = (a : Json) → arranged (arranged a) ≡ arranged a

abbrev pub keys : Members → List (List ℕ)
keys ms = map (λ m. m.0) (members_list ms)

abbrev pub ArrangedMembersAscend : Type 0
ArrangedMembersAscend = (ms : Members) → HasDistinctKeys (members_list ms) → IsStrictlySortedBy text_cmp (keys (arranged_members ms))

-- the order of one object's members makes no difference
abbrev pub CanonicalTextForgetsMoves : Type 0
CanonicalTextForgetsMoves = (ms ns : List (List ℕ × Json)) → HasDistinctKeys ms → IsPermutation ms ns → canonical (object (members_of ms)) ≡ canonical (object (members_of ns))

-- nor does the order of members in all objects of a value
abbrev pub CanonicalTextForgetsOrder : Type 0
CanonicalTextForgetsOrder = (a b : Json) → HasDistinctKeysThroughout a → IsReordered a b → canonical a ≡ canonical b

-- sorting only reorders members
abbrev pub ArrangedIsReordered : Type 0
ArrangedIsReordered = (a : Json) → IsReordered a (arranged a)
