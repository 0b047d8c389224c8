-- Texts and places of a few values.
use Rattle.std.proofs.Common.{◌≡◌, refl, [], ◌∷◌, true, codes}
use Rattle.std.specs.declared.cmp.Ordering.TheVariants.{Less, Greater}
use Rattle.text_spec.specs.Json.{Json, null, boolean, number, string, array, object, items_of, members_of}
use Rattle.text_spec.specs.Compact.{compact, canonical, escaped}
use Rattle.text_spec.specs.Number.{scaled}
use Rattle.text_spec.specs.Order.{order, same}

pair : Json
pair = object (members_of ((codes "b", number (codes "1")) ∷ (codes "a", string (codes "A")) ∷ []))

compact_pair : compact pair ≡ codes "{\"b\":1,\"a\":\"A\"}"
unfolding escaped pair
compact_pair = refl

canonical_pair : canonical pair ≡ codes "{\"a\":\"A\",\"b\":1}"
unfolding escaped pair
canonical_pair = refl

-- a line feed has a short escape, and the unit separator has none
escapes : compact (string (10 ∷ 31 ∷ 127 ∷ 47 ∷ [])) ≡ 34 ∷ 92 ∷ 110 ∷ 92 ∷ 117 ∷ 48 ∷ 48 ∷ 49 ∷ 102 ∷ 127 ∷ 47 ∷ 34 ∷ []
unfolding escaped
escapes = refl

one_by_spelling : order (number (codes "1")) (number (codes "1.0")) ≡ Less
unfolding scaled
one_by_spelling = refl

one_by_value : same (number (codes "1")) (number (codes "1.0")) ≡ true
unfolding scaled
one_by_value = refl

far_above_scaled : order (number (codes "5")) (number (codes "1e400")) ≡ Less
unfolding scaled
far_above_scaled = refl

prefix_first : order (array (items_of (null ∷ []))) (array (items_of (null ∷ null ∷ []))) ≡ Less
prefix_first = refl

text_above_true : order (string []) (boolean true) ≡ Greater
text_above_true = refl
