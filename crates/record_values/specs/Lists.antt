-- Readers of lists, from left to right.
use Rattle.std.specs.Prelude.{ℕ, zero, suc, List, [], ◌∷◌, Bool, true, ◌&&◌, Some, None, if◌then◌else◌}
use Rattle.std.specs.Int.{w32}
use Rattle.std.specs.Ordering.{is_lt}
use Rattle.json_read.specs.text_spec.Compact.{text_cmp}
use Rattle.record_fields.specs.Reading.{◌>>=◌, Reader, number_at, text_at}

-- n elements, one after the other
abbrev pub items_at : {A : Type 0} → Reader A → ℕ → Reader (List A)
items_at read zero bytes = Some ([], bytes)
items_at read (suc n) bytes = do
  a ← read bytes
  items_at read n a.1 >>= λ as_. Some (a.0 ∷ as_.0, as_.1)

unfoldable pub list_at : {A : Type 0} → Reader A → Reader (List A)
list_at read bytes = do
  n ← number_at w32 bytes
  items_at read n.0 n.1

-- ---- tags are strictly sorted

abbrev pub rise_from : List ℕ → List (List ℕ) → Bool
rise_from t [] = true
rise_from t (u ∷ us) = is_lt (text_cmp t u) && rise_from u us

abbrev pub rise : List (List ℕ) → Bool
rise [] = true
rise (t ∷ ts) = rise_from t ts

unfoldable pub tags_at : Reader (List (List ℕ))
tags_at bytes = do
  tags ← list_at text_at bytes
  if rise tags.0 then Some tags else None
