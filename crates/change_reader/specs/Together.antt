-- The conditions on the elements of a list together.
use Rattle.std.specs.Prelude.{List, [], ◌∷◌, ◌++◌, Bool, true, false, not, ◌&&◌, Ok, Err}
use Rattle.std.specs.List.{list_any}
use Rattle.wire_catalog.specs.wire_spec.Table.{Checked}

-- ---- elements are distinct

-- no element meets an earlier one
abbrev pub are_new : {A : Type 0} → (A → A → Bool) → List A → List A → Bool
are_new meets before [] = true
are_new meets before (x ∷ xs) = not (list_any (λ f. meets f x) before) && are_new meets (before ++ x ∷ []) xs

-- ---- a list that the wire format accepts

abbrev pub is_taken : {A : Type 0} → Checked A → Bool
is_taken (Ok a) = true
is_taken (Err refusal) = false
