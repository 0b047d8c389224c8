-- What patterns answer on the texts of a block of rows, before its rows are looked at one by one.
use Rattle.std.specs.Prelude.{◌≡◌, ℕ, List, [], ◌∷◌, Bool, false, Option, Some, None, slice_get}
use Rattle.std.specs.Option.{option_map_or, option_and_then}
use Rattle.fleet_tables.specs.fleet_rows.declared.row.Entity.{Entity}
use Rattle.query_plan.specs.means_spec.Cells.{text_in}
use Rattle.query_plan.specs.query_spec.declared.parts.Field.{Field}
use Rattle.query_plan.specs.Plan.{Step, fits}
use Rattle.query_plan.specs.table_spec.Rows.{Cells}
use Rattle.query_rows.specs.Scenes.{seen_cell}
use Rattle.query_rows.specs.declared.blocks.Column.{Column}
use Rattle.query_rows.specs.declared.scene.Scene.{Scene}

abbrev pub text_or_none : Option (List ℕ) → List ℕ
text_or_none None = []
text_or_none (Some t) = t

-- the boolean of row i in column k, if there is one
abbrev pub given_at : List Column → ℕ → ℕ → Option Bool
given_at columns k i = option_and_then (λ (c : Column). slice_get c.truths.items i) (slice_get columns k)

module _ (s : Scene) (says : List ℕ → List ℕ → Bool) (ps : List (List ℕ)) (e : Option Entity) where
  -- whether the text that the field names matches the pattern with this number; without a text the empty one
  abbrev pub text_fits : Cells → Field → ℕ → Bool
  text_fits row f j = option_map_or (λ p. says p (text_or_none (text_in (seen_cell s e row f)))) (slice_get ps j) false

  -- where the step tests a field for a pattern and a boolean is given, it is this answer
  abbrev pub IsGiven : Cells → Option Bool → Step → Type 0
  IsGiven row None x = Unit {0}
  IsGiven row (Some b) (fits f j) = b ≡ text_fits row f j
  IsGiven row (Some b) _ = Unit {0}

  -- for each step of a row
  abbrev pub AreGiven : Cells → List Step → List Column → ℕ → Type 0
  AreGiven row xs columns i = (k : ℕ) (x : Step) → slice_get xs k ≡ Some x → IsGiven row (given_at columns k i) x

  -- for each row of a block
  abbrev pub IsColumn : List Cells → Step → Column → Type 0
  IsColumn rows x c = (i : ℕ) (row : Cells) → slice_get rows i ≡ Some row → IsGiven row (slice_get c.truths.items i) x

  abbrev pub AreColumns : List Cells → List Step → List Column → Type 0
  AreColumns rows (x ∷ xs) (c ∷ cs) = IsColumn rows x c × AreColumns rows xs cs
  AreColumns rows _ _ = Unit {0}
