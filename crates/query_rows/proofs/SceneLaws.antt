-- What fields name, in whatever world has the scene's tables.
use Rattle.std.proofs.Common.{◌≡◌, ◌∙◌, ℕ, List, [], ◌∷◌, Bool, not, map, refl, ap, Option, if◌then◌else◌}
use Rattle.fleet_tables.specs.fleet_rows.declared.row.Entity.{Entity}
use Rattle.query_plan.specs.means_spec.Cells.{field_cell, is_null_cell}
use Rattle.query_plan.specs.means_spec.Means.{is_listed}
use Rattle.query_plan.specs.query_spec.declared.parts.Field.{Field}
use Rattle.query_plan.specs.query_spec.declared.parts.Field.TheVariants.{Column, Parameter, Fact, Tag, NodeState}
use Rattle.query_plan.specs.query_spec.declared.parts.Literal.{Literal}
use Rattle.query_plan.specs.table_spec.Rows.{Cells}
use Rattle.query_rows.specs.Scenes.{world, seen_cell, equals_some}
use Rattle.query_rows.specs.declared.scene.Scene.{Scene}

module _ (s : Scene) (says : List ℕ → List ℕ → Bool) (e : Option Entity) (row : Cells) where
  pub seen_is : (f : Field) → seen_cell s e row f ≡ field_cell (world s says) e f row
  unfolding seen_cell
  seen_is (Column n) = refl
  seen_is (Parameter n) = refl
  seen_is (Fact n) = refl
  seen_is (Tag p) = refl
  seen_is (NodeState p) = refl

  pub tuple_is : (fs : List Field) → map (seen_cell s e row) fs ≡ map (λ f. field_cell (world s says) e f row) fs
  tuple_is [] = refl
  tuple_is (f ∷ fs) = λ i. seen_is f i ∷ tuple_is fs i

  pub null_is : (b : Bool) (f : Field) → (if b then is_null_cell (seen_cell s e row f) else not (is_null_cell (seen_cell s e row f))) ≡ (if b then is_null_cell (field_cell (world s says) e f row) else not (is_null_cell (field_cell (world s says) e f row)))
  null_is b f = ap (λ x. if b then is_null_cell x else not (is_null_cell x)) (seen_is f)

  by_cells : (fs : List Field) (ls : List Literal) → equals_some (map (λ f. field_cell (world s says) e f row) fs) ls ≡ is_listed (world s says) e fs ls row
  by_cells [] ls = refl
  by_cells (f ∷ []) ls = refl
  by_cells (f ∷ g ∷ fs) ls = refl

  pub listed_is : (fs : List Field) (ls : List Literal) → equals_some (map (seen_cell s e row) fs) ls ≡ is_listed (world s says) e fs ls row
  listed_is fs ls = ap (λ xs. equals_some xs ls) (tuple_is fs) ∙ by_cells fs ls
