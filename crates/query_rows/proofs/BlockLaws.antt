-- What patterns answer on a block of rows, step by step and row by row.
use Rattle.std.proofs.Common.{◌≡◌, ◌∙◌, ℕ, zero, suc, ◌+◌, List, [], ◌∷◌, ◌++◌, Bool, true, false, ◌&&◌, Option, Some, None, Result, Ok, Err, is_some, map, length, refl, sym, ap, subst}
use Rattle.std.specs.Prelude.{slice_get, option_map}
use Rattle.std.specs.Option.{option_map_or}
use Rattle.fleet_tables.specs.fleet_rows.declared.row.Entity.{Entity}
use Rattle.pattern_port.specs.Course.{Act, tried, course_more, only_tried, tries_on, AreTried}
use Rattle.query_plan.specs.means_spec.Cells.{text_in}
use Rattle.query_plan.specs.query_spec.declared.parts.Field.{Field}
use Rattle.query_plan.specs.Plan.{Step, fits}
use Rattle.query_plan.specs.table_spec.Rows.{Cells}
use Rattle.query_rows.specs.Columns.{text_or_none, given_at, IsGiven, AreGiven, IsColumn, AreColumns}
use Rattle.query_rows.specs.Scenes.{seen_cell}
use Rattle.query_rows.specs.Tries.{HasTried}
use Rattle.query_rows.specs.declared.blocks.Column.{Column}
use Rattle.query_rows.specs.declared.scene.Scene.{Scene}
use Rattle.query_rows.proofs.Gets.{get_map}

-- ---- tries

tries_are : (p : List ℕ) (texts : List (List ℕ)) → tries_on p texts ≡ only_tried (map (λ (t : List ℕ). (p, t)) texts)
tries_are p [] = refl
tries_are p (t ∷ texts) = ap (λ l. tried p t ∷ l) (tries_are p texts)

pub tried_each : {A E : Type 0} (p : List ℕ) (texts : List (List ℕ)) (before now : Option (List Act)) (r : Result A E) → AreTried p texts before now r → HasTried before now
tried_each p texts before now (Ok x) h = record { tries = map (λ (t : List ℕ). (p, t)) texts; course = h ∙ ap (course_more before) (tries_are p texts) }
tried_each p texts before now (Err e) h = record { tries = map (λ (t : List ℕ). (p, t)) h.earlier; course = h.course ∙ ap (course_more before) (tries_are p h.earlier) }

-- ---- a text that matches

pub both_fit : (says : List ℕ → List ℕ → Bool) (o p : Option (List ℕ))
    → (is_some o && option_map_or (λ q. says q (text_or_none o)) p false) ≡ option_map_or (λ q. option_map_or (says q) o false) p false
both_fit says None None = refl
both_fit says None (Some p) = refl
both_fit says (Some t) None = refl
both_fit says (Some t) (Some p) = refl

module _ (s : Scene) (says : List ℕ → List ℕ → Bool) (ps : List (List ℕ)) (e : Option Entity) where
  module _ (rows : List Cells) where
    -- the answers on the texts of a field
    pub answers_given : (f : Field) (j : ℕ) (q : List ℕ) (bs : List Bool) → slice_get ps j ≡ Some q → bs ≡ map (says q) (map (λ row. text_or_none (text_in (seen_cell s e row f))) rows)
        → (i : ℕ) (row : Cells) → slice_get rows i ≡ Some row → IsGiven s says ps e row (slice_get bs i) (fits f j)
    answers_given f j q bs at is i row there =
        let shown : Cells → List ℕ = λ r. text_or_none (text_in (seen_cell s e r f)) in
        let here : slice_get bs i ≡ Some (says q (shown row)) =
        ap (λ l. slice_get l i) is ∙ get_map (says q) (map shown rows) i ∙ ap (option_map (says q)) (get_map shown rows i ∙ ap (option_map shown) there)
        in
        subst (λ (o : Option Bool). IsGiven s says ps e row o (fits f j)) (sym here) (sym (ap (λ o. option_map_or (λ p. says p (shown row)) o false) at))

    pub none_left : (xs : List Step) → AreColumns s says ps e rows xs []
    none_left [] = tt
    none_left (x ∷ xs) = tt

    pub columns_on : (xs : List Step) (cs : List Column) (x : Step) (c : Column) → slice_get xs (length cs) ≡ Some x → IsColumn s says ps e rows x c
        → AreColumns s says ps e rows xs cs → AreColumns s says ps e rows xs (cs ++ c ∷ [])
    columns_on [] cs x c at is h = tt
    columns_on (y ∷ xs) [] x c at is h = let same : y ≡ x = cc in (subst (λ (z : Step). IsColumn s says ps e rows z c) (sym same) is, none_left xs)
    columns_on (y ∷ xs) (d ∷ cs) x c at is h = (h.0, columns_on xs cs x c at is h.1)

    pub given_from : (i : ℕ) (row : Cells) → slice_get rows i ≡ Some row → (xs : List Step) (cs : List Column) → AreColumns s says ps e rows xs cs → AreGiven s says ps e row xs cs i
    given_from i row there [] cs h k x at = absurd (let apart : None ≡ Some x = at in cc)
    given_from i row there (y ∷ xs) [] h k x at = tt
    given_from i row there (y ∷ xs) (c ∷ cs) h zero x at =
        let same : y ≡ x = cc in
        subst (λ (z : Step). IsGiven s says ps e row (slice_get c.truths.items i) z) same (h.0 i row there)
    given_from i row there (y ∷ xs) (c ∷ cs) h (suc k) x at = given_from i row there xs cs h.1 k x at
