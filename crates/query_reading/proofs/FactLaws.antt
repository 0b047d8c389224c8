-- Steps tell the same of a row over two lists of facts that have the same facts of the row's node, as far as steps name them.
use Rattle.std.proofs.Common.{◌≡◌, ◌∙◌, ℕ, List, [], ◌∷◌, ◌++◌, Bool, false, not, ◌&&◌, map, refl, ap, Option, Some, if◌then◌else◌, unwrap_or, codes}
use Rattle.std.specs.Prelude.{slice_get}
use Rattle.std.specs.List.{list_any, AllByRecursion}
use Rattle.std.specs.Option.{option_map, option_map_or}
use Rattle.fleet_tables.specs.fleet_rows.Cell.{plain}
use Rattle.fleet_tables.specs.fleet_rows.declared.row.Entity.{Entity}
use Rattle.fleet_tables.specs.fleet_rows.declared.row.Entity.TheVariants.{Facts}
use Rattle.same_text.specs.text_spec.Json.{null}
use Rattle.query_plan.specs.means_spec.World.{World}
use Rattle.query_plan.specs.means_spec.Cells.{cell_in, node_in, is_null_cell, text_in, field_cell, field_compares, compares, equals, equal_cells}
use Rattle.query_plan.specs.means_spec.Means.{is_listed, is_seen}
use Rattle.query_plan.specs.Plan as plan
use Rattle.query_plan.specs.Plan.{Step, Stage, act, run, top, is_chosen}
use Rattle.query_plan.specs.query_spec.declared.parts.Field.{Field}
use Rattle.query_plan.specs.query_spec.declared.parts.Field.TheVariants.{Column, Parameter, Fact, Tag, NodeState}
use Rattle.query_plan.specs.query_spec.declared.parts.Literal.{Literal}
use Rattle.query_plan.specs.query_spec.declared.parts.Op.{Op}
use Rattle.query_plan.specs.query_spec.declared.parts.Scalar.{Scalar}
use Rattle.query_plan.specs.table_spec.Rows.{Cells}
use Rattle.query_reach.specs.Reach.{field_facts, fields_facts}
use Rattle.query_reach.specs.Pins.{step_facts, steps_facts}
use Rattle.query_reading.specs.Fetched.{SameFact}

-- what holds of joined lists holds of each
all_left : {A : Type 0} (P : A → Type 0) (xs ys : List A) → AllByRecursion P (xs ++ ys) → AllByRecursion P xs
all_left P [] ys h = tt
all_left P (x ∷ xs) ys h = (h.0, all_left P xs ys h.1)

all_right : {A : Type 0} (P : A → Type 0) (xs ys : List A) → AllByRecursion P (xs ++ ys) → AllByRecursion P ys
all_right P [] ys h = h
all_right P (x ∷ xs) ys h = all_right P xs ys h.1

module _ (a b : Entity → List Cells) (inactive : List ℕ → Bool) (says : List ℕ → List ℕ → Bool) where
  abbrev v : World
  v = record { rows = a; is_inactive = inactive; matches = says }

  abbrev w : World
  w = record { rows = b; is_inactive = inactive; matches = says }

  module _ (e : Option Entity) (row : Cells) where
    abbrev Same : List (List ℕ) → Type 0
    Same = AllByRecursion (SameFact (node_in e row) (a Facts) (b Facts))

    field_alike : (f : Field) → Same (field_facts f) → field_cell v e f row ≡ field_cell w e f row
    field_alike (Column n) h = refl
    field_alike (Parameter n) h = refl
    field_alike (Fact n) h = ap (λ o. unwrap_or (option_map (cell_in (Some Facts) (codes "value")) o) (plain null)) h.0
    field_alike (Tag p) h = refl
    field_alike (NodeState p) h = refl

    fields_alike : (fs : List Field) → Same (fields_facts fs) → map (λ f. field_cell v e f row) fs ≡ map (λ f. field_cell w e f row) fs
    fields_alike [] h = refl
    fields_alike (f ∷ fs) h =
        let P = SameFact (node_in e row) (a Facts) (b Facts) in
        let first = field_alike f (all_left P (field_facts f) (fields_facts fs) h) in
        let rest = fields_alike fs (all_right P (field_facts f) (fields_facts fs) h) in
        λ i. first i ∷ rest i

    compares_alike : (o : Op) (f : Field) (l : Scalar) → Same (field_facts f) → field_compares v e o f l row ≡ field_compares w e o f l row
    compares_alike o (Column n) l h = refl
    compares_alike o (Parameter n) l h = refl
    compares_alike o (Fact n) l h = ap (λ x. compares o x l) (field_alike (Fact n) h)
    compares_alike o (Tag p) l h = refl
    compares_alike o (NodeState p) l h = refl

    listed_alike : (fs : List Field) (ls : List Literal) → Same (fields_facts fs) → is_listed v e fs ls row ≡ is_listed w e fs ls row
    listed_alike [] ls h = refl
    listed_alike (f ∷ []) ls h =
        ap (λ x. list_any (λ (l : Literal). equals x l.value) ls) (field_alike f (all_left (SameFact (node_in e row) (a Facts) (b Facts)) (field_facts f) [] h))
    listed_alike (f ∷ g ∷ fs) ls h = refl

    module _ (ps : List (List ℕ)) (found : List (List Cells)) where
      act_alike : (s : Step) (st : List Bool) → Same (step_facts s) → act v ps found e row s st ≡ act w ps found e row s st
      act_alike (plan.compares o f l) st h = ap (λ t. t ∷ st) (compares_alike o f l h)
      act_alike (plan.tests_null f t) st h = ap (λ x. (if t then is_null_cell x else not (is_null_cell x)) ∷ st) (field_alike f h)
      act_alike (plan.lists fs ls) st h = ap (λ t. t ∷ st) (listed_alike fs ls h)
      act_alike (plan.fits f j) st h = ap (λ x. option_map_or (λ p. option_map_or (says p) (text_in x) false) (slice_get ps j) false ∷ st) (field_alike f h)
      act_alike (plan.selects fs i) st h = ap (λ xs. option_map_or (list_any (equal_cells xs)) (slice_get found i) false ∷ st) (fields_alike fs h)
      act_alike (plan.shares_node o i) st h = refl
      act_alike (plan.constant t) st h = refl
      act_alike plan.invert st h = refl
      act_alike plan.both st h = refl
      act_alike plan.either st h = refl

      run_alike : (ss : List Step) (st : List Bool) → Same (steps_facts ss) → run v ps found e row ss st ≡ run w ps found e row ss st
      run_alike [] st h = refl
      run_alike (s ∷ ss) st h =
          let P = SameFact (node_in e row) (a Facts) (b Facts) in
          ap (run v ps found e row ss) (act_alike s st (all_left P (step_facts s) (steps_facts ss) h))
          ∙ run_alike ss (act w ps found e row s st) (all_right P (step_facts s) (steps_facts ss) h)

  -- so the row is chosen alike
  pub row_alike : (ps : List (List ℕ)) (found : List (List Cells)) (s : Stage) (row : Cells) → AllByRecursion (SameFact (node_in s.entity row) (a Facts) (b Facts)) (steps_facts s.steps)
      → is_chosen v ps found s row ≡ is_chosen w ps found s row
  row_alike ps found s row h = ap (λ st. top st && is_seen v s.entity s.state row) (run_alike s.entity row ps found s.steps [] h)
