-- A stage chooses only rows in reach.
use Rattle.std.proofs.Common.{◌≡◌, ◌∙◌, ℕ, List, [], ◌∷◌, ◌++◌, refl, ap, Bool, true, false, ◌&&◌, Option, Some, None, if◌then◌else◌, codes}
use Rattle.std.specs.List.{list_all}
use Rattle.std.specs.Str.{bytes_eq}
use Rattle.ast_tree.proofs.of_plain_laws.Booleans.{both_true, true_both}
use Rattle.ast_tree.proofs.of_plain_laws.Lists.{one_text}
use Rattle.query_plan.specs.table_spec.fleet_rows.declared.row.Entity.{Entity}
use Rattle.query_plan.specs.table_spec.fleet_rows.declared.row.Entity.TheVariants.{Facts, Resources}
use Rattle.query_plan.specs.query_spec.declared.parts.Field.{Field}
use Rattle.query_plan.specs.query_spec.declared.parts.Field.TheVariants as field
use Rattle.query_plan.specs.query_spec.declared.parts.Op.{Op}
use Rattle.query_plan.specs.query_spec.declared.parts.Op.TheVariants.{Equal, Less, AtMost, More, AtLeast}
use Rattle.query_plan.specs.query_spec.declared.parts.Scalar.{Scalar}
use Rattle.query_plan.specs.query_spec.declared.parts.Scalar.TheVariants as scalar
use Rattle.query_plan.specs.table_spec.Named.{text_equals}
use Rattle.query_plan.specs.table_spec.Rows.{Cells}
use Rattle.query_plan.specs.means_spec.World.{World}
use Rattle.query_plan.specs.means_spec.Cells.{cell_in, field_compares}
use Rattle.query_plan.specs.means_spec.Means.{is_seen}
use Rattle.query_plan.specs.Plan.{Step, compares, tests_null, lists, fits, selects, shares_node, constant, invert, both, either, act, run, top}
use Rattle.query_reach.specs.Reach.{Pin, pin_of, demanded, shows, beside, shows_own, is_found}
use Rattle.query_reach.specs.Pins.{pin_act, pin_run, pin_top, step_pins}
use Rattle.query_reach.specs.Laws.{ChosenRowsAreFound}

-- the row shows what the pin says
abbrev pub has_pin : Option Entity → Cells → Pin → Bool
has_pin e row p = text_equals p.text (cell_in e p.column row)

abbrev pub has_pins : Option Entity → Cells → List Pin → Bool
has_pins e row ps = list_all (has_pin e row) ps

and-true : (a : Bool) → (a && true) ≡ a
and-true true = refl
and-true false = refl

all_both : (p : Pin → Bool) (xs ys : List Pin) → list_all p xs ≡ true → list_all p ys ≡ true → list_all p (xs ++ ys) ≡ true
all_both p [] ys a b = b
all_both p (x ∷ xs) ys a b =
    let h = both_true (p x) (list_all p xs) a in
    true_both (p x) (list_all p (xs ++ ys)) h.0 (all_both p xs ys h.1 b)

-- ---- the steps of a stage, whatever was found

module _ (w : World) (patterns : List (List ℕ)) (found : List (List Cells)) (e : Option Entity) (row : Cells) where
  compared : (o : Op) (f : Field) (l : Scalar) → field_compares w e o f l row ≡ true → has_pins e row (pin_of o f l) ≡ true
  compared Equal (field.Column n) (scalar.Text s) h = and-true (text_equals s (cell_in e n.text row)) ∙ h
  compared Equal (field.Column n) (scalar.Num s) h = refl
  compared Equal (field.Column n) (scalar.Bool b) h = refl
  compared Equal (field.Parameter n) l h = refl
  compared Equal (field.Fact n) l h = refl
  compared Equal (field.Tag p) l h = refl
  compared Equal (field.NodeState p) l h = refl
  compared Less f l h = refl
  compared AtMost f l h = refl
  compared More f l h = refl
  compared AtLeast f l h = refl

  -- each boolean that is true tells what is demanded beside it
  abbrev Tell : List Bool → List (List Pin) → Type 0
  Tell [] [] = Unit {0}
  Tell [] (ps ∷ pst) = ⊥
  Tell (b ∷ st) [] = ⊥
  Tell (b ∷ st) (ps ∷ pst) = (b ≡ true → has_pins e row ps ≡ true) × Tell st pst

  inverted : (st : List Bool) (pst : List (List Pin)) → Tell st pst → Tell (act w patterns found e row invert st) (pin_act invert pst)
  inverted [] [] t = tt
  inverted [] (p ∷ pst) t = absurd t
  inverted (a ∷ st) [] t = absurd t
  inverted (a ∷ st) (p ∷ pst) t = (λ h. refl, t.1)

  both_told : (st : List Bool) (pst : List (List Pin)) → Tell st pst → Tell (act w patterns found e row both st) (pin_act both pst)
  both_told [] [] t = tt
  both_told [] (q ∷ pst) t = absurd t
  both_told (b ∷ st) [] t = absurd t
  both_told (b ∷ []) (q ∷ []) t = tt
  both_told (b ∷ []) (q ∷ p ∷ pst) t = absurd t.1
  both_told (b ∷ a ∷ st) (q ∷ []) t = absurd t.1
  both_told (b ∷ a ∷ st) (q ∷ p ∷ pst) t = (
    λ h. let parts = both_true a b h in all_both (has_pin e row) p q (t.1.0 parts.0) (t.0 parts.1),
    t.1.1,
  )

  either_told : (st : List Bool) (pst : List (List Pin)) → Tell st pst → Tell (act w patterns found e row either st) (pin_act either pst)
  either_told [] [] t = tt
  either_told [] (q ∷ pst) t = absurd t
  either_told (b ∷ st) [] t = absurd t
  either_told (b ∷ []) (q ∷ []) t = tt
  either_told (b ∷ []) (q ∷ p ∷ pst) t = absurd t.1
  either_told (b ∷ a ∷ st) (q ∷ []) t = absurd t.1
  either_told (b ∷ a ∷ st) (q ∷ p ∷ pst) t = (λ h. refl, t.1.1)

  act_tells : (s : Step) (st : List Bool) (pst : List (List Pin)) → Tell st pst → Tell (act w patterns found e row s st) (pin_act s pst)
  act_tells (compares o f l) st pst t = (compared o f l, t)
  act_tells (tests_null f b) st pst t = (λ h. refl, t)
  act_tells (lists fs ls) st pst t = (λ h. refl, t)
  act_tells (fits f j) st pst t = (λ h. refl, t)
  act_tells (selects fs i) st pst t = (λ h. refl, t)
  act_tells (shares_node o i) st pst t = (λ h. refl, t)
  act_tells (constant b) st pst t = (λ h. refl, t)
  act_tells invert st pst t = inverted st pst t
  act_tells both st pst t = both_told st pst t
  act_tells either st pst t = either_told st pst t

  run_tells : (ss : List Step) (st : List Bool) (pst : List (List Pin)) → Tell st pst → Tell (run w patterns found e row ss st) (pin_run ss pst)
  run_tells [] st pst t = t
  run_tells (s ∷ ss) st pst t = run_tells ss (act w patterns found e row s st) (pin_act s pst) (act_tells s st pst t)

  top_tells : (st : List Bool) (pst : List (List Pin)) → Tell st pst → top st ≡ true → has_pins e row (pin_top pst) ≡ true
  top_tells [] [] t h = refl
  top_tells [] (ps ∷ pst) t h = absurd t
  top_tells (b ∷ st) [] t h = absurd t
  top_tells (b ∷ st) (ps ∷ pst) t h = t.0 h

-- ---- so the row is in reach

-- what all pins say, the pins of one column say
shown_step : (e : Option Entity) (row : Cells) (column : List ℕ) (p : Pin) (texts : List (List ℕ)) (b : Bool) → bytes_eq column p.column ≡ b → has_pin e row p ≡ true → shows e column texts row ≡ true
    → shows e column (if b then p.text ∷ texts else texts) row ≡ true
shown_step e row column p texts true same h rest =
    let one : column ≡ p.column = one_text column p.column same in
    true_both (text_equals p.text (cell_in e column row)) (shows e column texts row) (ap (λ c. text_equals p.text (cell_in e c row)) one ∙ h) rest
shown_step e row column p texts false same h rest = rest

pub shown : (e : Option Entity) (row : Cells) (column : List ℕ) (ps : List Pin) → has_pins e row ps ≡ true → shows e column (demanded column ps) row ≡ true
shown e row column [] h = refl
shown e row column (p ∷ ps) h =
    let parts = both_true (has_pin e row p) (has_pins e row ps) h in
    shown_step e row column p (demanded column ps) (bytes_eq column p.column) refl parts.0 (shown e row column ps parts.1)

beside_shown : (e : Option Entity) (row : Cells) (column : List ℕ) (types titles : List (List ℕ)) → shows e column titles row ≡ true → shows e column (beside types titles) row ≡ true
beside_shown e row column [] titles h = refl
beside_shown e row column (t ∷ ts) titles h = h

resource_shown : (row : Cells) (ps : List Pin) → has_pins (Some Resources) row ps ≡ true → shows_own (Some Resources) ps row ≡ true
resource_shown row ps h =
    let types = demanded (codes "type") ps in
    let titles = demanded (codes "title") ps in
    true_both (shows (Some Resources) (codes "type") types row) (shows (Some Resources) (codes "title") (beside types titles) row)
    (shown (Some Resources) row (codes "type") ps h) (beside_shown (Some Resources) row (codes "title") types titles (shown (Some Resources) row (codes "title") ps h))

own_shown : (e : Option Entity) (row : Cells) (ps : List Pin) → has_pins e row ps ≡ true → shows_own e ps row ≡ true
own_shown None row ps h = refl
own_shown (Some Facts) row ps h = shown (Some Facts) row (codes "name") ps h
own_shown (Some Resources) row ps h = resource_shown row ps h
own_shown (Some _) row ps h = refl

pub pins_find : (e : Option Entity) (row : Cells) (ps : List Pin) → has_pins e row ps ≡ true → is_found e ps row ≡ true
pins_find e row ps h =
    true_both (shows e (codes "certname") (demanded (codes "certname") ps) row) (shows_own e ps row) (shown e row (codes "certname") ps h) (own_shown e row ps h)

pub chosen_rows_are_found : ChosenRowsAreFound
chosen_rows_are_found w patterns found s row h =
    let parts = both_true (top (run w patterns found s.entity row s.steps [])) (is_seen w s.entity s.state row) h in
    pins_find s.entity row (step_pins s.steps)
    (top_tells w patterns found s.entity row (run w patterns found s.entity row s.steps []) (pin_run s.steps []) (run_tells w patterns found s.entity row s.steps [] [] tt) parts.0)
