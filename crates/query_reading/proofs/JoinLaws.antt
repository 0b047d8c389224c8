-- A row that passes a filter is of a node of the level that the filter demands.
use Rattle.std.proofs.Common.{◌≡◌, ◌∙◌, ◌+◌, ◌<◌, ℕ, List, [], ◌∷◌, length, map, drop, get_or, refl, sym, ap, subst, Bool, true, false, ◌&&◌, ◌||◌, Option, Some, None, codes, unwrap_or, inl, inr}
use Rattle.std.specs.Prelude.{slice_get}
use Rattle.std.specs.List.{list_any}
use Rattle.std.specs.Option.{option_map_or}
use Rattle.std.specs.Str.{bytes_eq}
use Rattle.std.proofs.lemmas.List.{drop_more}
use Rattle.fleet_tables.proofs.of_plain_laws.Booleans.{both_true}
use Rattle.fleet_tables.proofs.of_plain_laws.Lists.{one_text}
use Rattle.fleet_tables.proofs.of_checkpoint_spec.of_text_laws.SameLaws.{text_turn}
use Rattle.fleet_tables.specs.fleet_rows.Cell.{CellValue}
use Rattle.fleet_tables.specs.fleet_rows.declared.row.Entity.{Entity}
use Rattle.same_text.specs.text_spec.Json.{null, boolean, number, string, array, object}
use Rattle.query_plan.specs.Made.{step_of, steps_of}
use Rattle.query_plan.specs.declared.step.Step as code
use Rattle.query_plan.specs.Plan.{Step, Stage, compares, tests_null, lists, fits, selects, shares_node, constant, invert, both, either, act, run, top, is_chosen}
use Rattle.query_plan.specs.means_spec.Cells.{cell_in, node_in, field_cell, equal_cells, text_in}
use Rattle.query_plan.specs.means_spec.Means.{is_seen}
use Rattle.query_plan.specs.means_spec.World.{World}
use Rattle.query_plan.specs.query_spec.declared.parts.Field.{Field}
use Rattle.query_plan.specs.query_spec.declared.parts.Field.TheVariants as field
use Rattle.query_plan.specs.table_spec.Cells.{text_cell}
use Rattle.query_plan.specs.table_spec.Columns.{columns}
use Rattle.query_plan.specs.table_spec.Named.{cell_under, text_equals}
use Rattle.query_plan.specs.table_spec.Rows.{Cells}
use Rattle.query_reading.specs.Joins.{column_join, fields_join, first_join, join_act, join_run, join_top, step_join, has_node, is_among, Joins, is_of}
use Rattle.query_reading.specs.declared.joins.Join.{Join}
use Rattle.query_reading.specs.declared.joins.Join.TheVariants.{ByCell, ByNode}
use Rattle.query_reading.proofs.TextCells.{IsTextIn}

pub one_more : (steps : List code.Step) (i : ℕ) (s : code.Step) → i < length steps → s ≡ get_or steps i s → (before after whole : List (Option Join)) → after ≡ join_act (step_of s) before
    → join_run (steps_of (drop i steps)) before ≡ whole → join_run (steps_of (drop (i + 1) steps)) after ≡ whole
one_more steps i s lt at before after whole acted so_far =
    let rest = steps_of (drop (i + 1) steps) in
    let is : steps_of (drop i steps) ≡ step_of s ∷ rest = ap steps_of (drop_more steps i s lt) ∙ ap (λ (x : code.Step). step_of x ∷ rest) (sym at) in
    ap (join_run rest) acted ∙ sym (ap (λ l. join_run l before) is) ∙ so_far

-- ---- rows that are gone through one by one

on_row : (a t r n : Bool) → (a || (t || r)) ≡ true → ((t || a) ≡ true → n ≡ true) → (n || r) ≡ true
on_row a t r true h f = refl
on_row a t true false h f = refl
on_row a true false false h f = absurd (let apart : false ≡ true = f refl in cc)
on_row true false false false h f = absurd (let apart : false ≡ true = f refl in cc)
on_row false false false false h f = absurd (let apart : false ≡ true = h in cc)

pub row_on : (test : Cells → Bool) (rows : List Cells) (i : ℕ) (x : Cells) (a n : Bool) → i < length rows → x ≡ get_or rows i x → (a || list_any test (drop i rows)) ≡ true → ((test x || a) ≡ true → n ≡ true)
    → (n || list_any test (drop (i + 1) rows)) ≡ true
row_on test rows i x a n lt at h f =
    let is : list_any test (drop i rows) ≡ (test x || list_any test (drop (i + 1) rows)) = ap (list_any test) (drop_more rows i x lt ∙ ap (λ y. y ∷ drop (i + 1) rows) (sym at)) in
    on_row a (test x) (list_any test (drop (i + 1) rows)) n (sym (ap (λ b. a || b) is) ∙ h) f

or_none : (a : Bool) → (a || false) ≡ true → a ≡ true
or_none true h = refl
or_none false h = h

pub rows_off : (test : Cells → Bool) (rows : List Cells) (i : ℕ) (a : Bool) → drop i rows ≡ [] → (a || list_any test (drop i rows)) ≡ true → a ≡ true
rows_off test rows i a none h = or_none a (sym (ap (λ l. a || list_any test l) none) ∙ h)

-- ---- what steps demand

module _ (found : List (List Cells)) (e : Option Entity) (row : Cells) where
  -- the row is one that the level has
  abbrev pub is_joined : Join → Bool
  is_joined (ByCell i) = option_map_or (list_any (equal_cells (cell_in e (codes "certname") row ∷ []))) (slice_get found i) false
  is_joined (ByNode o i) = option_map_or (list_any (λ other. bytes_eq (node_in o other) (node_in e row))) (slice_get found i) false

  abbrev pub Holds : Option Join → Type 0
  Holds None = Unit {0}
  Holds (Some j) = is_joined j ≡ true

module _ (w : World) (patterns : List (List ℕ)) (found : List (List Cells)) (e : Option Entity) (row : Cells) where
  abbrev Told : Option Join → Type 0
  Told = Holds found e row

  column_holds : (b : Bool) (s : List ℕ) (i : ℕ) → bytes_eq s (codes "certname") ≡ b → option_map_or (list_any (equal_cells (cell_in e s row ∷ []))) (slice_get found i) false ≡ true → Told (column_join b i)
  column_holds true s i is h = sym (ap (λ t. option_map_or (list_any (equal_cells (cell_in e t row ∷ []))) (slice_get found i) false) (one_text s (codes "certname") is)) ∙ h
  column_holds false s i is h = tt

  fields_hold : (fs : List Field) (i : ℕ) → option_map_or (list_any (equal_cells (map (λ f. field_cell w e f row) fs))) (slice_get found i) false ≡ true → Told (fields_join fs i)
  fields_hold [] i h = tt
  fields_hold (field.Column n ∷ []) i h = column_holds (bytes_eq n.text (codes "certname")) n.text i refl h
  fields_hold (field.Parameter n ∷ []) i h = tt
  fields_hold (field.Fact n ∷ []) i h = tt
  fields_hold (field.Tag p ∷ []) i h = tt
  fields_hold (field.NodeState p ∷ []) i h = tt
  fields_hold (f ∷ g ∷ fs) i h = tt

  first_holds : (a b : Option Join) → Told a → Told b → Told (first_join a b)
  first_holds None b h k = k
  first_holds (Some j) b h k = h

  -- each boolean that is true tells what is demanded beside it
  abbrev Tell : List Bool → List (Option Join) → Type 0
  Tell [] [] = Unit {0}
  Tell [] (j ∷ js) = ⊥
  Tell (b ∷ st) [] = ⊥
  Tell (b ∷ st) (j ∷ js) = (b ≡ true → Told j) × Tell st js

  inverted : (st : List Bool) (js : List (Option Join)) → Tell st js → Tell (act w patterns found e row invert st) (join_act invert js)
  inverted [] [] t = tt
  inverted [] (j ∷ js) t = absurd t
  inverted (a ∷ st) [] t = absurd t
  inverted (a ∷ st) (j ∷ js) t = (λ h. tt, t.1)

  both_told : (st : List Bool) (js : List (Option Join)) → Tell st js → Tell (act w patterns found e row both st) (join_act both js)
  both_told [] [] t = tt
  both_told [] (j ∷ js) t = absurd t
  both_told (b ∷ st) [] t = absurd t
  both_told (b ∷ []) (j ∷ []) t = tt
  both_told (b ∷ []) (j ∷ i ∷ js) t = absurd t.1
  both_told (b ∷ a ∷ st) (j ∷ []) t = absurd t.1
  both_told (b ∷ a ∷ st) (j ∷ i ∷ js) t = (λ h. let parts = both_true a b h in first_holds i j (t.1.0 parts.0) (t.0 parts.1), t.1.1)

  either_told : (st : List Bool) (js : List (Option Join)) → Tell st js → Tell (act w patterns found e row either st) (join_act either js)
  either_told [] [] t = tt
  either_told [] (j ∷ js) t = absurd t
  either_told (b ∷ st) [] t = absurd t
  either_told (b ∷ []) (j ∷ []) t = tt
  either_told (b ∷ []) (j ∷ i ∷ js) t = absurd t.1
  either_told (b ∷ a ∷ st) (j ∷ []) t = absurd t.1
  either_told (b ∷ a ∷ st) (j ∷ i ∷ js) t = (λ h. tt, t.1.1)

  act_tells : (s : Step) (st : List Bool) (js : List (Option Join)) → Tell st js → Tell (act w patterns found e row s st) (join_act s js)
  act_tells (compares o f l) st js t = (λ h. tt, t)
  act_tells (tests_null f b) st js t = (λ h. tt, t)
  act_tells (lists fs ls) st js t = (λ h. tt, t)
  act_tells (fits f j) st js t = (λ h. tt, t)
  act_tells (selects fs i) st js t = (fields_hold fs i, t)
  act_tells (shares_node o i) st js t = (λ h. h, t)
  act_tells (constant b) st js t = (λ h. tt, t)
  act_tells invert st js t = inverted st js t
  act_tells both st js t = both_told st js t
  act_tells either st js t = either_told st js t

  run_tells : (ss : List Step) (st : List Bool) (js : List (Option Join)) → Tell st js → Tell (run w patterns found e row ss st) (join_run ss js)
  run_tells [] st js t = t
  run_tells (s ∷ ss) st js t = run_tells ss (act w patterns found e row s st) (join_act s js) (act_tells s st js t)

  top_tells : (st : List Bool) (js : List (Option Join)) → Tell st js → top st ≡ true → Told (join_top js)
  top_tells [] [] t h = tt
  top_tells [] (j ∷ js) t h = absurd t
  top_tells (b ∷ st) [] t h = absurd t
  top_tells (b ∷ st) (j ∷ js) t h = t.0 h

  pub steps_tell : (ss : List Step) → top (run w patterns found e row ss []) ≡ true → Told (step_join ss)
  steps_tell ss = top_tells (run w patterns found e row ss []) (join_run ss []) (run_tells ss [] [] tt)

-- ---- so its node is one of those that the level found

any_up : {A : Type 0} (p q : A → Bool) (xs : List A) → ((x : A) → p x ≡ true → q x ≡ true) → list_any p xs ≡ true → list_any q xs ≡ true
any_up p q [] f h = h
any_up p q (x ∷ xs) f h = up (p x) (q x) (list_any p xs) (list_any q xs) (f x) (any_up p q xs f) h
  where
    up : (a b c d : Bool) → (a ≡ true → b ≡ true) → (c ≡ true → d ≡ true) → (a || c) ≡ true → (b || d) ≡ true
    up a true c d f g h = refl
    up true false c d f g h = absurd (let apart : false ≡ true = f refl in cc)
    up false false c d f g h = g h

-- where the certname is a text, the level has it
text_had : (found : List (List Cells)) (e : Entity) (row : Cells) (s : List ℕ) → cell_under (columns e) (codes "certname") row ≡ text_cell s → (j : Join) → is_joined found (Some e) row j ≡ true → has_node found j s ≡ true
text_had found e row s is (ByCell i) h = sym (ap (λ x. option_map_or (list_any (equal_cells (x ∷ []))) (slice_get found i) false) is) ∙ h
text_had found e row s is (ByNode o i) h = turned (slice_get found i) (sym (ap (λ x. option_map_or (list_any (λ other. bytes_eq (node_in o other) (unwrap_or (text_in x) []))) (slice_get found i) false) is) ∙ h)
  where
    turned : (known : Option (List Cells)) → option_map_or (list_any (λ other. bytes_eq (node_in o other) s)) known false ≡ true → option_map_or (list_any (λ other. bytes_eq s (node_in o other))) known false ≡ true
    turned None h = h
    turned (Some rows) h = any_up (λ other. bytes_eq (node_in o other) s) (λ other. bytes_eq s (node_in o other)) rows (λ x. text_turn (node_in o x) s) h

among : (e : Entity) (nodes : List (List ℕ)) (row : Cells) (s : List ℕ) → cell_under (columns e) (codes "certname") row ≡ text_cell s → is_among nodes s ≡ true → is_of e nodes row ≡ true
among e nodes row s is h = ap (λ x. list_any (λ t. text_equals t x) nodes) is ∙ h

told_so : (o : Option Join) (found : List (List Cells)) (nodes : List (List ℕ)) (e : Entity) (row : Cells) → Joins o found nodes → Holds found (Some e) row o → IsTextIn e (codes "certname") row → is_of e nodes row ≡ true
told_so None found nodes e row joins holds there = absurd joins
told_so (Some j) found nodes e row joins holds there = among e nodes row there.0 there.1 (joins there.0 (text_had found e row there.0 there.1 j holds))

pub chosen_is_of : (w : World) (ps : List (List ℕ)) (found : List (List Cells)) (s : Stage) (e : Entity) (nodes : List (List ℕ)) → s.entity ≡ Some e → Joins (step_join s.steps) found nodes
    → (row : Cells) → IsTextIn e (codes "certname") row → is_chosen w ps found s row ≡ true → is_of e nodes row ≡ true
chosen_is_of w ps found s e nodes of joins row there h =
    let parts = both_true (top (run w ps found s.entity row s.steps [])) (is_seen w s.entity s.state row) h in
    let holds = subst (λ o. top (run w ps found o row s.steps []) ≡ true) of parts.0 in
    told_so (step_join s.steps) found nodes e row joins (steps_tell w ps found (Some e) row s.steps holds) there

-- ---- the text of a row of one cell

and-true : (a : Bool) → (a && true) ≡ a
and-true true = refl
and-true false = refl

pub alone : (x : CellValue) (s : List ℕ) → equal_cells (text_cell s ∷ []) (x ∷ []) ≡ option_map_or (bytes_eq s) (text_in x) false
alone (inl m) s = refl
alone (inr null) s = refl
alone (inr (boolean b)) s = refl
alone (inr (number n)) s = refl
alone (inr (string t)) s = and-true (bytes_eq s t)
alone (inr (array js)) s = refl
alone (inr (object ms)) s = refl
