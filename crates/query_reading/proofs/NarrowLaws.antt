-- A stage whose filter reads only columns that are seen by reference chooses a narrow row exactly if it chooses the whole one.
use Rattle.std.proofs.Common.{◌≡◌, ◌∙◌, ℕ, List, [], ◌∷◌, Bool, true, false, not, ◌&&◌, ◌||◌, map, refl, sym, ap, subst, Option, Some, if◌then◌else◌, unwrap_or, codes}
use Rattle.std.specs.Prelude.{slice_get}
use Rattle.std.specs.List.{list_any}
use Rattle.std.specs.Option.{option_map_or}
use Rattle.std.specs.Str.{bytes_eq}
use Rattle.fleet_tables.specs.fleet_rows.Cell.{CellValue, plain}
use Rattle.fleet_tables.specs.fleet_rows.declared.row.Entity.{Entity}
use Rattle.fleet_tables.specs.fleet_rows.declared.row.Entity.TheVariants.{Nodes, Factsets, Facts, Catalogs, Resources, Edges, Reports, FactContents, Inventory, Events, EventCounts}
use Rattle.same_text.specs.text_spec.Json.{null}
use Rattle.query_plan.specs.means_spec.World.{World}
use Rattle.query_plan.specs.means_spec.Cells.{cell_in, cell_under, node_in, is_null_cell, text_in, member_in, fact_of, field_cell, field_compares, compares, equals, equal_cells, has_tag, has_state}
use Rattle.query_plan.specs.means_spec.Means.{is_listed}
use Rattle.query_plan.specs.Plan as plan
use Rattle.query_plan.specs.Plan.{Step, Stage, act, run, top, is_chosen}
use Rattle.query_plan.specs.query_spec.declared.parts.Field.{Field}
use Rattle.query_plan.specs.query_spec.declared.parts.Field.TheVariants.{Column, Parameter, Fact, Tag, NodeState}
use Rattle.query_plan.specs.query_spec.declared.parts.Literal.{Literal}
use Rattle.query_plan.specs.query_spec.declared.parts.Op.{Op}
use Rattle.query_plan.specs.query_spec.declared.parts.Scalar.{Scalar}
use Rattle.query_plan.specs.table_spec.Columns.{columns}
use Rattle.query_plan.specs.table_spec.Rows.{Cells}
use Rattle.row_views.specs.Narrow.{is_referred, narrowed, referred, shown_as}
use Rattle.query_reading.specs.Narrow.{field_column, field_makes, is_made, step_makes, steps_make}

-- ---- booleans

pub none_first : (a b : Bool) → (a || b) ≡ false → a ≡ false
none_first true b h = h
none_first false b h = refl

pub none_rest : (a b : Bool) → (a || b) ≡ false → b ≡ false
none_rest true b h = absurd (let apart : true ≡ false = h in cc)
none_rest false b h = h

is_so : (b : Bool) → not b ≡ false → b ≡ true
is_so true h = refl
is_so false h = absurd (let apart : true ≡ false = h in cc)

-- ---- a cell that is seen by reference

at_first : (t b k : Bool) (x y z : CellValue) → (if t then b else k) ≡ true → (k ≡ true → y ≡ z) → (if t then (if b then x else plain null) else y) ≡ (if t then x else z)
at_first true true k x y z h f = refl
at_first true false k x y z h f = absurd (let apart : false ≡ true = h in cc)
at_first false b k x y z h f = f h

kept_cell : (names : List (List ℕ)) (flags : List Bool) (s : List ℕ) (row : Cells) → is_referred names flags s ≡ true → cell_under names s (narrowed flags row) ≡ cell_under names s row
kept_cell names [] s row h = refl
kept_cell [] (b ∷ bs) s [] h = refl
kept_cell [] (b ∷ bs) s (x ∷ xs) h = refl
kept_cell (n ∷ ns) (b ∷ bs) s [] h = refl
kept_cell (n ∷ ns) (b ∷ bs) s (x ∷ xs) h =
    at_first (bytes_eq s n) b (is_referred ns bs s) x (cell_under ns s (narrowed bs xs)) (cell_under ns s xs) h (λ k. kept_cell ns bs s xs k)

certname_kept : (e : Entity) → is_referred (columns e) (referred e) (codes "certname") ≡ true
certname_kept Nodes = refl
certname_kept Factsets = refl
certname_kept Facts = refl
certname_kept Catalogs = refl
certname_kept Resources = refl
certname_kept Edges = refl
certname_kept Reports = refl
certname_kept FactContents = refl
certname_kept Inventory = refl
certname_kept Events = refl
certname_kept EventCounts = refl

pub cell_alike : (e : Entity) (row : Cells) (s : List ℕ) → is_made e s ≡ false → cell_in (Some e) s (narrowed (referred e) row) ≡ cell_in (Some e) s row
cell_alike e row s h = kept_cell (columns e) (referred e) s row (is_so (is_referred (columns e) (referred e) s) h)

-- ---- a narrow row and the whole one

module _ (w : World) (e : Entity) (row : Cells) where
  abbrev narrow : Cells
  narrow = narrowed (referred e) row

  pub node_alike : node_in (Some e) narrow ≡ node_in (Some e) row
  node_alike = ap (λ x. unwrap_or (text_in x) []) (kept_cell (columns e) (referred e) (codes "certname") row (certname_kept e))

  field_alike : (f : Field) → field_makes e f ≡ false → field_cell w (Some e) f narrow ≡ field_cell w (Some e) f row
  field_alike (Column n) h = cell_alike e row n.text h
  field_alike (Parameter n) h = ap (λ x. member_in n.text x) (cell_alike e row (codes "parameters") h)
  field_alike (Fact n) h = ap (λ (node : List ℕ). fact_of w node n.text) node_alike
  field_alike (Tag p) h = refl
  field_alike (NodeState p) h = refl

  fields_alike : (fs : List Field) → list_any (field_makes e) fs ≡ false → map (λ f. field_cell w (Some e) f narrow) fs ≡ map (λ f. field_cell w (Some e) f row) fs
  fields_alike [] h = refl
  fields_alike (f ∷ fs) h =
      let first = field_alike f (none_first (field_makes e f) (list_any (field_makes e) fs) h) in
      let rest = fields_alike fs (none_rest (field_makes e f) (list_any (field_makes e) fs) h) in
      λ i. first i ∷ rest i

  compares_alike : (o : Op) (f : Field) (l : Scalar) → field_makes e f ≡ false → field_compares w (Some e) o f l narrow ≡ field_compares w (Some e) o f l row
  compares_alike o (Column n) l h = ap (λ x. compares o x l) (field_alike (Column n) h)
  compares_alike o (Parameter n) l h = ap (λ x. compares o x l) (field_alike (Parameter n) h)
  compares_alike o (Fact n) l h = ap (λ x. compares o x l) (field_alike (Fact n) h)
  compares_alike o (Tag p) l h = ap (λ x. has_tag l x) (cell_alike e row (codes "tags") h)
  compares_alike o (NodeState p) l h = ap (λ (node : List ℕ). has_state (w.is_inactive node) l) node_alike

  listed_alike : (fs : List Field) (ls : List Literal) → list_any (field_makes e) fs ≡ false → is_listed w (Some e) fs ls narrow ≡ is_listed w (Some e) fs ls row
  listed_alike [] ls h = refl
  listed_alike (f ∷ []) ls h = ap (λ x. list_any (λ (l : Literal). equals x l.value) ls) (field_alike f (none_first (field_makes e f) false h))
  listed_alike (f ∷ g ∷ fs) ls h = refl

  module _ (ps : List (List ℕ)) (found : List (List Cells)) where
    act_alike : (s : Step) (st : List Bool) → step_makes e s ≡ false → act w ps found (Some e) narrow s st ≡ act w ps found (Some e) row s st
    act_alike (plan.compares o f l) st h = ap (λ t. t ∷ st) (compares_alike o f l h)
    act_alike (plan.tests_null f t) st h = ap (λ x. (if t then is_null_cell x else not (is_null_cell x)) ∷ st) (field_alike f h)
    act_alike (plan.lists fs ls) st h = ap (λ t. t ∷ st) (listed_alike fs ls h)
    act_alike (plan.fits f j) st h = ap (λ x. option_map_or (λ p. option_map_or (w.matches p) (text_in x) false) (slice_get ps j) false ∷ st) (field_alike f h)
    act_alike (plan.selects fs i) st h = ap (λ xs. option_map_or (list_any (equal_cells xs)) (slice_get found i) false ∷ st) (fields_alike fs h)
    act_alike (plan.shares_node o i) st h =
        ap (λ (node : List ℕ). option_map_or (list_any (λ other. bytes_eq (node_in o other) node)) (slice_get found i) false ∷ st) node_alike
    act_alike (plan.constant t) st h = refl
    act_alike plan.invert st h = refl
    act_alike plan.both st h = refl
    act_alike plan.either st h = refl

    run_alike : (ss : List Step) (st : List Bool) → steps_make e ss ≡ false → run w ps found (Some e) narrow ss st ≡ run w ps found (Some e) row ss st
    run_alike [] st h = refl
    run_alike (s ∷ ss) st h =
        ap (run w ps found (Some e) narrow ss) (act_alike s st (none_first (step_makes e s) (steps_make e ss) h))
        ∙ run_alike ss (act w ps found (Some e) row s st) (none_rest (step_makes e s) (steps_make e ss) h)

    pub narrow_alike : (s : Stage) → s.entity ≡ Some e → steps_make e s.steps ≡ false → is_chosen w ps found s narrow ≡ is_chosen w ps found s row
    narrow_alike s of h =
        let steps = run_alike s.steps [] h in
        (λ i. top (run w ps found (of i) narrow s.steps []) && (s.state || not (w.is_inactive (node_in (of i) narrow))))
        ∙ (λ i. top (steps i) && (s.state || not (w.is_inactive (node_alike i))))
        ∙ (λ i. top (run w ps found (sym of i) row s.steps []) && (s.state || not (w.is_inactive (node_in (sym of i) row))))

-- ---- a row as it is seen

pub shown_alike : (w : World) (ps : List (List ℕ)) (found : List (List Cells)) (s : Stage) (e : Entity) (narrow : Bool) (row : Cells) → s.entity ≡ Some e → (narrow ≡ true → steps_make e s.steps ≡ false)
    → is_chosen w ps found s (shown_as narrow e row) ≡ is_chosen w ps found s row
shown_alike w ps found s e true row of h = narrow_alike w e row ps found s of (h refl)
shown_alike w ps found s e false row of h = refl

pub shown_node : (e : Entity) (narrow : Bool) (row : Cells) → node_in (Some e) (shown_as narrow e row) ≡ node_in (Some e) row
shown_node e true row = ap (λ x. unwrap_or (text_in x) []) (kept_cell (columns e) (referred e) (codes "certname") row (certname_kept e))
shown_node e false row = refl
