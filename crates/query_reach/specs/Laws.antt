-- Statements on what plans demand and read, and on the bound of common queries.
use Rattle.std.specs.Prelude.{◌≡◌, ◌≤◌, ◌+◌, ℕ, List, [], ◌∷◌, length, Bool, true, ◌&&◌, Option, Some, codes, filter}
use Rattle.std.specs.List.{list_any}
use Rattle.std.specs.Str.{bytes_eq}
use Rattle.query_plan.specs.table_spec.fleet_rows.declared.row.Entity.{Entity}
use Rattle.query_plan.specs.table_spec.fleet_rows.declared.row.Entity.TheVariants.{Nodes, Facts, Resources}
use Rattle.query_plan.specs.query_spec.declared.parts.Field.TheVariants.{Column}
use Rattle.query_plan.specs.query_spec.declared.parts.Name.{Name}
use Rattle.query_plan.specs.query_spec.declared.parts.Op.TheVariants.{Equal}
use Rattle.query_plan.specs.query_spec.declared.parts.Paging.{Paging}
use Rattle.query_plan.specs.query_spec.declared.parts.Scalar.TheVariants.{Text}
use Rattle.query_plan.specs.query_spec.declared.parts.Selected.{Selected}
use Rattle.query_plan.specs.query_spec.declared.parts.Selected.TheVariants as selected
use Rattle.query_plan.specs.query_spec.Query as query
use Rattle.query_plan.specs.query_spec.Query.{Filter, compare, in_level, all_of, no_filters, clause, Level, level}
use Rattle.query_plan.specs.table_spec.Rows.{Cells}
use Rattle.query_plan.specs.means_spec.World.{World}
use Rattle.query_plan.specs.Plan.{Stage, level_stages, is_chosen}
use Rattle.query_reach.specs.Reach.{Pin, demanded, shows, entity_rows, reach, is_found, level_bound}
use Rattle.query_reach.specs.Pins.{step_pins, stages_read}

-- a stage chooses only rows in reach, whatever the stages before it found
abbrev pub ChosenRowsAreFound : Type 0
ChosenRowsAreFound =
    (w : World) (patterns : List (List ℕ)) (found : List (List Cells)) (s : Stage) (row : Cells)
    → is_chosen w patterns found s row ≡ true → is_found s.entity (step_pins s.steps) row ≡ true

-- the stages of a plan read what the query may read
abbrev pub PlansReadTheBound : Type 0
PlansReadTheBound = (rows : Entity → List Cells) (q : Level) → stages_read rows (level_stages 0 0 q) ≡ level_bound rows q

-- ---- in words of conjuncts

abbrev pub how_many : (Entity → List Cells) → Option Entity → (Cells → Bool) → ℕ
how_many rows e test = length (filter test (entity_rows rows e))

abbrev pub is_one_of : List (List ℕ) → List ℕ → Type 0
is_one_of texts text = list_any (bytes_eq text) texts ≡ true

-- a conjunct `certname = x` leaves the rows of node x at most; `name = x` the facts of that name; `type = x` and `title = y` the
-- resources of that pair; and of several the least count
pub record ReachIsLeast : Type 0 where
  pub all : (rows : Entity → List Cells) (e : Option Entity) (ps : List Pin) → reach rows e ps ≤ length (entity_rows rows e)
  pub certname : (rows : Entity → List Cells) (e : Option Entity) (ps : List Pin) (x : List ℕ) → is_one_of (demanded (codes "certname") ps) x
      → reach rows e ps ≤ how_many rows e (shows e (codes "certname") (x ∷ []))
  pub name : (rows : Entity → List Cells) (ps : List Pin) (x : List ℕ) → is_one_of (demanded (codes "name") ps) x
      → reach rows (Some Facts) ps ≤ how_many rows (Some Facts) (shows (Some Facts) (codes "name") (x ∷ []))
  pub pair : (rows : Entity → List Cells) (ps : List Pin) (x y : List ℕ) → is_one_of (demanded (codes "type") ps) x → is_one_of (demanded (codes "title") ps) y
      → reach rows (Some Resources) ps
      ≤ how_many rows (Some Resources) (λ row. shows (Some Resources) (codes "type") (x ∷ []) row && shows (Some Resources) (codes "title") (y ∷ []) row)

-- ---- common queries, whatever they show, however they are grouped and paged

abbrev pub named : List ℕ → Name
named text = record { text = text; place = [] }

-- the column equals the text
abbrev pub equals : List ℕ → List ℕ → Filter
equals column text = compare Equal (Column (named column)) (record { value = Text text; place = [] })

abbrev pub both : Filter → Filter → Filter
both f g = all_of (query.filter f (query.filter g no_filters))

module _ (rows : Entity → List Cells) (s : Option (List Selected)) (g : List Name) (p : Paging) where
  abbrev pub bound_of : List ℕ → Filter → ℕ
  bound_of entity f = level_bound rows (level (named entity) s (clause f) g p)

  -- facts of a node, and one of them
  pub record FactsAreFew : Type 0 where
    pub node : (x : List ℕ) → bound_of (codes "facts") (equals (codes "certname") x) ≡ how_many rows (Some Facts) (shows (Some Facts) (codes "certname") (x ∷ []))
    pub fact : (x k : List ℕ)
        → bound_of (codes "facts") (both (equals (codes "certname") x) (equals (codes "name") k))
        ≡ how_many rows (Some Facts) (λ row. shows (Some Facts) (codes "certname") (x ∷ []) row && shows (Some Facts) (codes "name") (k ∷ []) row)
    -- where a node has at most 100 facts, and at most 50 nodes have the fact
    pub steps : (x k : List ℕ) → how_many rows (Some Facts) (shows (Some Facts) (codes "certname") (x ∷ [])) ≤ 100
        → how_many rows (Some Facts) (shows (Some Facts) (codes "name") (k ∷ [])) ≤ 50
        → (bound_of (codes "facts") (equals (codes "certname") x) ≤ 100) × (bound_of (codes "facts") (both (equals (codes "certname") x) (equals (codes "name") k)) ≤ 50)

  -- nodes with a resource
  abbrev pub with_resource : List ℕ → List ℕ → Paging → Filter
  with_resource x y q =
      in_level (Column (named (codes "certname")) ∷ []) []
      (level (named (codes "resources")) (Some (selected.Column (named (codes "certname")) ∷ [])) (clause (both (equals (codes "type") x) (equals (codes "title") y))) [] q)

  pub record NodesWithAResource : Type 0 where
    pub sum : (x y : List ℕ) (q : Paging)
        → bound_of (codes "nodes") (with_resource x y q)
        ≡ how_many rows (Some Resources) (λ row. shows (Some Resources) (codes "type") (x ∷ []) row && shows (Some Resources) (codes "title") (y ∷ []) row)
        + length (rows Nodes)
    -- where 50 nodes have the resource once each
    pub steps : (x y : List ℕ) (q : Paging) → length (rows Nodes) ≤ 50
        → how_many rows (Some Resources) (λ row. shows (Some Resources) (codes "type") (x ∷ []) row && shows (Some Resources) (codes "title") (y ∷ []) row) ≤ 50
        → bound_of (codes "nodes") (with_resource x y q) ≤ 100

abbrev pub CommonQueriesReadFew : Type 0
CommonQueriesReadFew =
    (rows : Entity → List Cells) (s : Option (List Selected)) (g : List Name) (p : Paging) → FactsAreFew rows s g p × NodesWithAResource rows s g p
