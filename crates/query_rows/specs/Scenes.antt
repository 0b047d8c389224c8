-- The data on which the code evaluates a query.
use Rattle.std.specs.Prelude.{ℕ, List, [], ◌∷◌, Bool, false, Option}
use Rattle.std.specs.List.{list_any}
use Rattle.fleet_tables.specs.fleet_rows.Cell.{CellValue}
use Rattle.fleet_tables.specs.fleet_rows.declared.row.Entity.{Entity}
use Rattle.fleet_tables.specs.Asked.{is_inactive_in}
use Rattle.query_plan.specs.query_spec.declared.parts.Field.{Field}
use Rattle.query_plan.specs.query_spec.declared.parts.Literal.{Literal}
use Rattle.query_plan.specs.table_spec.Rows.{Cells}
use Rattle.query_plan.specs.means_spec.World.{World}
use Rattle.query_plan.specs.means_spec.Cells.{field_cell, equals}
use Rattle.query_rows.specs.declared.scene.Scene.{Scene}

-- the world of a row; its facts are those of the scene
abbrev pub world : Scene → (List ℕ → List ℕ → Bool) → World
world s says = record { rows = λ e. s.facts.now; is_inactive = is_inactive_in s.tables.now; matches = says }

-- the cell that a field names, which doesn't depend on patterns
unfoldable pub seen_cell : Scene → Option Entity → Cells → Field → CellValue
seen_cell s e row f = field_cell (world s (λ p t. false)) e f row

-- the single cell equals some literal
abbrev pub equals_some : List CellValue → List Literal → Bool
equals_some (x ∷ []) ls = list_any (λ (l : Literal). equals x l.value) ls
equals_some _ ls = false
