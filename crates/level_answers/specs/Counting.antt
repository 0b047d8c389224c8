-- Levels that only count the rows of an entity.
use Rattle.std.specs.Prelude.{◌≡◌, List, [], ◌∷◌, true, false, length, filter, Some}
use Rattle.fleet_tables.specs.Active.{is_active_row}
use Rattle.fleet_tables.specs.fleet_rows.declared.row.Entity.{Entity}
use Rattle.fleet_tables.specs.table_machine.Rows.{table_rows}
use Rattle.fleet_tables.specs.table_machine.Table.{Table}
use Rattle.query_plan.specs.Plan.{Stage, constant, answers}
use Rattle.query_plan.specs.means_spec.Groups.{count_cell}
use Rattle.query_plan.specs.means_spec.Paging.{paged}
use Rattle.query_plan.specs.means_spec.Shown.{output_names}
use Rattle.query_plan.specs.query_spec.declared.parts.Paging.{Paging}
use Rattle.query_plan.specs.query_spec.declared.parts.Selected.{Selected}
use Rattle.query_plan.specs.query_spec.declared.parts.Selected.TheVariants as selected
use Rattle.query_plan.specs.table_spec.Rows.{Cells}

abbrev pub a_count : List Selected
a_count = selected.Rows ∷ []

-- the level has no filter and no groups, and shows the number of its rows alone
pub record IsCount (s : Stage) (e : Entity) (p : Paging) : Type 0 where
  pub entity_is : s.entity ≡ Some e
  pub state_is : s.state ≡ false
  pub steps_are : s.steps ≡ constant true ∷ []
  pub shape_is : s.shape ≡ answers (Some a_count) [] p

-- the page of one row with the number of the entity's rows whose node is active
abbrev pub counted : Table → Entity → Paging → List Cells
counted table e p =
    paged (output_names (Some e) (Some a_count)) p ((count_cell (length (filter (is_active_row e table) (table_rows e table))) ∷ []) ∷ [])
