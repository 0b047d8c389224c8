-- Whether an answer reads a column that a row doesn't show by reference.
use Rattle.std.specs.Prelude.{◌≡◌, List, Bool, true, false, ◌||◌, Option, Some, None, map}
use Rattle.std.specs.List.{list_any}
use Rattle.fleet_tables.specs.fleet_rows.declared.row.Entity.{Entity}
use Rattle.query_plan.specs.query_spec.declared.parts.Name.{Name}
use Rattle.query_plan.specs.query_spec.declared.parts.Order.{Order}
use Rattle.query_plan.specs.query_spec.declared.parts.Paging.{Paging}
use Rattle.query_plan.specs.query_spec.declared.parts.Selected.{Selected}
use Rattle.query_plan.specs.query_spec.declared.parts.Selected.TheVariants as selected
use Rattle.query_plan.specs.table_spec.Rows.{Cells}
use Rattle.query_reading.specs.Narrow.{is_made}
use Rattle.level_answers.specs.row_views.Narrow.{shown_as}

module _ (e : Entity) where
  -- the column would have to be made
  abbrev pub name_makes : Name → Bool
  name_makes n = is_made e n.text

  abbrev pub selected_makes : Selected → Bool
  selected_makes (selected.Column n) = name_makes n
  selected_makes selected.Rows = false
  selected_makes (selected.Function f n) = name_makes n

  abbrev pub order_makes : Order → Bool
  order_makes o = name_makes o.column

  -- an answer that shows these outputs reads such a column
  abbrev pub answer_makes : List Selected → List Name → List Order → Bool
  answer_makes ss g os = list_any selected_makes ss || (list_any name_makes g || list_any order_makes os)

-- where an entity is named, the answer reads no column of it that would have to be made
abbrev pub IsNarrowFor : Option Entity → Option (List Selected) → List Name → Paging → Option Entity → Type 0
IsNarrowFor e ss g p None = Unit {0}
IsNarrowFor (Some e) (Some ss) g p (Some narrow) = (narrow ≡ e) × (answer_makes e ss g p.order ≡ false)
IsNarrowFor _ _ g p (Some narrow) = ⊥

-- the rows from which it is made
abbrev pub lines_as : Option Entity → List Cells → List Cells
lines_as None rows = rows
lines_as (Some e) rows = map (shown_as true e) rows
