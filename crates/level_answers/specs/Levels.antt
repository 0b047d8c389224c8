-- The answer of a level.
use Rattle.std.specs.Prelude.{◌≡◌, ℕ, List, Option, Some, None}
use Rattle.fleet_tables.specs.fleet_rows.declared.row.Entity.{Entity}
use Rattle.query_plan.specs.query_spec.declared.parts.Name.{Name}
use Rattle.query_plan.specs.query_spec.declared.parts.Paging.{Paging}
use Rattle.query_plan.specs.query_spec.declared.parts.Selected.{Selected}
use Rattle.query_plan.specs.query_spec.Check.{shown_list}
use Rattle.query_plan.specs.table_spec.Rows.{Cells}
use Rattle.query_plan.specs.means_spec.World.{World}
use Rattle.query_plan.specs.means_spec.Groups.{groups, group_rows}
use Rattle.query_plan.specs.means_spec.Means.{answered}
use Rattle.query_plan.specs.means_spec.Sums.{large_sums, level_sum}
use Rattle.query_plan.specs.Plan.{Stage, stage_rows, stage_sum}
use Rattle.level_answers.specs.declared.answer.Answered.{Answered}
use Rattle.level_answers.specs.declared.answer.Answered.TheVariants as answer

-- the groups in their order, or the first sum that is too large
abbrev pub IsGrouped : Option Entity → List Selected → List Name → List Cells → Answered → Type 0
IsGrouped e ss g rows (answer.Rows lines) = (large_sums e (groups e g rows) ss ≡ None) × (lines ≡ group_rows e ss g rows)
IsGrouped e ss g rows (answer.TooLarge place) = large_sums e (groups e g rows) ss ≡ Some place.now

abbrev pub IsAnswered : Option Entity → Option (List Selected) → List Name → Paging → List Cells → Answered → Type 0
IsAnswered e ss g p rows (answer.Rows lines) = (level_sum e (shown_list ss) g rows ≡ None) × (lines ≡ answered e ss g p rows)
IsAnswered e ss g p rows (answer.TooLarge place) = level_sum e (shown_list ss) g rows ≡ Some place.now

module _ (w : World) (patterns : List (List ℕ)) where
  -- the rows of a stage, or its first sum that is too large
  abbrev pub IsStageAnswered : List (List Cells) → Stage → Answered → Type 0
  IsStageAnswered found s (answer.Rows lines) = (stage_sum w patterns found s ≡ None) × (lines ≡ stage_rows w patterns found s)
  IsStageAnswered found s (answer.TooLarge place) = stage_sum w patterns found s ≡ Some place.now
