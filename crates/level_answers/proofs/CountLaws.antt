-- The answer of a level that only counts rows.
use Rattle.std.proofs.Common.{◌≡◌, ◌∙◌, ℕ, List, [], ◌∷◌, length, Bool, true, false, not, Option, Some, None, refl, sym, ap, subst, inl, inr}
use Rattle.std.specs.Prelude.{codes, filter, unwrap_or}
use Rattle.fleet_tables.specs.Active.{is_active_row, text_shown}
use Rattle.fleet_tables.specs.Asked.{is_inactive_in}
use Rattle.fleet_tables.specs.fleet_rows.Cell.{CellValue}
use Rattle.fleet_tables.specs.fleet_rows.declared.row.Entity.{Entity}
use Rattle.fleet_tables.specs.table_machine.Rows.{table_rows}
use Rattle.fleet_tables.specs.table_machine.Table.{Table}
use Rattle.query_plan.specs.Plan.{Stage, answers, constant, is_chosen}
use Rattle.query_plan.specs.means_spec.Cells.{cell_in, text_in}
use Rattle.query_plan.specs.means_spec.Groups.{count_cell}
use Rattle.query_plan.specs.means_spec.Paging.{paged}
use Rattle.query_plan.specs.means_spec.Shown.{output_names}
use Rattle.query_plan.specs.query_spec.declared.parts.Paging.{Paging}
use Rattle.query_plan.specs.table_spec.Rows.{Cells}
use Rattle.query_plan.specs.table_spec.text_spec.Json.{null, boolean, number, string, array, object}
use Rattle.query_rows.specs.Tables.{world_of}
use Rattle.level_answers.specs.Levels.{IsStageAnswered}
use Rattle.level_answers.specs.Counting.{IsCount, a_count, counted}
use Rattle.level_answers.specs.declared.answer.Answered.TheVariants.{Rows}

-- ---- the certname of a row, in the words of the tables and in those of queries

same_text : (x : CellValue) → text_shown x ≡ unwrap_or (text_in x) []
same_text (inl m) = refl
same_text (inr null) = refl
same_text (inr (boolean b)) = refl
same_text (inr (number s)) = refl
same_text (inr (string s)) = refl
same_text (inr (array js)) = refl
same_text (inr (object ms)) = refl

module _ (table : Table) (says : List ℕ → List ℕ → Bool) (ps : List (List ℕ)) (found : List (List Cells)) (e : Entity) (p : Paging) where
  abbrev counting : Stage
  counting = record { entity = Some e; state = false; steps = constant true ∷ []; shape = answers (Some a_count) [] p }

  same_rows : filter (is_active_row e table) (table_rows e table) ≡ filter (is_chosen (world_of table says) ps found counting) (table_rows e table)
  same_rows = λ i. filter (λ row. not (is_inactive_in table (same_text (cell_in (Some e) (codes "certname") row) i))) (table_rows e table)

  counting_answered : (lines : List Cells) → lines ≡ counted table e p → IsStageAnswered (world_of table says) ps found counting (Rows lines)
  counting_answered lines h = (refl, h ∙ ap (λ (rows : List Cells). paged (output_names (Some e) (Some a_count)) p ((count_cell (length rows) ∷ []) ∷ [])) same_rows)

  pub count_answered : (s : Stage) → IsCount s e p → (lines : List Cells) → lines ≡ counted table e p → IsStageAnswered (world_of table says) ps found s (Rows lines)
  count_answered s is lines h =
      let same : counting ≡ s = λ i. record { entity = sym is.entity_is i; state = sym is.state_is i; steps = sym is.steps_are i; shape = sym is.shape_is i } in
      subst (λ (x : Stage). IsStageAnswered (world_of table says) ps found x (Rows lines)) same (counting_answered lines h)
