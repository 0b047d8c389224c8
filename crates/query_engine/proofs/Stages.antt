-- One stage of a plan after the other.
use Rattle.std.proofs.Common.{◌≡◌, ◌∙◌, ◌≤◌, ◌+◌, ℕ, arith, List, [], ◌∷◌, ◌++◌, sym, ap, Option, Some, None}
use Rattle.std.proofs.lemmas.List.Sums.{sum_by-cons}
use Rattle.query_plan.specs.query_spec.declared.parts.Name.{Name}
use Rattle.query_plan.specs.query_spec.declared.parts.Paging.{Paging}
use Rattle.query_plan.specs.query_spec.declared.parts.Selected.{Selected}
use Rattle.query_plan.specs.query_spec.Check.{Place, first}
use Rattle.query_plan.specs.table_spec.Rows.{Cells}
use Rattle.query_plan.specs.means_spec.World.{World}
use Rattle.query_plan.specs.Plan.{Shape, Stage, whole, answers, shaped, shaped_sum, chosen_rows, stage_rows, stage_sum, solved, solved_sum}
use Rattle.fleet_tables.specs.fleet_rows.declared.row.Entity.{Entity}
use Rattle.query_reach.specs.Pins.{stage_reads, stages_read}
use Rattle.level_answers.specs.Levels.{IsAnswered, IsStageAnswered}
use Rattle.query_reading.specs.Stopping.{IsEnough, first_of}
use Rattle.level_answers.specs.declared.answer.Answered.{Answered}
use Rattle.level_answers.specs.declared.answer.Answered.TheVariants.{Rows, TooLarge}

-- ---- the answer of a stage from the first of the rows that it chooses

module _ (w : World) (ps : List (List ℕ)) (found : List (List Cells)) (s : Stage) (enough : Option ℕ) (rows : List Cells) (chosen : rows ≡ first_of enough (chosen_rows w ps found s))
    (all : IsEnough s.entity s.shape enough (chosen_rows w ps found s)) where
  module _ (ss : Option (List Selected)) (g : List Name) (p : Paging) (shape : s.shape ≡ answers ss g p) where
    sum_of_stage : stage_sum w ps found s ≡ shaped_sum s.entity (answers ss g p) rows
    sum_of_stage = sym all.sum_is ∙ (λ i. shaped_sum s.entity (shape i) (sym chosen i))

    pub stage_answered : (a : Answered) → IsAnswered s.entity ss g p rows a → IsStageAnswered w ps found s a
    stage_answered (Rows lines) h = (sum_of_stage ∙ h.0, h.1 ∙ (λ i. shaped s.entity (sym shape i) (chosen i)) ∙ all.rows_are)
    stage_answered (TooLarge place) h = sum_of_stage ∙ h

  pub stage_whole : s.shape ≡ whole → IsStageAnswered w ps found s (Rows rows)
  stage_whole shape = (
    ap (λ (x : Shape). shaped_sum s.entity x (chosen_rows w ps found s)) shape,
    chosen ∙ ap (λ (x : Shape). shaped s.entity x (first_of enough (chosen_rows w ps found s))) (sym shape) ∙ all.rows_are,
  )

module _ (w v : World) (same : v ≡ w) (ps : List (List ℕ)) (found : List (List Cells)) (x : Stage) (xs left : List Stage) (is : left ≡ x ∷ xs) where
  pub sum_told : (total : Option Place) (place : Place) → stage_sum v ps found x ≡ Some place → solved_sum w ps found left ≡ total → total ≡ Some place
  sum_told total place h e =
      sym e ∙ ap (solved_sum w ps found) is ∙ (λ i. first (stage_sum (sym same i) ps found x) (solved_sum w ps (found ++ stage_rows w ps found x ∷ []) xs))
      ∙ ap (λ o. first o (solved_sum w ps (found ++ stage_rows w ps found x ∷ []) xs)) h

  module _ (rows : List Cells) (new : List (List Cells)) (rows_are : rows ≡ stage_rows v ps found x) (pushed : new ≡ found ++ rows ∷ []) where
    grown : new ≡ found ++ stage_rows w ps found x ∷ []
    grown = pushed ∙ ap (λ r. found ++ r ∷ []) (rows_are ∙ ap (λ u. stage_rows u ps found x) same)

    pub rows_on : (total : List (List Cells)) → solved w ps found left ≡ total → solved w ps new xs ≡ total
    rows_on total e = ap (λ f. solved w ps f xs) grown ∙ sym (ap (solved w ps found) is) ∙ e

    pub sums_on : (total : Option Place) → stage_sum v ps found x ≡ None → solved_sum w ps found left ≡ total → solved_sum w ps new xs ≡ total
    sums_on total h e =
        ap (λ f. solved_sum w ps f xs) grown
        ∙ ap (λ o. first o (solved_sum w ps (found ++ stage_rows w ps found x ∷ []) xs)) (sym (ap (λ u. stage_sum u ps found x) (sym same) ∙ h))
        ∙ sym (ap (solved_sum w ps found) is)
        ∙ e

-- ---- what is read, and what may still be

module _ (rows : Entity → List Cells) (x : Stage) (xs left : List Stage) (is : left ≡ x ∷ xs) (start walk next total : ℕ) (so_far : walk + stages_read rows left ≤ start + total) (read : next ≤ walk + stage_reads rows x) where
  pub cost_on : next + stages_read rows xs ≤ start + total
  cost_on =
      let parts : stages_read rows left ≡ stage_reads rows x + stages_read rows xs = ap (stages_read rows) is ∙ sum_by-cons (stage_reads rows) x xs in
      omega (arith, parts, so_far, read)

  pub cost_now : next ≤ start + total
  cost_now =
      let parts : stages_read rows left ≡ stage_reads rows x + stages_read rows xs = ap (stages_read rows) is ∙ sum_by-cons (stage_reads rows) x xs in
      omega (arith, parts, so_far, read)

pub cost_whole : (rest start walk total : ℕ) → walk + rest ≤ start + total → walk ≤ start + total
cost_whole rest start walk total h = omega (arith, h)
