-- Statements that a plan does what its query means.
use Rattle.std.specs.Prelude.{◌≡◌, List, [], ◌∷◌, ◌++◌}
use Rattle.ast_tree.specs.query_spec.Query.{Level}
use Rattle.means_spec.specs.table_spec.Rows.{Cells}
use Rattle.means_spec.specs.World.{World}
use Rattle.means_spec.specs.Means.{selected}
use Rattle.means_spec.specs.Sums.{too_large}
use Rattle.query_plan.specs.Plan.{level_patterns, level_stages, solved, solved_sum, pattern_texts}

-- the rows that the last stage of a query's plan finds are those that the query selects
abbrev pub PlansSelectRows : Type 0
PlansSelectRows =
    (w : World) (q : Level) → (earlier : List (List Cells))
    × (solved w (pattern_texts (level_patterns q)) [] (level_stages 0 0 q) ≡ earlier ++ selected w q ∷ [])

-- the first sum that is too large in the plan is the query's
abbrev pub PlansTellSums : Type 0
PlansTellSums =
    (w : World) (q : Level) → solved_sum w (pattern_texts (level_patterns q)) [] (level_stages 0 0 q) ≡ too_large w q
