-- One step more of a filter, over what the steps before it left.
use Rattle.std.proofs.Common.{◌≡◌, ◌∙◌, ℕ, List, [], ◌∷◌, Bool, Option, sym, ap}
use Rattle.fleet_tables.specs.fleet_rows.declared.row.Entity.{Entity}
use Rattle.query_plan.specs.table_spec.Rows.{Cells}
use Rattle.query_plan.specs.means_spec.World.{World}
use Rattle.query_plan.specs.Plan.{Step, act, run}

pub one_step_more : (w v : World) → v ≡ w → (ps : List (List ℕ)) (found : List (List Cells)) (e : Option Entity) (row : Cells) (list : List Step) (s : Step) (ss : List Step) → list ≡ s ∷ ss
    → (before after : List Bool) (whole : List Bool) → after ≡ act v ps found e row s before → run w ps found e row list before ≡ whole → run w ps found e row ss after ≡ whole
one_step_more w v alike ps found e row list s ss is before after whole acted so_far =
    ap (run w ps found e row ss) (acted ∙ ap (λ (x : World). act x ps found e row s before) alike) ∙ sym (ap (λ (l : List Step). run w ps found e row l before) is) ∙ so_far
