use Rattle.std.proofs.Common.{◌≡◌, ◌≤◌, ◌+◌, ◌∙◌, ℕ, List, map, ap, sym, subst, Some}
use Rattle.query_plan.specs.means_spec.World.{World}
use Rattle.fleet_tables.specs.fleet_rows.declared.row.Entity.{Entity}
use Rattle.query_plan.specs.table_spec.Rows.{Cells}
use Rattle.query_plan.specs.Made.{stages_of}
use Rattle.query_plan.specs.Plan.{level_stages}
use Rattle.fleet_tables.specs.table_machine.Rows.{table_rows}
use Rattle.query_reach.specs.Pins.{stages_read}
use Rattle.query_reach.proofs.Within.{plans_read_the_bound}
use Rattle.query_engine.specs.Answers.{IsSolved}
use Rattle.query_rows.specs.Tables.{world_of}
use Rattle.query_engine.proofs.Picks.{sums_are, picked_is}
use Rattle.query_engine.proofs.engine.answered.Goals as goal

-- a bound is the same for an equal number
within_too : (walk old m n : ℕ) → m ≡ n → walk ≤ old + m → walk ≤ old + n
within_too walk old m n same h = subst (λ x. walk ≤ old + x) same h

pub returns-in-TooLarge-clause-answer : goal.returns-in-TooLarge-clause-answer
returns-in-TooLarge-clause-answer g c =
    let q = c.args.query.now in
    let ps : List (List ℕ) = map (λ x. g.P.Patterns.made_from x) c.args.compiled.now in
    let w : World = world_of c.args.tables.now (g.P.Patterns.says c.args.patterns.now) in
    let made : stages_of c.as_slice-stages.result.now ≡ level_stages 0 0 q = ap stages_of c.as_slice-stages.ensures.value ∙ c.requires.plan.stages_are in
    let told = subst (IsSolved w ps (stages_of c.as_slice-stages.result.now)) c.in-TooLarge.is c.in_ok-solved.ensures.value in
    sym (sums_are w q ps (stages_of c.as_slice-stages.result.now) c.requires.compiled made) ∙ told ∙ ap (λ p. Some p) (sym c.path.ensures)

pub returns-in_ok-names-in-Found-clause-answer : goal.returns-in_ok-names-in-Found-clause-answer
returns-in_ok-names-in-Found-clause-answer g c =
    let q = c.args.query.now in
    let ps : List (List ℕ) = map (λ x. g.P.Patterns.made_from x) c.args.compiled.now in
    let w : World = world_of c.args.tables.now (g.P.Patterns.says c.args.patterns.now) in
    let made : stages_of c.as_slice-stages.result.now ≡ level_stages 0 0 q = ap stages_of c.as_slice-stages.ensures.value ∙ c.requires.plan.stages_are in
    let found = subst (IsSolved w ps (stages_of c.as_slice-stages.result.now)) c.in-Found.is c.in_ok-solved.ensures.value in
    picked_is w q ps (stages_of c.as_slice-stages.result.now) c.requires.compiled made c.in-Found.found.items c.in_ok-names-in-Found.names c.last_rows.result c.in_ok-names-in-Found.ensures
    found.0 found.1 c.last_rows.ensures.rows c.last_rows.ensures.names c.last_rows.ensures.memory

pub returns-in_err-solved-clause-bound : goal.returns-in_err-solved-clause-bound
returns-in_err-solved-clause-bound g c = λ r.
    let rows : Entity → List Cells = λ e. table_rows e c.args.tables.now in
    let made : stages_of c.as_slice-stages.result.now ≡ level_stages 0 0 c.args.query.now = ap stages_of c.as_slice-stages.ensures.value ∙ c.requires.plan.stages_are in
    within_too _ c.args.walk.now _ _ (ap (stages_read rows) made ∙ plans_read_the_bound rows c.args.query.now) (c.in_err-solved.ensures.cost r)

pub returns-in-TooLarge-clause-bound : goal.returns-in-TooLarge-clause-bound
returns-in-TooLarge-clause-bound g c = λ r.
    let rows : Entity → List Cells = λ e. table_rows e c.args.tables.now in
    let made : stages_of c.as_slice-stages.result.now ≡ level_stages 0 0 c.args.query.now = ap stages_of c.as_slice-stages.ensures.value ∙ c.requires.plan.stages_are in
    within_too _ c.args.walk.now _ _ (ap (stages_read rows) made ∙ plans_read_the_bound rows c.args.query.now) (c.in_ok-solved.ensures.cost r)

pub returns-in_err-names-in-Found-clause-bound : goal.returns-in_err-names-in-Found-clause-bound
returns-in_err-names-in-Found-clause-bound g c = λ r.
    let rows : Entity → List Cells = λ e. table_rows e c.args.tables.now in
    let made : stages_of c.as_slice-stages.result.now ≡ level_stages 0 0 c.args.query.now = ap stages_of c.as_slice-stages.ensures.value ∙ c.requires.plan.stages_are in
    within_too _ c.args.walk.now _ _ (ap (stages_read rows) made ∙ plans_read_the_bound rows c.args.query.now) (c.in_ok-solved.ensures.cost r)

pub returns-in_ok-names-in-Found-clause-bound : goal.returns-in_ok-names-in-Found-clause-bound
returns-in_ok-names-in-Found-clause-bound g c = λ r.
    let rows : Entity → List Cells = λ e. table_rows e c.args.tables.now in
    let made : stages_of c.as_slice-stages.result.now ≡ level_stages 0 0 c.args.query.now = ap stages_of c.as_slice-stages.ensures.value ∙ c.requires.plan.stages_are in
    within_too _ c.args.walk.now _ _ (ap (stages_read rows) made ∙ plans_read_the_bound rows c.args.query.now) (c.in_ok-solved.ensures.cost r)
