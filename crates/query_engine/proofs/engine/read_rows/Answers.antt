use Rattle.std.proofs.Common.{◌∙◌, ℕ, List, Bool, map, ap, sym, subst}
use Rattle.std.proofs.lemmas.Result.{IfOk-weaker}
use Rattle.query_plan.specs.Made.{shape_of, stage_of}
use Rattle.query_plan.specs.Plan.{is_chosen}
use Rattle.query_reach.specs.Pins.{steps_facts}
use Rattle.query_reach.specs.Seen.{texts_seen}
use Rattle.query_rows.specs.Tables.{world_of}
use Rattle.query_reading.specs.Joins.{Joins, step_join}
use Rattle.query_reading.proofs.RowReads.{pins_imply, stage_cost}
use Rattle.level_answers.specs.Levels.{IsStageAnswered}
use Rattle.query_engine.proofs.Stages.{stage_answered, stage_whole}
use Rattle.query_engine.proofs.engine.read_rows.Goals as goal

pub chosen_rows-requires-clause-names : goal.chosen_rows-requires-clause-names
chosen_rows-requires-clause-names g c =
    ap texts_seen c.as_slice-named.ensures.value ∙ c.in_ok-names.ensures ∙ ap steps_facts c.as_slice-list.ensures

pub chosen_rows-requires-clause-implied : goal.chosen_rows-requires-clause-implied
chosen_rows-requires-clause-implied g c =
    let ps : List (List ℕ) = map (λ x. g.P.Patterns.made_from x) c.args.compiled.now in
    let says : List ℕ → List ℕ → Bool = g.P.Patterns.says c.args.patterns.now in
    pins_imply (world_of c.args.tables.now says) ps c.args.found.now (stage_of c.args.stage.now) c.args.reading _ _ c.as_slice-list.ensures c.in_ok-pins.ensures

pub chosen_rows-requires-clause-joined : goal.chosen_rows-requires-clause-joined
chosen_rows-requires-clause-joined g c = λ on.
    subst (λ ss. Joins (step_join ss) c.args.found.now (texts_seen c.in_ok-nodes.nodes.list.items)) c.as_slice-list.ensures (c.in_ok-nodes.ensures on)

pub returns-in-Whole-clause-cost : goal.returns-in-Whole-clause-cost
returns-in-Whole-clause-cost g c =
    stage_cost _ (stage_of c.args.stage.now) c.args.reading _ _ _ _ _ c.as_slice-list.ensures c.in_ok-pins.ensures
    (ap texts_seen c.as_slice-named.ensures.value ∙ c.in_ok-names.ensures) c.in_ok-rows.ensures.cost

pub returns-clause-cost : goal.returns-clause-cost
returns-clause-cost g c =
    stage_cost _ (stage_of c.args.stage.now) c.args.reading _ _ _ _ _ c.as_slice-list.ensures c.in_ok-pins.ensures
    (ap texts_seen c.as_slice-named.ensures.value ∙ c.in_ok-names.ensures) c.in_ok-rows.ensures.cost

pub returns-in_err-rows-clause-cost : goal.returns-in_err-rows-clause-cost
returns-in_err-rows-clause-cost g c =
    stage_cost _ (stage_of c.args.stage.now) c.args.reading _ _ _ _ _ c.as_slice-list.ensures c.in_ok-pins.ensures
    (ap texts_seen c.as_slice-named.ensures.value ∙ c.in_ok-names.ensures) c.in_err-rows.ensures.cost

pub returns-clause-value : goal.returns-clause-value
returns-clause-value g c =
    let ps : List (List ℕ) = map (λ x. g.P.Patterns.made_from x) c.args.compiled.now in
    let says : List ℕ → List ℕ → Bool = g.P.Patterns.says c.args.patterns.now in
    IfOk-weaker c.answer_from.result _ _
    (stage_answered (world_of c.args.tables.now says) ps c.args.found.now (stage_of c.args.stage.now) c.enough_for-enough.result c.in_ok-rows.rows c.in_ok-rows.ensures.value (c.enough_for-enough.ensures says (is_chosen (world_of c.args.tables.now says) ps c.args.found.now (stage_of c.args.stage.now))) _ _ _ (ap shape_of c.in-Answers.is))
    c.answer_from.ensures

pub returns-in-Whole-clause-value : goal.returns-in-Whole-clause-value
returns-in-Whole-clause-value g c =
    let ps : List (List ℕ) = map (λ x. g.P.Patterns.made_from x) c.args.compiled.now in
    let says : List ℕ → List ℕ → Bool = g.P.Patterns.says c.args.patterns.now in
    let w = world_of c.args.tables.now says in
    let s = stage_of c.args.stage.now in
    IfOk-weaker c.whole_from.result _ _
    (λ x h. subst (IsStageAnswered w ps c.args.found.now s) (sym h)
    (stage_whole w ps c.args.found.now s c.enough_for-enough.result c.in_ok-rows.rows c.in_ok-rows.ensures.value (c.enough_for-enough.ensures says (is_chosen w ps c.args.found.now s)) (ap shape_of c.in-Whole.is)))
    c.whole_from.ensures
