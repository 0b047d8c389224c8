use Rattle.std.proofs.Common.{◌≡◌, ◌∙◌, ◌++◌, ℕ, List, Bool, map, ap, sym}
use Rattle.std.specs.Prelude.{filter}
use Rattle.std.proofs.lemmas.Result.{IfOk-weaker}
use Rattle.query_plan.specs.Plan.{is_chosen}
use Rattle.query_plan.specs.Made.{stage_of}
use Rattle.query_rows.specs.Tables.{world_of}
use Rattle.query_reading.specs.Narrow.{steps_make}
use Rattle.query_reading.proofs.RowReads.{block_alike}
use Rattle.query_reading.proofs.blocks.read_block.Goals as goal

pub choose_tried-requires-clause-narrow : goal.choose_tried-requires-clause-narrow
choose_tried-requires-clause-narrow g c = λ h. ap (steps_make c.args.entity) (sym c.requires.steps) ∙ c.reads_narrow-narrow.ensures h

pub returns-clause-value : goal.returns-clause-value
returns-clause-value g c =
    let ps : List (List ℕ) = map (λ x. g.P.Patterns.made_from x) c.args.compiled.now in
    let says : List ℕ → List ℕ → Bool = g.P.Patterns.says c.args.patterns.now in
    let s = stage_of c.args.stage.now in
    let alike = block_alike c.args.tables.now says ps c.args.found.now s c.args.entity c.requires.entity c.in_ok-facts.facts c.requires.names in
    IfOk-weaker c.choose_tried.result _ _
    (λ u h. h
    ∙ ap (λ t. c.args.chosen.now ++ filter t c.in_ok-rows.rows.items) alike
    ∙ ap (λ l. c.args.chosen.now ++ filter (is_chosen (world_of c.args.tables.now says) ps c.args.found.now s) l) c.in_ok-rows.ensures.value)
    c.choose_tried.ensures.value
