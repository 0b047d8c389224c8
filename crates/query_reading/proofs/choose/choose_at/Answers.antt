use Rattle.std.proofs.Common.{◌∙◌, ◌++◌, ℕ, List, Bool, map, ap, sym}
use Rattle.std.proofs.lemmas.Result.{IfOk-weaker}
use Rattle.query_plan.specs.Made.{stage_of}
use Rattle.query_reach.specs.Seen.{texts_seen}
use Rattle.query_reading.specs.Narrow.{steps_make}
use Rattle.query_reading.proofs.RowReads.{chosen_at}
use Rattle.query_reading.proofs.choose.choose_at.Goals as goal

pub choose-requires-clause-narrow : goal.choose-requires-clause-narrow
choose-requires-clause-narrow g c = λ h. ap (steps_make c.args.entity) (sym c.requires.steps) ∙ c.reads_narrow-narrow.ensures h

pub returns-clause-value : goal.returns-clause-value
returns-clause-value g c =
    let ps : List (List ℕ) = map (λ x. g.P.Patterns.made_from x) c.args.compiled.now in
    let says : List ℕ → List ℕ → Bool = g.P.Patterns.says c.args.patterns.now in
    IfOk-weaker c.choose.result _ _
    (λ u h. h
    ∙ ap (λ l. c.args.chosen.now ++ l)
    (chosen_at c.args.tables.now says ps c.args.found.now (stage_of c.args.stage.now) c.args.entity c.requires.entity c.in_ok-facts.facts (texts_seen c.args.names.now) c.requires.names c.args.place
    c.in_ok-row.row c.in_ok-facts.ensures.value c.in_ok-row.ensures.row))
    c.choose.ensures.value
