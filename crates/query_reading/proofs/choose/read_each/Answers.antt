use Rattle.std.proofs.Common.{◌≡◌, ◌≤◌, ◌<◌, ◌+◌, ◌∙◌, ◌++◌, ℕ, List, [], Bool, length, map, drop, get_or, ap, sym, refl, arith, append-nil}
use Rattle.std.specs.Prelude.{filter}
use Rattle.std.proofs.lemmas.List.{drop_all}
use Rattle.query_plan.specs.Plan.{is_chosen}
use Rattle.query_plan.specs.Made.{stage_of}
use Rattle.fleet_tables.specs.table_machine.Rows.{table_rows}
use Rattle.query_plan.specs.table_spec.Rows.{Cells}
use Rattle.query_rows.specs.Tables.{world_of}
use Rattle.query_rows.proofs.TryLaws.{tried_nothing, tried_then}
use Rattle.query_reading.specs.Fetched.{picked}
use Rattle.query_reading.specs.Stopping.{first_of}
use Rattle.query_reading.proofs.PlacedRows.{cost_on, cost_within, read_on}
use Rattle.query_reading.proofs.ReadLaws.{at_place, default_off}
use Rattle.query_reading.proofs.StoppingLaws.{few_at_start, few_first, few_still, stopped}
use Rattle.query_reading.proofs.choose.read_each.Goals as goal

pub reading-init : goal.reading-init
reading-init g c =
    let ps : List (List ℕ) = map (λ x. g.P.Patterns.made_from x) c.args.compiled.now in
    let rows = table_rows c.args.entity c.args.tables.now in
    let test = is_chosen (world_of c.args.tables.now (g.P.Patterns.says c.args.patterns.now)) ps c.args.found.now (stage_of c.args.stage.now) in
    record {
      same = λ p t. refl;
      calm = refl;
      silent = refl;
      tried = tried_nothing _;
      cost = omega arith;
      few = few_at_start c.args.enough c.new-chosen.result c.new-chosen.ensures;
      rest = ap (λ (d : List Cells). d ++ filter test (picked rows c.args.places.now)) c.new-chosen.ensures;
    }

pub choose_at-requires-clause-place : goal.choose_at-requires-clause-place
choose_at-requires-clause-place g c =
    at_place (length (table_rows c.args.entity c.args.tables.now)) c.args.places.now c.reading.place-index 0 c.requires.places c.reading-test.true

pub reading-preserved : goal.reading-preserved
reading-preserved g c =
    let ps : List (List ℕ) = map (λ x. g.P.Patterns.made_from x) c.args.compiled.now in
    let says : List ℕ → List ℕ → Bool = g.P.Patterns.says c.args.patterns.now in
    let now_says : List ℕ → List ℕ → Bool = g.P.Patterns.says c.reading.patterns in
    let test : (List ℕ → List ℕ → Bool) → Cells → Bool = λ m. is_chosen (world_of c.args.tables.now m) ps c.args.found.now (stage_of c.args.stage.now) in
    let alike : test now_says ≡ test says = λ i. test (λ p t. c.reading.invariant.same p t i) in
    let rows = table_rows c.args.entity c.args.tables.now in
    let lt : c.reading.place-index < length c.args.places.now = c.reading-test.true in
    let at : ℕ = get_or c.args.places.now c.reading.place-index 0 in
    record {
      same = λ p t. c.in_ok-choose_at.ensures.same p t ∙ c.reading.invariant.same p t;
      calm = c.in_ok-choose_at.ensures.calm ∙ c.reading.invariant.calm;
      silent = c.in_ok-choose_at.ensures.silent ∙ c.reading.invariant.silent;
      tried = tried_then _ _ _ c.reading.invariant.tried c.in_ok-choose_at.ensures.tried;
      cost = cost_on c.args.walk.now c.reading.walk c.choose_at.new.walk c.reading.place-index (length c.args.names.now) c.reading.invariant.cost c.in_ok-choose_at.ensures.cost;
      few = few_still c.args.enough (test now_says) rows at c.reading.chosen c.choose_at.new.chosen (sym c.suffices.ensures ∙ c.if-suffices.false) c.in_ok-choose_at.ensures.value;
      rest =
          read_on (test says) (test now_says) alike rows c.args.places.now c.reading.place-index at c.reading.chosen c.choose_at.new.chosen (filter (test says) (picked rows c.args.places.now)) lt (default_off c.args.places.now c.reading.place-index 0 at lt)
          c.in_ok-choose_at.ensures.value c.reading.invariant.rest;
    }

pub returns-in_err-choose_at-clause-tried : goal.returns-in_err-choose_at-clause-tried
returns-in_err-choose_at-clause-tried g c = tried_then _ _ _ c.reading.invariant.tried c.choose_at.ensures.tried

pub returns-in_err-choose_at-clause-cost : goal.returns-in_err-choose_at-clause-cost
returns-in_err-choose_at-clause-cost g c =
    let f = length c.args.names.now in
    let within : c.reading.place-index + 1 ≤ length c.args.places.now = omega (arith, c.reading-test.true) in
    cost_within c.args.walk.now c.choose_at.new.walk (c.reading.place-index + 1) (length c.args.places.now) f
    (cost_on c.args.walk.now c.reading.walk c.choose_at.new.walk c.reading.place-index f c.reading.invariant.cost c.choose_at.ensures.cost) within

pub returns-clause-cost : goal.returns-clause-cost
returns-clause-cost g c =
    cost_within c.args.walk.now c.reading.walk c.reading.place-index (length c.args.places.now) (length c.args.names.now) c.reading.invariant.cost (omega (arith, c.reading.auto.place-index-end))

pub returns-then-suffices-clause-cost : goal.returns-then-suffices-clause-cost
returns-then-suffices-clause-cost g c =
    let within : c.reading.place-index ≤ length c.args.places.now = omega (arith, c.reading-test.true) in
    cost_within c.args.walk.now c.reading.walk c.reading.place-index (length c.args.places.now) (length c.args.names.now) c.reading.invariant.cost within

pub returns-then-suffices-clause-value : goal.returns-then-suffices-clause-value
returns-then-suffices-clause-value g c =
    let ps : List (List ℕ) = map (λ x. g.P.Patterns.made_from x) c.args.compiled.now in
    let test = is_chosen (world_of c.args.tables.now (g.P.Patterns.says c.args.patterns.now)) ps c.args.found.now (stage_of c.args.stage.now) in
    let rows = table_rows c.args.entity c.args.tables.now in
    stopped c.args.enough c.reading.chosen (filter test (picked rows (drop c.reading.place-index c.args.places.now))) (filter test (picked rows c.args.places.now)) c.reading.invariant.few
    (sym c.suffices.ensures ∙ c.if-suffices.true) c.reading.invariant.rest

pub returns-clause-value : goal.returns-clause-value
returns-clause-value g c =
    let ps : List (List ℕ) = map (λ x. g.P.Patterns.made_from x) c.args.compiled.now in
    let test = is_chosen (world_of c.args.tables.now (g.P.Patterns.says c.args.patterns.now)) ps c.args.found.now (stage_of c.args.stage.now) in
    let rows = table_rows c.args.entity c.args.tables.now in
    let none : drop c.reading.place-index c.args.places.now ≡ [] = drop_all c.reading.place-index c.args.places.now (omega (arith, c.reading.auto.place-index-end)) in
    let whole : c.reading.chosen ≡ filter test (picked rows c.args.places.now) = sym (append-nil c.reading.chosen) ∙ ap (λ l. c.reading.chosen ++ filter test (picked rows l)) (sym none) ∙ c.reading.invariant.rest in
    sym (few_first c.args.enough c.reading.chosen c.reading.invariant.few) ∙ ap (first_of c.args.enough) whole
