use Rattle.std.proofs.Common.{◌≡◌, ◌∙◌, ◌≤◌, ◌<◌, ◌-◌, ◌++◌, ℕ, List, Bool, map, length, drop, take, ap, sym, subst, arith}
use Rattle.std.specs.Prelude.{filter}
use Rattle.std.specs.List.{AllByRecursion}
use Rattle.fleet_tables.proofs.of_plain_laws.Members.{all_take, all_drop}
use Rattle.fleet_tables.specs.table_machine.Rows.{table_rows}
use Rattle.query_plan.specs.Plan.{is_chosen}
use Rattle.query_plan.specs.Made.{stage_of}
use Rattle.query_plan.specs.table_spec.Rows.{Cells}
use Rattle.query_rows.specs.Tables.{world_of}
use Rattle.query_rows.proofs.TryLaws.{tried_then}
use Rattle.query_reading.specs.Fetched.{picked}
use Rattle.query_reading.proofs.PlacedRows.{block_on, take_at_most}
use Rattle.query_reading.proofs.blocks.read_blocks.Goals as goal

pub read_block-requires-clause-places : goal.read_block-requires-clause-places
read_block-requires-clause-places g c =
    let places : List ℕ = c.args.places.now in
    let n = length (table_rows c.args.entity c.args.tables.now) in
    let is : ℕ → Type 0 = λ place. place < n in
    let at : ℕ = c.reading.at in
    let end : ℕ = c.block_end-end.result in
    subst (AllByRecursion is) (sym c.block_of-block.ensures) (all_take is (end - at) (drop at places) (all_drop is at places c.requires.places))

pub returns-in_err-read_block-clause-tried : goal.returns-in_err-read_block-clause-tried
returns-in_err-read_block-clause-tried g c = tried_then _ _ _ c.reading.invariant.tried c.read_block.ensures.tried

pub returns-in_err-read_block-clause-cost : goal.returns-in_err-read_block-clause-cost
returns-in_err-read_block-clause-cost g c =
    let places : List ℕ = c.args.places.now in
    let at : ℕ = c.reading.at in
    let end : ℕ = c.block_end-end.result in
    let few : length c.block_of-block.result.now ≤ end - at = subst (λ (xs : List ℕ). length xs ≤ end - at) (sym c.block_of-block.ensures) (take_at_most (end - at) (drop at places)) in
    omega (arith, few, c.read_block.ensures.cost, c.reading.invariant.cost, c.block_end-end.ensures.more, c.block_end-end.ensures.within)

pub reading-preserved : goal.reading-preserved
reading-preserved g c =
    let ps : List (List ℕ) = map (λ x. g.P.Patterns.made_from x) c.args.compiled.now in
    let test : (List ℕ → List ℕ → Bool) → Cells → Bool = λ m. is_chosen (world_of c.args.tables.now m) ps c.args.found.now (stage_of c.args.stage.now) in
    let says : List ℕ → List ℕ → Bool = g.P.Patterns.says c.args.patterns.now in
    let now_says : List ℕ → List ℕ → Bool = g.P.Patterns.says c.reading.patterns in
    let alike : test now_says ≡ test says = λ i. test (λ p t. c.reading.invariant.same p t i) in
    let rows : List Cells = table_rows c.args.entity c.args.tables.now in
    let places : List ℕ = c.args.places.now in
    let at : ℕ = c.reading.at in
    let end : ℕ = c.block_end-end.result in
    let order : at ≤ end = omega (arith, c.block_end-end.ensures.more) in
    let few : length c.block_of-block.result.now ≤ end - at = subst (λ (xs : List ℕ). length xs ≤ end - at) (sym c.block_of-block.ensures) (take_at_most (end - at) (drop at places)) in
    record {
      same = λ p t. c.read_block.ensures.same p t ∙ c.reading.invariant.same p t;
      calm = c.read_block.ensures.calm ∙ c.reading.invariant.calm;
      silent = c.read_block.ensures.silent ∙ c.reading.invariant.silent;
      tried = tried_then _ _ _ c.reading.invariant.tried c.read_block.ensures.tried;
      within = c.block_end-end.ensures.within;
      cost = omega (arith, few, order, c.read_block.ensures.cost, c.reading.invariant.cost);
      rest =
          block_on (test says) (test now_says) alike rows places at end c.reading.chosen c.read_block.new.chosen (filter (test says) (picked rows places)) order
          (c.in_ok-read_block.ensures.value ∙ ap (λ l. c.reading.chosen ++ filter (test now_says) (picked rows l)) c.block_of-block.ensures) c.reading.invariant.rest;
    }
