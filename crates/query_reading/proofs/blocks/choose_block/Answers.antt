use Rattle.std.proofs.Common.{◌≡◌, ◌∙◌, ◌++◌, ◌∷◌, ℕ, List, Bool, map, length, drop, sym, ap, subst, Some, arith}
use Rattle.std.specs.Prelude.{filter, slice_get}
use Rattle.std.specs.Option.{option_map}
use Rattle.std.proofs.lemmas.Option.{slice_get-map}
use Rattle.std.specs.Vec.Iter.{into_iter_items}
use Rattle.query_plan.specs.Plan.{is_chosen}
use Rattle.query_plan.specs.Made.{stage_of}
use Rattle.query_plan.specs.table_spec.Rows.{Cells}
use Rattle.row_views.specs.Narrow.{shown_as}
use Rattle.query_rows.specs.Columns.{AreGiven}
use Rattle.query_rows.specs.Scenes.{world}
use Rattle.query_rows.proofs.BlockLaws.{given_from}
use Rattle.query_rows.proofs.TryLaws.{tried_then}
use Rattle.query_reading.proofs.PlacedRows.{chosen_more, left_behind, there_at}
use Rattle.query_reading.proofs.blocks.choose_block.Goals as goal

pub choose_given-requires-clause-given : goal.choose_given-requires-clause-given
choose_given-requires-clause-given g c =
    let ps : List (List ℕ) = map (λ x. g.P.Patterns.made_from x) c.args.compiled.now in
    let says : List ℕ → List ℕ → Bool = g.P.Patterns.says c.args.patterns.now in
    let now_says : List ℕ → List ℕ → Bool = g.P.Patterns.says c.choosing.patterns in
    let alike : now_says ≡ says = λ i. λ p t. c.choosing.invariant.same p t i in
    let rows : List Cells = c.args.rows.items in
    let i : ℕ = c.choosing.i in
    let row : Cells = c.in-Some.row in
    let left : List Cells = into_iter_items c.next.new.self in
    let next : into_iter_items c.choosing.row-iterator ≡ row ∷ left = c.in-Some.ensures.steps.0 in
    let there : slice_get rows i ≡ Some row = there_at rows i row left (sym c.choosing.invariant.left ∙ next) in
    let shown : Cells → Cells = shown_as c.args.narrow c.args.entity in
    let seen : slice_get (map shown rows) i ≡ Some (shown row) = slice_get-map shown rows i ∙ ap (option_map shown) there in
    subst (λ (m : List ℕ → List ℕ → Bool). AreGiven c.args.scene.now m ps c.args.stage.now.entity (shown row) c.args.steps.now c.args.columns.now i) (sym alike)
    (given_from c.args.scene.now says ps c.args.stage.now.entity (map shown rows) i (shown row) seen c.args.steps.now c.args.columns.now c.requires.columns)

pub returns-in_err-choose_given-clause-tried : goal.returns-in_err-choose_given-clause-tried
returns-in_err-choose_given-clause-tried g c = tried_then _ _ _ c.choosing.invariant.tried c.choose_given.ensures.tried

pub choosing-preserved : goal.choosing-preserved
choosing-preserved g c =
    let ps : List (List ℕ) = map (λ x. g.P.Patterns.made_from x) c.args.compiled.now in
    let test : (List ℕ → List ℕ → Bool) → Cells → Bool = λ m. is_chosen (world c.args.scene.now m) ps c.args.found.now (stage_of c.args.stage.now) in
    let says : List ℕ → List ℕ → Bool = g.P.Patterns.says c.args.patterns.now in
    let now_says : List ℕ → List ℕ → Bool = g.P.Patterns.says c.choosing.patterns in
    let alike : test now_says ≡ test says = λ i. test (λ p t. c.choosing.invariant.same p t i) in
    let rows : List Cells = c.args.rows.items in
    let row : Cells = c.in-Some.row in
    let left : List Cells = into_iter_items c.next.new.self in
    let whole : List Cells = c.args.chosen.now ++ filter (test says) rows in
    let next : into_iter_items c.choosing.row-iterator ≡ row ∷ left = c.in-Some.ensures.steps.0 in
    record {
      can = tt;
      ends = tt;
      count = omega (arith, ap length next, c.choosing.invariant.count);
      left = left_behind rows c.choosing.i row left (sym c.choosing.invariant.left ∙ next);
      told = c.choose_given.ensures.told;
      same = λ p t. c.choose_given.ensures.same p t ∙ c.choosing.invariant.same p t;
      calm = c.choose_given.ensures.calm ∙ c.choosing.invariant.calm;
      silent = c.choose_given.ensures.silent ∙ c.choosing.invariant.silent;
      tried = tried_then _ _ _ c.choosing.invariant.tried c.choose_given.ensures.tried;
      rest =
          chosen_more (test says) (test now_says) alike row left c.choosing.chosen c.choose_given.new.chosen whole c.in_ok-choose_given.ensures.value
          (ap (λ l. c.choosing.chosen ++ filter (test says) l) (sym next) ∙ c.choosing.invariant.rest);
    }
