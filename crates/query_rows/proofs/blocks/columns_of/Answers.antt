use Rattle.std.proofs.Common.{◌≡◌, ◌∙◌, ◌+◌, ◌<◌, ◌++◌, ap, sym, refl, subst, List, ℕ, Bool, [], ◌∷◌, map, length, length-append, Some, arith}
use Rattle.std.specs.Prelude.{slice_get}
use Rattle.std.proofs.lemmas.Option.{slice_get_read}
use Rattle.query_plan.specs.Plan.{Step}
use Rattle.query_rows.specs.Columns.{IsColumn, AreColumns}
use Rattle.query_rows.specs.declared.blocks.Column.{Column}
use Rattle.query_rows.proofs.BlockLaws.{columns_on, none_left}
use Rattle.query_rows.proofs.TryLaws.{tried_nothing, tried_then}
use Rattle.query_rows.proofs.blocks.columns_of.Goals as goal

pub loop-ready-init : goal.loop-ready-init
loop-ready-init g c =
    let ps : List (List ℕ) = map (λ x. g.P.Patterns.made_from x) c.args.compiled.now in
    let says : List ℕ → List ℕ → Bool = g.P.Patterns.says c.args.patterns.now in
    let are : List Column → Type 0 = AreColumns c.args.scene.now says ps c.args.entity c.args.rows.now c.args.steps.now in
    record {
      same = λ p t. refl;
      calm = refl;
      silent = refl;
      tried = tried_nothing _;
      count = ap length c.new-columns.ensures.items;
      columns = subst are (sym c.new-columns.ensures.items) (none_left c.args.scene.now says ps c.args.entity c.args.rows.now c.args.steps.now);
    }

pub returns-in_err-column-clause-tried : goal.returns-in_err-column-clause-tried
returns-in_err-column-clause-tried g c = tried_then _ _ _ c.loop-ready.invariant.tried c.column_of.ensures.tried

pub returns-in_err-push-clause-tried : goal.returns-in_err-push-clause-tried
returns-in_err-push-clause-tried g c = tried_then _ _ _ c.loop-ready.invariant.tried c.column_of.ensures.tried

pub loop-ready-preserved : goal.loop-ready-preserved
loop-ready-preserved g c =
    let ps : List (List ℕ) = map (λ x. g.P.Patterns.made_from x) c.args.compiled.now in
    let says : List ℕ → List ℕ → Bool = g.P.Patterns.says c.args.patterns.now in
    let now_says : List ℕ → List ℕ → Bool = g.P.Patterns.says c.loop-ready.patterns in
    let alike : now_says ≡ says = λ i. λ p t. c.loop-ready.invariant.same p t i in
    let steps : List Step = c.args.steps.now in
    let s : Step = c.ready-item.result in
    let rows = c.args.rows.now in
    let column : Column = c.in_ok-column.column in
    let columns : List Column = c.loop-ready.columns.items in
    let there : slice_get steps c.loop-ready.ready-index ≡ Some s = slice_get_read steps (length steps) c.loop-ready.ready-index s refl c.loop-ready-test.true c.ready-item.is in
    let at : slice_get steps (length columns) ≡ Some s = ap (slice_get steps) c.loop-ready.invariant.count ∙ there in
    let step : IsColumn c.args.scene.now now_says ps c.args.entity rows s column =
    subst (λ (x : Step). IsColumn c.args.scene.now now_says ps c.args.entity rows x column) c.ready.view_is c.in_ok-column.ensures.value
    in
    let is : IsColumn c.args.scene.now says ps c.args.entity rows s column = subst (λ (m : List ℕ → List ℕ → Bool). IsColumn c.args.scene.now m ps c.args.entity rows s column) alike step in
    record {
      same = λ p t. c.column_of.ensures.same p t ∙ c.loop-ready.invariant.same p t;
      calm = c.column_of.ensures.calm ∙ c.loop-ready.invariant.calm;
      silent = c.column_of.ensures.silent ∙ c.loop-ready.invariant.silent;
      tried = tried_then _ _ _ c.loop-ready.invariant.tried c.column_of.ensures.tried;
      count = ap length c.in_ok-push.ensures.items ∙ length-append columns (column ∷ []) ∙ ap (λ n. n + 1) c.loop-ready.invariant.count;
      columns =
          subst (AreColumns c.args.scene.now says ps c.args.entity rows steps) (sym c.in_ok-push.ensures.items)
          (columns_on c.args.scene.now says ps c.args.entity rows steps columns s column at is c.loop-ready.invariant.columns);
    }
