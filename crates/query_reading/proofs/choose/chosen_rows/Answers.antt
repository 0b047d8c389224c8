use Rattle.std.proofs.Common.{◌≡◌, ◌≤◌, ◌+◌, ◌*◌, ◌∙◌, ℕ, List, Bool, map, length, ap, sym, subst, Option, true}
use Rattle.std.specs.Prelude.{filter}
use Rattle.std.proofs.lemmas.Result.{IfOk-weaker}
use Rattle.fleet_tables.specs.fleet_rows.declared.row.Entity.{Entity}
use Rattle.fleet_tables.specs.table_machine.Rows.{table_rows}
use Rattle.query_plan.specs.means_spec.World.{rows_in}
use Rattle.query_plan.specs.Made.{stage_of}
use Rattle.query_plan.specs.Plan.{is_chosen}
use Rattle.query_reach.specs.Reach.{is_found, reach}
use Rattle.query_rows.specs.Tables.{world_of}
use Rattle.query_reading.specs.Stopping.{first_of}
use Rattle.query_reading.proofs.StoppingLaws.{none_first}
use Rattle.query_reading.proofs.choose.chosen_rows.Goals as goal

pub chosen_of-requires-clause-implied : goal.chosen_of-requires-clause-implied
chosen_of-requires-clause-implied g c = λ row h.
    subst (λ (o : Option Entity). is_found o c.args.pins.now row ≡ true) c.in-Some.is (c.requires.implied row h)

pub returns-in-Some-clause-cost : goal.returns-in-Some-clause-cost
returns-in-Some-clause-cost g c =
    subst (λ (o : Option Entity). c.chosen_of.new.walk ≤ c.args.walk.now + reach (λ e. table_rows e c.args.tables.now) o c.args.pins.now * (1 + length c.args.names.now)) (sym c.in-Some.is)
    c.chosen_of.ensures.cost

pub returns-in-Some-clause-value : goal.returns-in-Some-clause-value
returns-in-Some-clause-value g c =
    let ps : List (List ℕ) = map (λ x. g.P.Patterns.made_from x) c.args.compiled.now in
    let says : List ℕ → List ℕ → Bool = g.P.Patterns.says c.args.patterns.now in
    let w = world_of c.args.tables.now says in
    let s = stage_of c.args.stage.now in
    IfOk-weaker c.chosen_of.result _ _ (λ rows h. h ∙ ap (λ o. first_of c.args.enough (filter (is_chosen w ps c.args.found.now s) (rows_in w o))) (sym c.in-Some.is)) c.chosen_of.ensures.value

pub returns-in-None-clause-value : goal.returns-in-None-clause-value
returns-in-None-clause-value g c =
    let ps : List (List ℕ) = map (λ x. g.P.Patterns.made_from x) c.args.compiled.now in
    let w = world_of c.args.tables.now (g.P.Patterns.says c.args.patterns.now) in
    let s = stage_of c.args.stage.now in
    c.new.ensures ∙ sym (none_first c.args.enough) ∙ ap (λ o. first_of c.args.enough (filter (is_chosen w ps c.args.found.now s) (rows_in w o))) (sym c.in-None.is)
