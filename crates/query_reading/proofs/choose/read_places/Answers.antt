use Rattle.std.proofs.Common.{◌≡◌, ◌∙◌, ◌≤◌, ◌+◌, ◌*◌, ℕ, List, Bool, [], map, length, ap, sym, subst, Option, None, arith}
use Rattle.std.specs.Prelude.{filter}
use Rattle.std.proofs.lemmas.Result.{IfOk-weaker}
use Rattle.fleet_tables.specs.table_machine.Rows.{table_rows}
use Rattle.query_plan.specs.Made.{stage_of}
use Rattle.query_plan.specs.Plan.{is_chosen}
use Rattle.query_reach.specs.Seen.{texts_seen}
use Rattle.query_rows.specs.Tables.{world_of}
use Rattle.query_reading.specs.Fetched.{picked}
use Rattle.query_reading.specs.Stopping.{first_of}
use Rattle.query_reading.proofs.choose.read_places.Goals as goal

pub read_blocks-requires-clause-names : goal.read_blocks-requires-clause-names
read_blocks-requires-clause-names g c = sym c.requires.names ∙ ap texts_seen (c.goes_by_blocks.ensures.names c.if-goes_by_blocks.true)

pub returns-then-goes_by_blocks-clause-cost : goal.returns-then-goes_by_blocks-clause-cost
returns-then-goes_by_blocks-clause-cost g c =
    let none : length c.args.names.now ≡ 0 = ap length (c.goes_by_blocks.ensures.names c.if-goes_by_blocks.true) in
    let n = length c.args.places.now in
    subst (λ k. c.read_blocks.new.walk ≤ c.args.walk.now + n * (1 + k)) (sym none) (omega (arith, c.read_blocks.ensures.cost))

pub returns-then-goes_by_blocks-clause-value : goal.returns-then-goes_by_blocks-clause-value
returns-then-goes_by_blocks-clause-value g c =
    let ps : List (List ℕ) = map (λ x. g.P.Patterns.made_from x) c.args.compiled.now in
    let says : List ℕ → List ℕ → Bool = g.P.Patterns.says c.args.patterns.now in
    let rows = filter (is_chosen (world_of c.args.tables.now says) ps c.args.found.now (stage_of c.args.stage.now)) (picked (table_rows c.args.entity c.args.tables.now) c.args.places.now) in
    IfOk-weaker c.read_blocks.result _ _ (λ lines h. h ∙ ap (λ (o : Option ℕ). first_of o rows) (sym (c.goes_by_blocks.ensures.all c.if-goes_by_blocks.true))) c.read_blocks.ensures.value
