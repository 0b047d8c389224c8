use Rattle.std.proofs.Common.{◌≡◌, ◌∙◌, List, Bool, ℕ, map, ap, true, codes}
use Rattle.std.proofs.lemmas.Result.{IfOk-weaker}
use Rattle.fleet_tables.specs.table_machine.Rows.{table_rows}
use Rattle.query_plan.specs.Made.{stage_of}
use Rattle.query_plan.specs.Plan.{is_chosen}
use Rattle.query_reach.specs.Seen.{texts_seen}
use Rattle.query_rows.specs.Tables.{world_of}
use Rattle.query_reading.specs.Joins.{is_of}
use Rattle.query_reading.specs.Stopping.{first_of}
use Rattle.query_reading.proofs.JoinLaws.{chosen_is_of}
use Rattle.query_reading.proofs.PlacedRows.{cost_within}
use Rattle.query_reading.proofs.ReadLaws.{read_so, read_within, read_few, read_all}
use Rattle.query_reading.proofs.TextCells.{IsTextIn, certnames_are_texts}
use Rattle.fleet_tables.proofs.of_plain_laws.Members.{all_as}
use Rattle.query_reading.proofs.choose.chosen_by_places.Goals as goal

pub read_places-requires-clause-places : goal.read_places-requires-clause-places
read_places-requires-clause-places g c =
    let e = c.args.entity in
    let nodes = texts_seen c.args.nodes.now.list.items in
    let rows = table_rows e c.args.tables.now in
    read_within e c.args.pins.now nodes rows _ c.args.nodes.now.joined (read_so c.args.nodes.now.joined e _ c.args.pins.now nodes rows _ _ c.as_slice.ensures c.as_slice-2.ensures.value c.in_ok-places.ensures)

pub returns-clause-cost : goal.returns-clause-cost
returns-clause-cost g c =
    let e = c.args.entity in
    let nodes = texts_seen c.args.nodes.now.list.items in
    let rows = table_rows e c.args.tables.now in
    cost_within c.args.walk.now c.read_places.new.walk _ _ _ c.read_places.ensures.cost
    (read_few e c.args.pins.now nodes rows _ c.args.nodes.now.joined (read_so c.args.nodes.now.joined e _ c.args.pins.now nodes rows _ _ c.as_slice.ensures c.as_slice-2.ensures.value c.in_ok-places.ensures))

pub returns-clause-value : goal.returns-clause-value
returns-clause-value g c =
    let e = c.args.entity in
    let nodes = texts_seen c.args.nodes.now.list.items in
    let rows = table_rows e c.args.tables.now in
    let ps : List (List ℕ) = map (λ x. g.P.Patterns.made_from x) c.args.compiled.now in
    let says : List ℕ → List ℕ → Bool = g.P.Patterns.says c.args.patterns.now in
    let w = world_of c.args.tables.now says in
    let s = stage_of c.args.stage.now in
    IfOk-weaker c.read_places.result _ _
    (λ lines h. h
    ∙ ap (first_of c.args.enough) (read_all e c.args.pins.now nodes rows _ (is_chosen w ps c.args.found.now s) c.requires.implied c.args.nodes.now.joined
    (λ on. all_as (IsTextIn e (codes "certname")) (λ row. is_chosen w ps c.args.found.now s row ≡ true → is_of e nodes row ≡ true) rows (chosen_is_of w ps c.args.found.now s e nodes c.requires.entity (c.requires.joined on)) (certnames_are_texts e c.args.tables.now))
    (read_so c.args.nodes.now.joined e _ c.args.pins.now nodes rows _ _ c.as_slice.ensures c.as_slice-2.ensures.value c.in_ok-places.ensures)))
    c.read_places.ensures.value
