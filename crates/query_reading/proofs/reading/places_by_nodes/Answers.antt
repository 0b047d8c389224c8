use Rattle.std.proofs.lemmas.Result.{IfOk-weaker}
use Rattle.fleet_tables.specs.table_machine.Rows.{table_rows}
use Rattle.query_reach.specs.Seen.{pins_seen, texts_seen}
use Rattle.query_reading.proofs.ReadLaws.{reach_is, some_weaker}
use Rattle.query_reading.proofs.reading.places_by_nodes.Goals as goal

pub returns-in-Some : goal.returns-in-Some
returns-in-Some c =
    let e = c.args.entity in
    let ps = pins_seen c.args.pins.now in
    IfOk-weaker c.places_of_nodes.result _ _
    (λ found h. some_weaker _ _ found (λ v. reach_is e ps (texts_seen c.args.nodes.now) (table_rows e c.args.tables.now) v.items c.in-Nothing.ensures) (h ps c.in-Some.ensures))
    c.places_of_nodes.ensures
