use Rattle.std.proofs.Common.{◌∙◌, Some, sym}
use Rattle.std.proofs.lemmas.Result.{IfOk-weaker}
use Rattle.fleet_tables.proofs.PlaceLaws.{all_same, no_places, same_places}
use Rattle.fleet_tables.specs.Wanted.{is_wanted, texts_of}
use Rattle.fleet_tables.specs.table_machine.Rows.{table_rows}
use Rattle.query_reach.specs.Reach.{is_found}
use Rattle.query_reach.specs.Seen.{pins_seen}
use Rattle.query_reading.proofs.reading.places_in_reach.Goals as goal

pub returns-in-Some : goal.returns-in-Some
returns-in-Some c =
    let test = is_found (Some c.args.entity) (pins_seen c.args.pins.now) in
    let rows = table_rows c.args.entity c.args.tables.now in
    let own = is_wanted c.args.entity (texts_of c.in-Some.wanted) in
    IfOk-weaker c.seek.result _ _ (λ places h. h ∙ same_places own test 0 rows (all_same own test rows c.in-Some.ensures)) c.seek.ensures

pub returns-in-None : goal.returns-in-None
returns-in-None c =
    let test = is_found (Some c.args.entity) (pins_seen c.args.pins.now) in
    let rows = table_rows c.args.entity c.args.tables.now in
    c.new.ensures.items ∙ sym (no_places test 0 rows (c.in-None.ensures c.args.tables.now))
