use Rattle.std.proofs.Common.{◌≤◌, ◌+◌, ◌*◌, length, Some, sym, subst}
use Rattle.fleet_tables.specs.table_machine.Rows.{table_rows}
use Rattle.query_reach.specs.Reach.{is_found}
use Rattle.query_reading.proofs.PlacedRows.{all_pass}
use Rattle.query_reading.proofs.choose.chosen_of.Goals as goal

pub returns-then-reads_front-clause-cost : goal.returns-then-reads_front-clause-cost
returns-then-reads_front-clause-cost g c =
    let rows = table_rows c.args.entity c.args.tables.now in
    subst (λ n. c.read_front.new.walk ≤ c.args.walk.now + n * (1 + length c.args.names.now)) (sym (all_pass (is_found (Some c.args.entity) c.args.pins.now) rows (c.reads_front.ensures c.if-reads_front.true))) c.read_front.ensures.cost
