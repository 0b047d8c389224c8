use Rattle.std.proofs.Common.{◌≡◌, ◌≤◌, ◌+◌, ◌++◌, drop}
use Rattle.fleet_tables.specs.table_machine.Rows.{table_rows}
use Rattle.query_reading.specs.Fetched.{picked}
use Rattle.query_reading.proofs.blocks.rows_at.Given as goal

abbrev pub invariant-reading : goal.invariant-reading
invariant-reading g l =
    let rows = table_rows l.fn.entity l.tables in
    record {
      cost : l.walk ≤ l.initial.walk + l.place-index;
      cursor : l.cursor ≡ rows;
      rest : l.rows.items ++ picked rows (drop l.place-index l.places) ≡ picked rows l.places;
    }
