use Rattle.std.proofs.Common.{◌≡◌, ◌≤◌, ◌+◌, ◌++◌, drop}
use Rattle.fleet_tables.specs.fleet_rows.declared.row.Entity.TheVariants.{Facts}
use Rattle.fleet_tables.specs.table_machine.Rows.{table_rows}
use Rattle.query_reach.specs.Seen.{texts_seen}
use Rattle.query_reading.specs.Fetched.{fetched}
use Rattle.query_reading.proofs.facts.read_facts.Given as goal

abbrev pub invariant-reading : goal.invariant-reading
invariant-reading g l =
    let all = table_rows Facts l.tables in
    record {
      cost : l.walk ≤ l.initial.walk + l.name-index;
      rest : l.facts ++ fetched l.node all (texts_seen (drop l.name-index l.names)) ≡ fetched l.node all (texts_seen l.names);
    }
