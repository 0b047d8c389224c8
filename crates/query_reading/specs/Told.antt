-- What the tables told of a node.
use Rattle.std.specs.Prelude.{◌≡◌}
use Rattle.fleet_tables.specs.Asked.{is_inactive_in}
use Rattle.fleet_tables.specs.table_machine.Table.{Table}
use Rattle.query_reading.specs.declared.activity.Told.{Told}

-- it is so in these tables
abbrev pub IsTold : Table → Told → Type 0
IsTold table told = told.inactive ≡ is_inactive_in table told.certname
