-- What the tables are asked for, from what a stage demands.
use Rattle.std.specs.Prelude.{◌≡◌, List, [], false, Option, Some, None}
use Rattle.std.specs.List.{AllByRecursion}
use Rattle.fleet_tables.specs.Wanted.{has_own, is_wanted, texts_of}
use Rattle.fleet_tables.specs.kept_nodes.declared.wanted.Wanted.{Wanted}
use Rattle.fleet_tables.specs.fleet_rows.declared.row.Entity.{Entity}
use Rattle.fleet_tables.specs.table_machine.Rows.{table_rows}
use Rattle.fleet_tables.specs.table_machine.Table.{Table}
use Rattle.query_plan.specs.Plan.{Step}
use Rattle.query_plan.specs.table_spec.Rows.{Cells}
use Rattle.query_reach.specs.Reach.{Pin, shows_own, is_found}
use Rattle.query_reach.specs.Pins.{step_pins}
use Rattle.query_reading.specs.declared.reading.Reading.{Reading}
use Rattle.query_reading.specs.declared.reading.Reading.TheVariants.{All, InReach}

-- all rows are read without pins
abbrev pub IsPinsFor : Reading → List Step → List Pin → Type 0
IsPinsFor All steps pins = pins ≡ []
IsPinsFor InReach steps pins = pins ≡ step_pins steps

-- the rows that show what the pins demand besides the certname; None if no row of any table shows it
abbrev pub IsOwnBy : Entity → List Pin → Option Wanted → Type 0
IsOwnBy e ps None = (table : Table) → AllByRecursion (λ row. shows_own (Some e) ps row ≡ false) (table_rows e table)
IsOwnBy e ps (Some wanted) = (row : Cells) → has_own e (texts_of wanted) row ≡ shows_own (Some e) ps row

-- the rows in reach of the pins; None if no row of any table is
abbrev pub IsWantedBy : Entity → List Pin → Option Wanted → Type 0
IsWantedBy e ps None = (table : Table) → AllByRecursion (λ row. is_found (Some e) ps row ≡ false) (table_rows e table)
IsWantedBy e ps (Some wanted) = (row : Cells) → is_wanted e (texts_of wanted) row ≡ is_found (Some e) ps row
