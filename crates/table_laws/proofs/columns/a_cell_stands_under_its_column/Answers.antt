use Rattle.table_machine.specs.fleet_rows.Columns.{columns_of}
use Rattle.table_machine.proofs.of_table_spec.NamedLaws.{cell_at_place, no_cell}
use Rattle.table_laws.proofs.columns.a_cell_stands_under_its_column.Goals as goal

pub returns-clause-found : goal.returns-clause-found
returns-clause-found c = cell_at_place

pub returns-clause-none : goal.returns-clause-none
returns-clause-none c = λ entity name row. no_cell name (columns_of entity) row
