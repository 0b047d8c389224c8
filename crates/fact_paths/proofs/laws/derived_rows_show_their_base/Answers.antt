use Rattle.fact_paths.proofs.RowLaws.{inventory_shows}
use Rattle.fact_paths.proofs.laws.derived_rows_show_their_base.Goals as goal

pub returns-clause-inventory : goal.returns-clause-inventory
returns-clause-inventory c = inventory_shows
