use Rattle.means_laws.proofs.PrintableTables.{tables_can_be_printed}
use Rattle.means_laws.proofs.PrintableMeans.{rows_can_be_printed, pages_can_be_printed}
use Rattle.means_laws.proofs.laws.moments_can_be_printed.Goals as goal

pub returns-clause-tables : goal.returns-clause-tables
returns-clause-tables c = tables_can_be_printed

pub returns-clause-rows : goal.returns-clause-rows
returns-clause-rows c = rows_can_be_printed

pub returns-clause-pages : goal.returns-clause-pages
returns-clause-pages c = pages_can_be_printed
