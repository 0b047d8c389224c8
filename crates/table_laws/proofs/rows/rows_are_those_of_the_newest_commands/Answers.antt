use Rattle.table_laws.proofs.ShownRows.{factsets_are_of_the_newest, catalogs_are_of_the_newest, resources_are_of_the_newest, edges_are_of_the_newest}
use Rattle.table_laws.proofs.rows.rows_are_those_of_the_newest_commands.Goals as goal

pub returns-clause-factsets : goal.returns-clause-factsets
returns-clause-factsets c = factsets_are_of_the_newest

pub returns-clause-catalogs : goal.returns-clause-catalogs
returns-clause-catalogs c = catalogs_are_of_the_newest

pub returns-clause-resources : goal.returns-clause-resources
returns-clause-resources c = resources_are_of_the_newest

pub returns-clause-edges : goal.returns-clause-edges
returns-clause-edges c = edges_are_of_the_newest
