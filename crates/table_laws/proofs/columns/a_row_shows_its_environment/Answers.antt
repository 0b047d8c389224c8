use Rattle.table_laws.proofs.ShownColumns.{factsets_show_their_environment, facts_show_their_environment, catalogs_show_their_environment, resources_show_their_environment}
use Rattle.table_laws.proofs.columns.a_row_shows_its_environment.Goals as goal

pub returns-clause-factsets : goal.returns-clause-factsets
returns-clause-factsets c = factsets_show_their_environment

pub returns-clause-facts : goal.returns-clause-facts
returns-clause-facts c = facts_show_their_environment

pub returns-clause-catalogs : goal.returns-clause-catalogs
returns-clause-catalogs c = catalogs_show_their_environment

pub returns-clause-resources : goal.returns-clause-resources
returns-clause-resources c = resources_show_their_environment
