use Rattle.table_laws.proofs.Hashes.{factsets_are_hashed, reports_are_hashed, resources_are_hashed}
use Rattle.table_laws.proofs.CatalogHashes.{catalogs_are_hashed}
use Rattle.table_laws.proofs.columns.a_hash_is_that_of_the_other_columns.Goals as goal

pub returns-clause-factsets : goal.returns-clause-factsets
returns-clause-factsets c = factsets_are_hashed

pub returns-clause-reports : goal.returns-clause-reports
returns-clause-reports c = reports_are_hashed

pub returns-clause-resources : goal.returns-clause-resources
returns-clause-resources c = resources_are_hashed

pub returns-clause-catalogs : goal.returns-clause-catalogs
returns-clause-catalogs c = catalogs_are_hashed
