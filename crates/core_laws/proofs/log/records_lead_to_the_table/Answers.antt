use Rattle.core_laws.proofs.TableCheckpoints.{records_lead_to_the_table, the_same_records_tell_one_table}
use Rattle.core_laws.proofs.log.records_lead_to_the_table.Goals as goal

pub returns-clause-table : goal.returns-clause-table
returns-clause-table c = records_lead_to_the_table

pub returns-clause-alike : goal.returns-clause-alike
returns-clause-alike c = the_same_records_tell_one_table
