use Rattle.table_machine.proofs.of_table_spec.NamedLaws.{text_is, moment_is}
use Rattle.table_laws.proofs.columns.a_text_equals_itself.Goals as goal

pub returns-clause-texts : goal.returns-clause-texts
returns-clause-texts c = text_is

pub returns-clause-moments : goal.returns-clause-moments
returns-clause-moments c = moment_is
