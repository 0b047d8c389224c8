use Rattle.table_machine.proofs.TableLaws.{steps_make_the_table, one_thread_is_followed}
use Rattle.table_machine.proofs.whole.the_steps_make_the_table.Goals as goal

pub returns-clause-trace : goal.returns-clause-trace
returns-clause-trace c = steps_make_the_table

pub returns-clause-thread : goal.returns-clause-thread
returns-clause-thread c = one_thread_is_followed
