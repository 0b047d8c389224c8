use Rattle.table_machine.proofs.SweepSteps.{sweeps_are_followed, purges_are_followed, retentions_are_followed}
use Rattle.table_machine.proofs.sweeps.a_sweep_is_followed.Goals as goal

pub returns-clause-whole : goal.returns-clause-whole
returns-clause-whole c = sweeps_are_followed

pub returns-clause-purge : goal.returns-clause-purge
returns-clause-purge c = purges_are_followed

pub returns-clause-reports : goal.returns-clause-reports
returns-clause-reports c = retentions_are_followed
