use Rattle.core_laws.proofs.StandingRecords.{both_logs_stand, a_change_stands_before_its_done, dones_are_mended, restarts_leave_the_records}
use Rattle.core_laws.proofs.standing.records_stand_between_events.Goals as goal

pub returns-clause-both : goal.returns-clause-both
returns-clause-both c = both_logs_stand

pub returns-clause-before : goal.returns-clause-before
returns-clause-before c = a_change_stands_before_its_done

pub returns-clause-mended : goal.returns-clause-mended
returns-clause-mended c = dones_are_mended

pub returns-clause-restarted : goal.returns-clause-restarted
returns-clause-restarted c = restarts_leave_the_records
