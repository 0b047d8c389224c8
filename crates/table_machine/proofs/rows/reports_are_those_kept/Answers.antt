use Rattle.table_machine.proofs.TableLaws.{reports_are_sorted, reports_are_those_kept}
use Rattle.table_machine.proofs.TableRows.{nodes_have_the_newest_report}
use Rattle.table_machine.proofs.rows.reports_are_those_kept.Goals as goal

pub returns-clause-sorted : goal.returns-clause-sorted
returns-clause-sorted c = reports_are_sorted

pub returns-clause-kept : goal.returns-clause-kept
returns-clause-kept c = reports_are_those_kept

pub returns-clause-newest : goal.returns-clause-newest
returns-clause-newest c = nodes_have_the_newest_report
