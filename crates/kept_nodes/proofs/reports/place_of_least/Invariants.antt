use Rattle.std.proofs.Common.{◌<◌, length}
use Rattle.kept_nodes.specs.declared.kept.Report.{Report}
use Rattle.kept_nodes.proofs.LeastReports.{IsLeast}
use Rattle.kept_nodes.proofs.reports.place_of_least.Given as goal

abbrev pub invariant-reports : goal.invariant-reports
invariant-reports l = (l.least < length l.reports) × ((x : Report) × IsLeast l.reports l.at l.least x)
