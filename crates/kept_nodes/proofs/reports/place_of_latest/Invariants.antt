use Rattle.std.proofs.Common.{◌<◌, length}
use Rattle.kept_nodes.proofs.reports.place_of_latest.Given as goal

abbrev pub invariant-reports : goal.invariant-reports
invariant-reports l = l.latest < length l.reports
