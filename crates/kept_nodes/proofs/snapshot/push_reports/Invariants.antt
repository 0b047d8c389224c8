use Rattle.std.proofs.Common.{◌≡◌, ◌++◌, map, drop}
use Rattle.kept_nodes.specs.Seen.{report_seen}
use Rattle.kept_nodes.proofs.snapshot.push_reports.Given as goal

abbrev pub invariant-listing : goal.invariant-listing
invariant-listing l =
    l.commands ++ map (λ r. report_seen r.now) (drop l.report-index l.reports) ≡ l.initial.commands ++ map (λ r. report_seen r.now) l.reports
