use Rattle.std.proofs.Common.{◌≡◌, ◌≤◌, length, map, drop}
use Rattle.dump_writer.specs.dump_spec.history_spec.Node.{greatest_activity}
use Rattle.kept_nodes.specs.Seen.{report_seen}
use Rattle.fleet_dump.proofs.newest.greatest_of.Given as goal

abbrev pub invariant-reports : goal.invariant-reports
invariant-reports l = record {
  within : l.at ≤ length l.reports;
  greatest : l.greatest ≡ greatest_activity (map report_seen (drop l.at l.reports));
}

abbrev pub decreases-reports : goal.decreases-reports
decreases-reports l = l.at
