use Rattle.std.proofs.Common.{◌≡◌, map, drop}
use Rattle.std.specs.List.{Contains}
use Rattle.std.specs.Option.{option_map, IfSome}
use Rattle.checkpoint_spec.specs.fleet_rows.declared.command.Kind.TheVariants as kind
use Rattle.checkpoint_spec.specs.history_spec.Node.{newest}
use Rattle.kept_nodes.specs.Seen.{report_seen}
use Rattle.kept_nodes.proofs.ReportLaws.{chosen}
use Rattle.kept_nodes.proofs.reports.latest.Given as goal

abbrev pub invariant-reports : goal.invariant-reports
invariant-reports l =
    (chosen (option_map (λ r. report_seen r.now) l.latest) (newest kind.Report (map report_seen (drop l.report-index l.reports))) ≡ newest kind.Report (map report_seen l.reports))
    × IfSome l.latest (λ r. Contains l.reports r.now)
