use Rattle.std.proofs.Common.{◌≡◌, length, map}
use Rattle.std.specs.List.{AllByRecursion}
use Rattle.kept_nodes.specs.Kept.{IsReport}
use Rattle.kept_nodes.specs.Seen.{report_seen}
use Rattle.kept_nodes.proofs.preparing.prepare_reports.Given as goal

abbrev pub invariant-preparing : goal.invariant-preparing
invariant-preparing l = record {
  long : length l.reports.items ≡ length l.fn.reports.items;
  seen : map report_seen l.reports.items ≡ map report_seen l.fn.reports.items;
  kept : AllByRecursion IsReport l.reports.items;
}
