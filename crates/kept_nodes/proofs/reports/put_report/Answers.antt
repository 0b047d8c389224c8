use Rattle.std.proofs.Common.{map, subst, arith, Ok, Err}
use Rattle.kept_nodes.specs.Seen.{report_seen}
use Rattle.kept_nodes.specs.ReportPlaces.{IsReportPlace}
use Rattle.kept_nodes.proofs.ReportLaws.{length_seen}
use Rattle.kept_nodes.proofs.reports.put_report.Goals as goal

pub put_over-requires-clause-place : goal.put_over-requires-clause-place
put_over-requires-clause-place c = subst (IsReportPlace (report_seen c.args.report) (map report_seen c.args.reports.now.items)) c.in-Ok.is c.requires.place

pub put_over-requires-clause-within : goal.put_over-requires-clause-within
put_over-requires-clause-within c =
    let place : IsReportPlace (report_seen c.args.report) (map report_seen c.args.reports.now.items) (Ok c.in-Ok.at) =
    subst (IsReportPlace (report_seen c.args.report) (map report_seen c.args.reports.now.items)) c.in-Ok.is c.requires.place in
    omega (arith, length_seen c.args.reports.now.items, place.0)

pub put_between-requires-clause-place : goal.put_between-requires-clause-place
put_between-requires-clause-place c = subst (IsReportPlace (report_seen c.args.report) (map report_seen c.args.reports.now.items)) c.in-Err.is c.requires.place

pub put_between-requires-clause-within : goal.put_between-requires-clause-within
put_between-requires-clause-within c =
    let place : IsReportPlace (report_seen c.args.report) (map report_seen c.args.reports.now.items) (Err c.in-Err.at) =
    subst (IsReportPlace (report_seen c.args.report) (map report_seen c.args.reports.now.items)) c.in-Err.is c.requires.place in
    omega (arith, length_seen c.args.reports.now.items, place.0)
