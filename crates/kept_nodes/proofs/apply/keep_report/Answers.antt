use Rattle.std.proofs.Common.{map, sym, ap, subst, ◌∙◌, arith}
use Rattle.checkpoint_spec.specs.fleet_rows.declared.applied.Applied.{Applied}
use Rattle.checkpoint_spec.specs.table_machine.Steps.{put_report, limited}
use Rattle.kept_nodes.specs.ReportPlaces.{IsReportPlace}
use Rattle.kept_nodes.specs.Seen.{report_seen}
use Rattle.kept_nodes.proofs.ReportLaws.{length_seen}
use Rattle.kept_nodes.proofs.ComputedLaws.{place_in_room, list_in_room}
use Rattle.kept_nodes.proofs.apply.keep_report.Goals as goal

pub add_report-requires-clause-place : goal.add_report-requires-clause-place
add_report-requires-clause-place c =
    let reports = map report_seen c.args.reports.now.items in
    subst (λ (x : Applied). IsReportPlace x reports c.args.shown.place) (sym c.keeping-report.ensures.seen)
    (place_in_room c.args.shown c.args.change reports c.requires.shown c.args.receipt c.args.received)

pub add_report-requires-clause-empty : goal.add_report-requires-clause-empty
add_report-requires-clause-empty c = (list_in_room c.args.shown c.args.change (map report_seen c.args.reports.now.items) c.requires.shown).0

pub add_report-requires-clause-room : goal.add_report-requires-clause-room
add_report-requires-clause-room c =
    let room = list_in_room c.args.shown c.args.change (map report_seen c.args.reports.now.items) c.requires.shown in
    omega (arith, length_seen c.args.reports.now.items, room.1)

pub returns-clause-seen : goal.returns-clause-seen
returns-clause-seen c =
    c.add_report.ensures.seen ∙ ap (λ (x : Applied). limited c.args.limit.now (put_report x (map report_seen c.args.reports.now.items))) c.keeping-report.ensures.seen
