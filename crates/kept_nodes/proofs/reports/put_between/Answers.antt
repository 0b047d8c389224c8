use Rattle.std.proofs.Common.{◌∙◌, map, sym, ap, subst}
use Rattle.std.specs.List.{AllByRecursion}
use Rattle.std.specs.List.Sorted.{IsStrictlySortedBy}
use Rattle.checkpoint_spec.specs.table_spec.Sorted.{report_cmp}
use Rattle.kept_nodes.specs.Kept.{IsReport}
use Rattle.kept_nodes.specs.Seen.{report_seen}
use Rattle.kept_nodes.proofs.ReportLaws.{put-inserted, put_report-sorted, each-insert}
use Rattle.kept_nodes.proofs.reports.put_between.Goals as goal

pub returns-clause-seen : goal.returns-clause-seen
returns-clause-seen c =
    ap (map report_seen) c.insert_in_room.ensures ∙ put-inserted c.args.report c.args.reports.now.items c.requires.in_order c.args.at c.requires.place

pub returns-clause-each : goal.returns-clause-each
returns-clause-each c =
    subst (AllByRecursion IsReport) (sym c.insert_in_room.ensures) (each-insert IsReport c.args.reports.now.items c.args.at c.args.report c.requires.report c.requires.each)

pub returns-clause-in_order : goal.returns-clause-in_order
returns-clause-in_order c =
    let seen = ap (map report_seen) c.insert_in_room.ensures ∙ put-inserted c.args.report c.args.reports.now.items c.requires.in_order c.args.at c.requires.place in
    subst (IsStrictlySortedBy report_cmp) (sym seen) (put_report-sorted (report_seen c.args.report) (map report_seen c.args.reports.now.items) c.requires.in_order)
