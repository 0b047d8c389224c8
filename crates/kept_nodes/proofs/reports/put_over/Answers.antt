use Rattle.std.proofs.Common.{◌≡◌, map, sym, subst, false, true}
use Rattle.std.specs.List.Sorted.{IsStrictlySortedBy}
use Rattle.checkpoint_spec.specs.table_spec.Sorted.{report_cmp}
use Rattle.checkpoint_spec.specs.history_spec.Report.{is_below}
use Rattle.kept_nodes.specs.Seen.{report_seen}
use Rattle.kept_nodes.proofs.ReportLaws.{put-replaced, put-left, put_report-sorted}
use Rattle.kept_nodes.proofs.reports.put_over.Goals as goal

-- that one has no greater rank
pub returns-then-not-is_below-clause-seen : goal.returns-then-not-is_below-clause-seen
returns-then-not-is_below-clause-seen c =
    let first : is_below (report_seen c.args.report) (report_seen c.index.result.now) ≡ false = cc in
    put-replaced c.args.report c.args.reports.now.items c.requires.in_order c.args.at c.index.result.now c.requires.place c.index.ensures first

pub returns-then-not-is_below-clause-in_order : goal.returns-then-not-is_below-clause-in_order
returns-then-not-is_below-clause-in_order c =
    let first : is_below (report_seen c.args.report) (report_seen c.index.result.now) ≡ false = cc in
    let seen = put-replaced c.args.report c.args.reports.now.items c.requires.in_order c.args.at c.index.result.now c.requires.place c.index.ensures first in
    subst (IsStrictlySortedBy report_cmp) (sym seen) (put_report-sorted (report_seen c.args.report) (map report_seen c.args.reports.now.items) c.requires.in_order)

-- or it has
pub returns-else-not-is_below-clause-seen : goal.returns-else-not-is_below-clause-seen
returns-else-not-is_below-clause-seen c =
    let second : is_below (report_seen c.args.report) (report_seen c.index.result.now) ≡ true = cc in
    put-left c.args.report c.args.reports.now.items c.requires.in_order c.args.at c.index.result.now c.requires.place c.index.ensures second
