use Rattle.std.proofs.Common.{arith}
use Rattle.kept_nodes.specs.Seen.{report_seen}
use Rattle.kept_nodes.proofs.ReportLaws.{latest-first, latest-more, of_greater_rank-seen, of_greater_rank-among, read-among}
use Rattle.kept_nodes.proofs.reports.latest.Goals as goal
use Rattle.kept_nodes.proofs.reports.latest.Goals.{in-Some, in-None}

pub reports-preserved : goal.reports-preserved
reports-preserved c =
    let report = c.report-item.result in
    let reports = c.args.reports.now in
    let read = c.report-item.is in
    elim c.match-latest.branch [
      | in-Some w ↦
          let so_far = rw w.in-Some.is at c.reports.invariant in
          let other = w.in-Some.other.now in
          rw (w.latest-is, w.of_greater_rank.ensures) (
            rw (of_greater_rank-seen other report) (latest-more report reports c.reports.report-index _ (omega arith) read (report_seen other) so_far.0),
            of_greater_rank-among other report reports so_far.1 (read-among report reports c.reports.report-index (omega arith) read),
          )
      | in-None w ↦
          let so_far = rw w.in-None.is at c.reports.invariant in
          rw w.latest-is (
            latest-first report reports c.reports.report-index _ (omega arith) read so_far.0,
            read-among report reports c.reports.report-index (omega arith) read,
          )
    ]
