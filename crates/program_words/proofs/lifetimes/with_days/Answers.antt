use Rattle.std.proofs.Common.{Some, ap, sym, ◌∙◌}
use Rattle.spool_spec.proofs.of_plain_laws.Options.{some_same}
use Rattle.program_words.proofs.SameTtls.{same_ttls}
use Rattle.program_words.proofs.lifetimes.with_days.Goals as goal

pub returns-clause-every : goal.returns-clause-every
returns-clause-every c t node purge report count =
    let node_is = c.number_in.ensures.every t.node_days t.node.0 t.node.1 (node) in
    let purge_is = c.number_in-2.ensures.every t.purge_days t.purge.0 t.purge.1 (purge) in
    let report_is = c.number_in-3.ensures.every t.report_days t.report.0 t.report.1 (report) in
    ap Some (same_ttls _ t
    (some_same t.node_days c.in_ok-node_days.node_days (sym node_is ∙ c.in_ok-node_days.was))
    (some_same t.purge_days c.in_ok-purge_days.purge_days (sym purge_is ∙ c.in_ok-purge_days.was))
    (some_same t.report_days c.in_ok-report_days.report_days (sym report_is ∙ c.in_ok-report_days.was)) (sym count))
