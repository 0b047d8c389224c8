use Rattle.std.proofs.Common.{◌∙◌, ap}
use Rattle.std.proofs.Math.Seq.{map-set_same}
use Rattle.std.proofs.lemmas.List.{length-set}
use Rattle.kept_nodes.specs.Kept.{IsReport}
use Rattle.kept_nodes.specs.Seen.{report_seen}
use Rattle.kept_nodes.proofs.ReportLaws.{each-set}
use Rattle.kept_nodes.proofs.preparing.prepare_reports.Goals as goal

pub returns-in_err-prepare-clause-seen : goal.returns-in_err-prepare-clause-seen
returns-in_err-prepare-clause-seen c =
    map-set_same report_seen c.preparing.reports.items c.preparing.at c.prepare.new.self c.index_mut.result.now (c.prepare.ensures.seen ∙ ap report_seen c.index_mut.ensures.value)
    ∙ c.preparing.invariant.seen

pub preparing-preserved : goal.preparing-preserved
preparing-preserved c =
    let reports = c.preparing.reports.items in
    let at = c.preparing.at in
    let new = c.prepare.new.self in
    record {
      long = length-set reports at new ∙ c.preparing.invariant.long;
      seen = map-set_same report_seen reports at new c.index_mut.result.now (c.prepare.ensures.seen ∙ ap report_seen c.index_mut.ensures.value) ∙ c.preparing.invariant.seen;
      kept = each-set IsReport reports at new c.prepare.ensures.kept c.preparing.invariant.kept;
    }
