use Rattle.std.proofs.Common.{◌∙◌, ap}
use Rattle.std.proofs.Math.Seq.{map-set_same}
use Rattle.kept_nodes.specs.Kept.{IsReport}
use Rattle.kept_nodes.specs.Seen.{report_seen}
use Rattle.kept_nodes.proofs.ReportLaws.{each-set}
use Rattle.kept_nodes.proofs.preparing.prepare_latest.Goals as goal

pub returns-clause-seen : goal.returns-clause-seen
returns-clause-seen c =
    map-set_same report_seen c.args.reports.now.items c.place_of_latest-at.result c.prepare.new.self c.index_mut.result.now
    (c.prepare.ensures.seen ∙ ap report_seen c.index_mut.ensures.value)

pub returns-clause-kept : goal.returns-clause-kept
returns-clause-kept c =
    each-set IsReport c.args.reports.now.items c.place_of_latest-at.result c.prepare.new.self c.prepare.ensures.kept c.requires
