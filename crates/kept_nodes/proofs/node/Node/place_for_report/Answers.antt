use Rattle.std.proofs.Common.{List, map, IfOk, subst}
use Rattle.kept_nodes.specs.ReportPlaces.{IsPlaceAmong}
use Rattle.kept_nodes.specs.Seen.{report_seen}
use Rattle.kept_nodes.specs.declared.kept.Report.{Report}
use Rattle.kept_nodes.proofs.node.Node.place_for_report.Goals as goal

pub returns : goal.returns
returns c = subst (λ (rs : List Report). IfOk c.place_of.result (IsPlaceAmong c.args.report.now (map report_seen rs))) c.as_slice.ensures.value c.place_of.ensures
