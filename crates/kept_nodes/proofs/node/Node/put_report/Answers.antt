use Rattle.std.proofs.Common.{map, sym, subst}
use Rattle.checkpoint_spec.specs.fleet_rows.declared.change.Change.TheVariants as changes
use Rattle.kept_nodes.specs.Computed.{IsShownFor}
use Rattle.kept_nodes.specs.Seen.{report_seen}
use Rattle.kept_nodes.specs.declared.node.Node.{Node}
use Rattle.kept_nodes.specs.declared.computed.Derived.TheVariants as kinds
use Rattle.kept_nodes.proofs.node.Node.put_report.Goals as goal

-- waking the node leaves its reports
pub keep_report-requires-clause-shown : goal.keep_report-requires-clause-shown
keep_report-requires-clause-shown c =
    subst (λ (n : Node). IsShownFor (kinds.Report c.args.shown) (changes.Report c.args.change) (map report_seen n.reports.items)) (sym c.wake.ensures.woken) c.requires.shown
