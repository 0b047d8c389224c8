use Rattle.std.proofs.Common.{◌≡◌, List, ap, rules}
use Rattle.std.specs.List.{filter}
use Rattle.std.proofs.lemmas.Fn.{filter_same}
use Rattle.checkpoint_spec.specs.fleet_rows.declared.applied.Applied.{Applied}
use Rattle.kept_nodes.specs.Seen.{node_seen}
use Rattle.kept_nodes.proofs.ReportLaws.{stays, retained_seen, retained_each, retained_in_order}
use Rattle.kept_nodes.proofs.node.Node.retain.Goals as goal

-- the reports that are left are those that the closure lets stay
pub returns-clause-seen : goal.returns-clause-seen
returns-clause-seen c =
    let left : c.retain.new.self.items ≡ filter (stays c.args.ttls.now c.args.retention.now) c.args.self.now.reports.items = filter_same _ _ _ (λ x b f called. search rules) _ _ c.retain.ensures.filtered in
    ap (λ (reports : List Applied). record (node_seen c.args.self.now) { reports = reports }) (retained_seen c.args.ttls.now c.args.retention.now c.args.self.now.reports.items c.retain.new.self.items left)

pub returns-clause-kept : goal.returns-clause-kept
returns-clause-kept c =
    let left : c.retain.new.self.items ≡ filter (stays c.args.ttls.now c.args.retention.now) c.args.self.now.reports.items = filter_same _ _ _ (λ x b f called. search rules) _ _ c.retain.ensures.filtered in
    let kept = c.requires.kept in (
      kept.0,
      kept.1,
      kept.2,
      retained_each c.args.ttls.now c.args.retention.now c.args.self.now.reports.items c.retain.new.self.items left kept.3,
      retained_in_order c.args.ttls.now c.args.retention.now c.args.self.now.reports.items c.retain.new.self.items left kept.4,
    )
