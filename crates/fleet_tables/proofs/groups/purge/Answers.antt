use Rattle.std.proofs.Common.{◌≡◌, ◌∙◌, not, ap, sym, subst, rules}
use Rattle.std.specs.List.{filter, AllByRecursion}
use Rattle.std.proofs.lemmas.Fn.{filter_same}
use Rattle.checkpoint_spec.specs.table_machine.Node.{node_purged}
use Rattle.checkpoint_spec.specs.table_machine.Table.{Node}
use Rattle.fleet_tables.specs.Groups.{joined, IsFilled}
use Rattle.fleet_tables.proofs.JoinedNodes.{has_nodes, filled_joined, all_filled, filter_joined}
use Rattle.fleet_tables.proofs.groups.purge.Goals as goal

pub returns-clause-nodes : goal.returns-clause-nodes
returns-clause-nodes c =
    let left : c.retain.new.self.items ≡ filter has_nodes c.purge_all.new.groups.items = filter_same _ _ _ (λ x b f called. search rules) _ _ c.retain.ensures.filtered in
    ap joined left ∙ filled_joined c.purge_all.new.groups.items ∙ ap joined c.purge_all.ensures
    ∙ filter_joined (λ (node : Node). not (node_purged c.args.ttls.now c.args.m c.args.expiry.now node)) c.args.groups.now.items

pub returns-clause-filled : goal.returns-clause-filled
returns-clause-filled c =
    let left : c.retain.new.self.items ≡ filter has_nodes c.purge_all.new.groups.items = filter_same _ _ _ (λ x b f called. search rules) _ _ c.retain.ensures.filtered in
    subst (AllByRecursion IsFilled) (sym left) (all_filled c.purge_all.new.groups.items)
