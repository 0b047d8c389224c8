use Rattle.std.proofs.Common.{◌∙◌, subst}
use Rattle.fleet_tables.specs.Groups.{AreCountsOf}
use Rattle.kept_nodes.specs.Places.{nodes_in}
use Rattle.fleet_tables.proofs.RowBounds.{nodes_counted}
use Rattle.fleet_tables.proofs.group.Group.count.Goals as goal

pub returns : goal.returns
returns c = λ ttls expiry.
    let counted = subst (AreCountsOf c.self.inside.total) c.self.view_is (nodes_counted (nodes_in c.self.inside.nodes.items) c.self.inside.total c.self.invariant.0 c.self.invariant.3) in
    c.of.ensures ∙ counted c.args.entity ttls expiry
