use Rattle.std.proofs.Common.{◌∙◌, ap, sym, subst}
use Rattle.std.specs.List.{AllByRecursion}
use Rattle.checkpoint_spec.specs.table_machine.Steps.{with_retained}
use Rattle.fleet_tables.specs.Groups.{joined, IsFilled}
use Rattle.fleet_tables.proofs.JoinedNodes.{map_joined, map_filled}
use Rattle.fleet_tables.proofs.groups.retain.Goals as goal

pub returns-clause-nodes : goal.returns-clause-nodes
returns-clause-nodes c = ap joined c.retain_all.ensures ∙ map_joined (with_retained c.args.ttls.now c.args.retention.now) c.args.groups.now.items

pub returns-clause-filled : goal.returns-clause-filled
returns-clause-filled c = subst (AllByRecursion IsFilled) (sym c.retain_all.ensures) (map_filled (with_retained c.args.ttls.now c.args.retention.now) c.args.groups.now.items c.requires.filled)
