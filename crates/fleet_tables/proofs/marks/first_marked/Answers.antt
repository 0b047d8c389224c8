use Rattle.std.proofs.Common.{sym, subst}
use Rattle.checkpoint_spec.specs.table_machine.Steps.{with_node}
use Rattle.kept_nodes.specs.Seen.{with_activity}
use Rattle.fleet_tables.specs.Groups.{AreFew}
use Rattle.fleet_tables.proofs.MarkLaws.{first_few}
use Rattle.fleet_tables.proofs.marks.first_marked.Goals as goal

pub mark-requires-clause-few : goal.mark-requires-clause-few
mark-requires-clause-few c =
    subst (λ nodes. AreFew (with_node c.args.certname.now (with_activity c.args.active) nodes)) (sym c.new-group.ensures) (first_few c.args.certname.now c.args.active)
