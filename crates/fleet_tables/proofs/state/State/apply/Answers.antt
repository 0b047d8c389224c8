use Rattle.std.proofs.Common.{◌∙◌, List, sym, ap, subst}
use Rattle.std.specs.List.{AllByRecursion}
use Rattle.checkpoint_spec.specs.fleet_rows.declared.applied.Applied.{Applied}
use Rattle.checkpoint_spec.specs.history_spec.Trace.{applied_as}
use Rattle.checkpoint_spec.specs.table_machine.Steps.{apply, with_node, with_applied}
use Rattle.checkpoint_spec.specs.table_machine.Table.{Table}
use Rattle.checkpoint_spec.specs.fleet_rows.Change.{change_certname}
use Rattle.fleet_tables.specs.Groups.{joined, AreFew, AreStarts, StandInOrder}
use Rattle.fleet_tables.specs.Rooms.{Fits, RoomFor}
use Rattle.kept_nodes.specs.Owned.{IsOwn}
use Rattle.fleet_tables.proofs.OwnLaws.{all_applied_own}
use Rattle.checkpoint_spec.proofs.of_history_laws.Moments.{has_stamp_moment}
use Rattle.fleet_tables.proofs.NodeOrder.{applied_in_order}
use Rattle.fleet_tables.proofs.RowBounds.{applied_few}
use Rattle.fleet_tables.proofs.StartLaws.{starts_cut}
use Rattle.kept_nodes.specs.declared.counts.Counts.{Counts}
use Rattle.fleet_tables.proofs.state.State.apply.Goals as goal

pub apply_change-at-requires-clause-stamp : goal.apply_change-at-requires-clause-stamp
apply_change-at-requires-clause-stamp c = has_stamp_moment c.args.change c.requires.lawful

pub apply_change-at-requires-clause-few : goal.apply_change-at-requires-clause-few
apply_change-at-requires-clause-few c =
    let x : Applied = applied_as c.args.receipt c.args.received c.args.change in
    let fits : Fits c.args.self.now c.args.change = subst (λ (r : RoomFor). Fits r.table r.change) (c.room.view_is ∙ c.requires.room) c.room.invariant.2 in
    subst (λ nodes. AreFew (with_node (change_certname c.args.change) (with_applied c.self.inside.ttls c.self.inside.retention x) nodes)) (sym c.begin.ensures.same)
    (subst (λ (t : Table). AreFew (apply x t).nodes) (sym c.self.view_is) (applied_few x c.args.self.now fits))

pub invariant_of-self : goal.invariant_of-self
invariant_of-self c =
    let x : Applied = applied_as c.args.receipt c.args.received c.args.change in
    let step = with_node (change_certname c.args.change) (with_applied c.self.inside.ttls c.self.inside.retention x) in (
      c.self.invariant.0,
      c.self.invariant.1,
      c.apply_change-at.ensures.filled,
      subst StandInOrder (sym (c.apply_change-at.ensures.nodes ∙ ap step c.begin.ensures.same)) (applied_in_order c.self.inside.ttls c.self.inside.retention x (joined c.self.inside.groups.items) c.self.invariant.3),
      c.apply_change-at.ensures.rows,
      c.apply_change-at.ensures.within,
      subst (AllByRecursion IsOwn) (sym (c.apply_change-at.ensures.nodes ∙ ap step c.begin.ensures.same)) (all_applied_own c.self.inside.ttls c.self.inside.retention x (joined c.self.inside.groups.items) c.self.invariant.6),
      subst (λ (starts : List Counts). AreStarts starts c.apply_change-at.new.groups.items) (sym c.truncate.ensures.items)
          (starts_cut c.self.inside.starts.items c.begin.new.groups.items c.apply_change-at.new.groups.items c.apply_change-at.result.0 c.apply_change-at.ensures.before (c.begin.ensures.starts c.self.inside.starts.items c.self.invariant.7)),
    )
