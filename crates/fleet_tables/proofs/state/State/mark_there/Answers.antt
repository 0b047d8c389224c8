use Rattle.std.proofs.Common.{◌+◌, ◌≤◌, List, sym, subst, rules}
use Rattle.kept_nodes.specs.Counted.{limit}
use Rattle.fleet_tables.specs.Groups.{AreKept}
use Rattle.kept_nodes.specs.declared.counts.Counts.{Counts}
use Rattle.fleet_tables.proofs.JoinedNodes.{Groups}
use Rattle.fleet_tables.proofs.MarkLaws.{marked_kept, few_with_mark}
use Rattle.fleet_tables.proofs.state.State.mark_there.Goals as goal

pub mark_all-requires-clause-few : goal.mark_all-requires-clause-few
mark_all-requires-clause-few c =
    let inside = c.self.inside in
    let mark = c.args.mark.now in
    let room = subst (λ (one : Counts). inside.total.nodes + one.nodes ≤ limit) c.one_node.ensures (c.has_room.ensures.0 (search rules)).6 in
    few_with_mark inside.expiry inside.retention inside.groups.items inside.total inside.starts.items c.self.invariant mark.certname mark.active room

-- at want of memory the groups are as they were
pub invariant_of-self : goal.invariant_of-self
invariant_of-self c =
    let inside = c.self.inside in
    subst (λ (groups : Groups). AreKept inside.expiry inside.retention groups inside.total inside.starts.items) (sym c.in_err-total.ensures.same) c.self.invariant

pub invariant_of-self-2 : goal.invariant_of-self-2
invariant_of-self-2 c =
    let inside = c.self.inside in
    let mark = c.args.mark.now in
    let done = c.in_ok-total.ensures in
    subst (λ (starts : List Counts). AreKept inside.expiry inside.retention c.mark_all.new.groups.items c.in_ok-total.total starts) (sym c.clear.ensures.items)
    (marked_kept inside.expiry inside.retention inside.groups.items inside.total inside.starts.items c.self.invariant mark.certname mark.active c.mark_all.new.groups.items c.in_ok-total.total done.nodes done.filled done.rows done.within)
