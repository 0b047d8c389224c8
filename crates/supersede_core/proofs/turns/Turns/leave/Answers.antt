use Rattle.std.proofs.Common.{to_z, of_z, ◌≡◌, subst, None}
use Rattle.std.specs.Int.{w128}
use Rattle.std.proofs.lemmas.Int.{to_z-of_z}
use Rattle.std.proofs.lemmas.Map.Text.{btree_map_updates_text}
use Rattle.supersede_core.specs.Handover.{LeavesGroup}
use Rattle.supersede_core.proofs.GroupLaws.{group_goes}
use Rattle.supersede_core.proofs.turns.Turns.leave.Goals as goal

pub returns-then-gone : goal.returns-then-gone
returns-then-gone c =
    let own : to_z w128 (of_z w128 c.args.stamp) ≡ c.args.stamp = to_z-of_z w128 c.args.stamp c.ranges.stamp in
    group_goes c.args.self.now c.leave_group-gone.new.self (record { groups = c.remove.new.self }) c.args.key.now c.args.stamp c.args.receipt c.args.claimed c.leave_group-gone.result.0
    (subst (λ z. LeavesGroup (c.args.key.now, z) c.args.receipt c.args.claimed c.args.self.now c.leave_group-gone.new.self c.leave_group-gone.result.0) own c.leave_group-gone.ensures.left)
    (btree_map_updates_text c.args.key.now c.leave_group-gone.new.self.groups c.remove.new.self None c.remove.ensures.updates)
    (c.leave_group-gone.ensures.none c.if-gone.true) (c.leave_group-gone.ensures.unclaimed c.if-gone.true)
