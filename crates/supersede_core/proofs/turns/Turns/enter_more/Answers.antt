use Rattle.std.proofs.Common.{to_z, of_z, ◌≡◌, ℕ, ℤ, subst, rules, true, Some, cond}
use Rattle.std.specs.Int.{w128}
use Rattle.std.specs.Ordering.{is_eq}
use Rattle.std.specs.Result.{OnOk}
use Rattle.std.proofs.lemmas.Int.{to_z-of_z}
use Rattle.std.proofs.lemmas.Map.Text.{btree_map_updates_text}
use Rattle.supersede_core.specs.Turns.{rank_order, has, IsHandover}
use Rattle.supersede_core.specs.Handover.{EntersGroup}
use Rattle.supersede_core.proofs.GroupLaws.{enters_in, stays_in, if_ok, on_err}
use Rattle.supersede_core.proofs.turns.Turns.enter_more.Goals as goal

pub returns-clause-ok : goal.returns-clause-ok
returns-clause-ok c =
    let own : to_z w128 (of_z w128 c.args.stamp) ≡ c.args.stamp = to_z-of_z w128 c.args.stamp c.ranges.stamp in
    if_ok c.enter.result (IsHandover (Some c.in-Some.members.now) (Some c.enter.new.self)) (EntersGroup (c.args.key.now, c.args.stamp) c.args.receipt c.args.self.now (record { groups = c.get_mut.follows.lender c.enter.new.self }))
    (subst (λ z. OnOk c.enter.result ((q : ℤ × ℕ) → has (Some c.enter.new.self) q ≡ cond (is_eq (rank_order (z, c.args.receipt) q)) true (has (Some c.in-Some.members.now) q))) own c.enter.ensures.ok) c.enter.ensures.turn
    (λ h ranks turn. enters_in c.args.self.now (record { groups = c.get_mut.follows.lender c.enter.new.self }) c.args.key.now c.args.stamp c.args.receipt c.in-Some.members.now c.enter.new.self h c.in-Some.ensures.value
    (btree_map_updates_text c.args.key.now c.args.self.now.groups (c.get_mut.follows.lender c.enter.new.self) (Some c.enter.new.self) ((c.get_mut.follows.holds c.enter.new.self).3 (search rules)))
    ranks c.enter.ensures.claims turn)

pub returns-clause-err : goal.returns-clause-err
returns-clause-err c =
    on_err c.enter.result c.enter.ensures.err (λ ranks. stays_in c.args.self.now (record { groups = c.get_mut.follows.lender c.enter.new.self }) c.args.key.now c.in-Some.members.now c.enter.new.self c.in-Some.ensures.value
    (btree_map_updates_text c.args.key.now c.args.self.now.groups (c.get_mut.follows.lender c.enter.new.self) (Some c.enter.new.self) ((c.get_mut.follows.holds c.enter.new.self).3 (search rules)))
    ranks c.enter.ensures.claims)
