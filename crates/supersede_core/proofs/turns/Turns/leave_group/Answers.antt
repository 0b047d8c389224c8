use Rattle.std.proofs.Common.{to_z, of_z, ◌≡◌, ◌∙◌, ◌≤◌, ℕ, ℤ, ap, sym, subst, rules, true, false, Some, cond}
use Rattle.std.specs.Int.{w128}
use Rattle.std.specs.Ordering.{is_eq}
use Rattle.std.proofs.lemmas.Int.{to_z-of_z}
use Rattle.std.proofs.lemmas.Map.Text.{btree_map_updates_text}
use Rattle.supersede_core.specs.Turns.{rank_order, has, claims, members_at}
use Rattle.supersede_core.proofs.GroupLaws.{put_there, leaves_in}
use Rattle.supersede_core.proofs.turns.Turns.leave_group.Goals as goal

pub leave-handover-requires : goal.leave-handover-requires
leave-handover-requires c = subst (λ o. c.args.claimed ≡ true → 1 ≤ claims o) (sym c.in-Some.ensures.value) c.requires.claimed

pub returns-clause-left : goal.returns-clause-left
returns-clause-left c =
    let own : to_z w128 (of_z w128 c.args.stamp) ≡ c.args.stamp = to_z-of_z w128 c.args.stamp c.ranges.stamp in
    leaves_in c.args.self.now (record { groups = c.get_mut.follows.lender c.leave-handover.new.self }) c.args.key.now c.args.stamp c.args.receipt c.args.claimed c.in-Some.members.now c.leave-handover.new.self c.leave-handover.result c.in-Some.ensures.value
    (btree_map_updates_text c.args.key.now c.args.self.now.groups (c.get_mut.follows.lender c.leave-handover.new.self) (Some c.leave-handover.new.self) ((c.get_mut.follows.holds c.leave-handover.new.self).3 (search rules)))
    (subst (λ z. (q : ℤ × ℕ) → has (Some c.leave-handover.new.self) q ≡ cond (is_eq (rank_order (z, c.args.receipt) q)) false (has (Some c.in-Some.members.now) q)) own c.leave-handover.ensures.ranks)
    c.leave-handover.ensures.claims c.leave-handover.ensures.turn

pub returns-clause-none : goal.returns-clause-none
returns-clause-none c = λ t q.
    ap (λ o. has o q) (put_there (members_at c.args.self.now) (members_at (record { groups = c.get_mut.follows.lender c.leave-handover.new.self })) c.args.key.now (Some c.leave-handover.new.self)
    (btree_map_updates_text c.args.key.now c.args.self.now.groups (c.get_mut.follows.lender c.leave-handover.new.self) (Some c.leave-handover.new.self) ((c.get_mut.follows.holds c.leave-handover.new.self).3 (search rules))))
    ∙ c.is_empty.ensures.none t q

pub returns-clause-unclaimed : goal.returns-clause-unclaimed
returns-clause-unclaimed c = λ t.
    ap claims (put_there (members_at c.args.self.now) (members_at (record { groups = c.get_mut.follows.lender c.leave-handover.new.self })) c.args.key.now (Some c.leave-handover.new.self)
    (btree_map_updates_text c.args.key.now c.args.self.now.groups (c.get_mut.follows.lender c.leave-handover.new.self) (Some c.leave-handover.new.self) ((c.get_mut.follows.holds c.leave-handover.new.self).3 (search rules))))
    ∙ c.is_empty.ensures.unclaimed t
