use Rattle.std.proofs.Common.{to_z, of_z, ◌≡◌, ℕ, ℤ, sym, subst, true, false, Some, cond, is_some}
use Rattle.std.specs.Int.{w128}
use Rattle.std.specs.Ordering.{is_eq}
use Rattle.std.specs.String.{string_bytes}
use Rattle.std.proofs.lemmas.Int.{to_z-of_z}
use Rattle.std.proofs.lemmas.Map.Text.{btree_map_updates_text}
use Rattle.supersede_core.specs.Turns.{rank_order, has, members_at}
use Rattle.supersede_core.specs.Handover.{EntersGroup}
use Rattle.supersede_core.proofs.GroupLaws.{first_in}
use Rattle.supersede_core.proofs.turns.Turns.enter_first.Goals as goal

pub returns-clause-ok : goal.returns-clause-ok
returns-clause-ok c =
    let own : to_z w128 (of_z w128 c.args.stamp) ≡ c.args.stamp = to_z-of_z w128 c.args.stamp c.ranges.stamp in
    subst (λ bs. EntersGroup (bs, c.args.stamp) c.args.receipt c.args.self.now (record { groups = c.insert.new.self }) c.in_ok-handover.handover) c.in_ok-name.ensures.ok
    (first_in c.args.self.now (record { groups = c.insert.new.self }) (string_bytes c.in_ok-name.name) c.args.stamp c.args.receipt c.new-members.result c.enter.new.self c.in_ok-handover.handover
    (subst (λ bs. is_some (members_at c.args.self.now bs) ≡ false) (sym c.in_ok-name.ensures.ok) c.requires)
    (btree_map_updates_text (string_bytes c.in_ok-name.name) c.args.self.now.groups c.insert.new.self (Some c.enter.new.self) c.in_ok-insert.ensures.updates)
    c.new-members.ensures.ranks c.new-members.ensures.claims
    (subst (λ z. (q : ℤ × ℕ) → has (Some c.enter.new.self) q ≡ cond (is_eq (rank_order (z, c.args.receipt) q)) true (has (Some c.new-members.result) q)) own c.in_ok-handover.ensures.ok)
    c.in_ok-handover.ensures.claims c.in_ok-handover.ensures.turn)
