use Rattle.std.proofs.Common.{◌≡◌, ◌∙◌, ◌++◌, ◌<◌, ◌≤◌, length, map, OnOk, false, refl, ap, sym, subst, arith}
use Rattle.fleet_rows.specs.json_tree.Arranged.{pair_by}
use Rattle.fleet_rows.specs.json_tree.InOrder.{in_key_order}
use Rattle.fleet_rows.specs.json_tree.Tree.{json_of, jsons}
use Rattle.fleet_rows.specs.text_spec.Json.{array, object, items_of, members_of, levels, items_levels, members_levels}
use Rattle.fleet_rows.specs.text_spec.Compact.{arranged_items, arranged_members}
use Rattle.fact_paths.specs.Leaves.{is_leaf, leaves, item_leaves, member_leaves}
use Rattle.fact_paths.specs.Steps.{steps_of}
use Rattle.fact_paths.specs.Under.{rows_under}
use Rattle.fact_paths.proofs.WalkLaws.{leaves_of_items, leaves_of_members, levels-item, levels_in_order, item_passed, member_passed, placed_in_order, popped}
use Rattle.fact_paths.proofs.walk.+walk.Goals as goal

pub walk-returns-in-List-clause-rows : goal.walk-returns-in-List-clause-rows
walk-returns-in-List-clause-rows t c =
    let items = c.in-List.items in
    let more : is_leaf (array (items_of items)) ≡ false = ap (λ j. is_leaf (json_of j)) (sym c.in-List.is) ∙ sym c.is_leaf.ensures ∙ c.if-is_leaf.false in
    let same : item_leaves 0 (arranged_items (items_of (jsons c.as_slice-in-List.result.now))) ≡ leaves (json_of c.args.value.now) =
    ap (λ js. item_leaves 0 (arranged_items (items_of js))) c.as_slice-in-List.ensures.items
    ∙ sym (leaves_of_items (items_of items) more)
    ∙ ap (λ j. leaves (json_of j)) (sym c.in-List.is) in
    subst (λ ls. OnOk c.walk_items.result (c.walk_items.new.rows ≡ c.args.rows.now ++ rows_under c.args.fact (steps_of c.args.path.now.items) ls)) same c.walk_items.ensures.rows

pub walk-returns-in-Map-clause-rows : goal.walk-returns-in-Map-clause-rows
walk-returns-in-Map-clause-rows t c =
    let members = c.in-Map.members in
    let more : is_leaf (object (members_of members)) ≡ false = ap (λ j. is_leaf (json_of j)) (sym c.in-Map.is) ∙ sym c.is_leaf.ensures ∙ c.if-is_leaf.false in
    let same : member_leaves (arranged_members (members_of members)) ≡ leaves (json_of c.args.value.now) =
    sym (leaves_of_members (members_of members) more) ∙ ap (λ j. leaves (json_of j)) (sym c.in-Map.is) in
    subst (λ ls. OnOk c.walk_members.result (c.walk_members.new.rows ≡ c.args.rows.now ++ rows_under c.args.fact (steps_of c.args.path.now.items) ls)) same c.walk_members.ensures.rows

pub walk_items-walk-requires : goal.walk_items-walk-requires
walk_items-walk-requires t c =
    let list = c.args.list.now in
    let item = c.index-list-index.result in
    let within : c.loop-index.index < length list = omega (arith, c.loop-index-test.true, c.loop-index.auto.index-end) in
    let deep : levels (json_of item) ≤ items_levels (items_of (jsons list)) =
    subst (λ j. levels (json_of j) ≤ items_levels (items_of (jsons list))) (sym c.index-list-index.is) (levels-item list c.loop-index.index item within) in
    omega (arith, deep, c.decreases)

pub walk_items-loop-index-preserved : goal.walk_items-loop-index-preserved
walk_items-loop-index-preserved t c =
    let list = c.args.list.now in
    let item = c.index-list-index.result in
    let held = c.loop-index.path.items in
    let start = c.args.path.now.items in
    let pushed = c.push.new.self.items in
    let inv = c.loop-index.invariant in
    let within : c.loop-index.index < length list = omega (arith, c.loop-index-test.true, c.loop-index.auto.index-end) in
    record {
      rows =
          item_passed c.args.fact c.loop-index.rows c.walk.new.rows held start pushed list c.loop-index.index item item within c.index-list-index.is inv.path c.in_ok-push.ensures.items c.in_ok-walk.ensures.rows
          ∙ inv.rows;
      path = popped held start pushed c.walk.new.path.items c.pop.new.self.items _ c.walk.new.path.len inv.path c.in_ok-push.ensures.items c.in_ok-walk.ensures.path c.walk.new.path.ok.0 c.pop.ensures.rest;
    }

pub walk_members-loop-member-init : goal.walk_members-loop-member-init
walk_members-loop-member-init t c =
    let sorted : members_of (map (pair_by (λ j. j)) c.as_slice-member-items.result.now) ≡ in_key_order c.args.members.now =
    ap (λ bs. members_of (map (pair_by (λ j. j)) bs)) c.as_slice-member-items.ensures.value ∙ c.in_ok-sorted.ensures in
    record {
      rows =
          ap (λ ms. c.args.rows.now ++ rows_under c.args.fact (steps_of c.args.path.now.items) (member_leaves ms))
          (placed_in_order c.as_slice-member-items.result.now c.args.members.now sorted);
      path = refl;
    }

pub walk_members-walk-requires : goal.walk_members-walk-requires
walk_members-walk-requires t c =
    let list = c.as_slice-member-items.result.now in
    let member = c.member-item.result in
    let most = members_levels (members_of c.args.members.now) in
    let sorted : members_of (map (pair_by (λ j. j)) list) ≡ in_key_order c.args.members.now =
    ap (λ bs. members_of (map (pair_by (λ j. j)) bs)) c.as_slice-member-items.ensures.value ∙ c.in_ok-sorted.ensures in
    let within : c.loop-member.member-index < length list = omega (arith, c.loop-member-test.true, c.loop-member.auto.member-index-end) in
    let deep : levels (json_of member.now.1) ≤ most =
    subst (λ b. levels (json_of b.now.1) ≤ most) (sym c.member-item.is) (levels_in_order list c.args.members.now c.loop-member.member-index member sorted within) in
    omega (arith, deep, c.decreases)

pub walk_members-loop-member-preserved : goal.walk_members-loop-member-preserved
walk_members-loop-member-preserved t c =
    let list = c.as_slice-member-items.result.now in
    let member = c.member-item.result in
    let held = c.loop-member.path.items in
    let start = c.args.path.now.items in
    let pushed = c.push.new.self.items in
    let inv = c.loop-member.invariant in
    let within : c.loop-member.member-index < length list = omega (arith, c.loop-member-test.true, c.loop-member.auto.member-index-end) in
    record {
      rows =
          member_passed c.args.fact c.loop-member.rows c.walk.new.rows held start pushed list c.loop-member.member-index member member _ within c.member-item.is inv.path c.in_ok-push.ensures.items refl c.in_ok-walk.ensures.rows
          ∙ inv.rows;
      path = popped held start pushed c.walk.new.path.items c.pop.new.self.items _ c.walk.new.path.len inv.path c.in_ok-push.ensures.items c.in_ok-walk.ensures.path c.walk.new.path.ok.0 c.pop.ensures.rest;
    }
