use Rattle.std.proofs.Common.{◌≡◌, ◌∙◌, ◌∷◌, [], ℕ, ◌+◌, ◌-◌, ◌<◌, ◌≤◌, length, get_or, drop, ap, sym, subst, arith}
use Rattle.std.specs.Io.{StartsWith}
use Rattle.std.proofs.lemmas.List.{get_or-drop, length-drop}
use Rattle.std.proofs.lemmas.Grind.{common_steps}
use Rattle.std.proofs.Transfers.{starts_with_trans, starts_with_of_append}
use Rattle.text_spec.specs.Json.{levels, items_of, members_of, items_levels, members_levels}
use Rattle.json_tree.specs.Tree.{json_of, jsons, pairs}
use Rattle.json_tree.proofs.LevelLaws.{levels-item}
use Rattle.json_tree.proofs.canonical_text.+put.Goals as goal

pub put_items-put-requires : goal.put_items-put-requires
put_items-put-requires t c =
    let list = c.args.list.now in
    let deep : levels (json_of c.item-item.result) ≤ items_levels (items_of (jsons list)) = subst (λ j. levels (json_of j) ≤ items_levels (items_of (jsons list))) (sym c.item-item.is) (levels-item list c.loop-item.item-index c.item-item.result c.loop-item-test.true) in
    omega (arith, deep, c.decreases)

pub put_members-put-requires : goal.put_members-put-requires
put_members-put-requires t c =
    let items = c.loop-at.order.items in
    let start = c.len-start.result in
    let at = c.loop-at.at in
    let member = c.index-member.result.now in
    let back : start + (at - start) ≡ at = omega (arith, c.loop-at.invariant.from) in
    let same : get_or (drop start items) (at - start) member ≡ member = get_or-drop start items (at - start) member ∙ ap (λ i. get_or items i member) back ∙ sym c.index-member.ensures in
    let within : at - start < length (drop start items) = omega (arith, length-drop start items, c.loop-at.invariant.from, c.loop-at.invariant.end, c.loop-at-test.true) in
    let most : ℕ = members_levels (members_of (pairs c.args.list.now)) in
    let deep : levels (json_of member.now.1) ≤ most = subst (λ m. levels (json_of m.now.1) ≤ most) same (c.loop-at.invariant.levels (at - start) member within) in
    omega (arith, deep, c.decreases)

pub put_items-returns-in_err-put-clause-appends : goal.put_items-returns-in_err-put-clause-appends
put_items-returns-in_err-put-clause-appends t c =
    let before : StartsWith c.if-later.out.items c.args.out.now.items = grind (arith, common_steps) in
    starts_with_trans c.put.new.out.items c.if-later.out.items c.args.out.now.items c.put.ensures.appends before

pub put_members-returns-in_err-put_quoted-clause-appends : goal.put_members-returns-in_err-put_quoted-clause-appends
put_members-returns-in_err-put_quoted-clause-appends t c =
    let before : StartsWith c.if-later.out.items c.args.out.now.items = grind (arith, common_steps) in
    starts_with_trans c.put_quoted.new.out.items c.if-later.out.items c.args.out.now.items c.put_quoted.ensures.appends before

pub put_members-returns-in_err-put-clause-appends : goal.put_members-returns-in_err-put-clause-appends
put_members-returns-in_err-put-clause-appends t c =
    let quoted = c.put_quoted.new.out.items in
    let colon = c.push-in-loop-at.new.self.items in
    let before : StartsWith quoted c.args.out.now.items = grind (arith, common_steps) in
    starts_with_trans c.put.new.out.items colon c.args.out.now.items c.put.ensures.appends
    (starts_with_trans colon quoted c.args.out.now.items (starts_with_of_append colon quoted (58 ∷ []) c.in_ok-push-2.ensures.items) before)
