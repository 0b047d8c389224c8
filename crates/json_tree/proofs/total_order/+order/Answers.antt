use Rattle.std.proofs.Common.{◌≡◌, ◌∙◌, ◌<◌, ◌≤◌, length, min, ap, sym, subst, true, false, Some, arith}
use Rattle.std.specs.Prelude.{option_map}
use Rattle.std.specs.Ordering.{is_ne}
use Rattle.text_spec.specs.Json.{levels, items_of, members_of, items_levels, members_levels}
use Rattle.text_spec.specs.Order.{members_order}
use Rattle.json_tree.specs.Tree.{json_of, jsons, pair, pairs}
use Rattle.json_tree.specs.NextMember.{behind, rises}
use Rattle.json_tree.proofs.ArrangedLaws.{sorted_in}
use Rattle.json_tree.proofs.LevelLaws.{levels-item, levels-member}
use Rattle.json_tree.proofs.NextLaws.{arranged-risen, next_levels, fewer_left, order_left, all_left, told_here, told_later, first_ends, second_ends, both_end}
use Rattle.json_tree.proofs.WalkLaws.{items_end, members_end}
use Rattle.json_tree.proofs.total_order.+order.Goals as goal

pub items_order-order-found-requires : goal.items_order-order-found-requires
items_order-order-found-requires t c =
    let list = c.args.a.now in
    let within : c.loop-at.at < length list = omega (arith, c.loop-at-test.true, c.min-at-end.ensures, c.loop-at.auto.at-end) in
    let deep : levels (json_of c.index-a-at.result) ≤ items_levels (items_of (jsons list)) = subst (λ j. levels (json_of j) ≤ items_levels (items_of (jsons list))) (sym c.index-a-at.is) (levels-item list c.loop-at.at c.index-a-at.result within) in
    omega (arith, deep, c.decreases)

pub items_order-returns : goal.items_order-returns
items_order-returns t c =
    let end : c.loop-at.at ≡ min (length c.args.a.now) (length c.args.b.now) = omega (arith, c.loop-at-test.false, c.min-at-end.ensures, c.loop-at.auto.at-end) in
    c.cmp.ensures ∙ sym (items_end c.args.a.now c.args.b.now c.loop-at.at end) ∙ c.loop-at.invariant

pub members_order-returns-then-rises-2 : goal.members_order-returns-then-rises-2
members_order-returns-then-rises-2 t c =
    let first : rises (pairs c.args.a.now) ≡ true = grind (arith, c.rises.ensures, c.if-rises.true, c.if-rises.ensures) in
    let second : rises (pairs c.args.b.now) ≡ true = grind (arith, c.rises-then-rises.ensures, c.if-rises-2.true, c.if-rises-2.ensures) in
    c.rising_order.ensures
    ∙ (λ i. members_order (arranged-risen (pairs c.args.a.now) first i) (arranged-risen (pairs c.args.b.now) second i))

pub rising_order-member_order-found-requires : goal.rising_order-member_order-found-requires
rising_order-member_order-found-requires t c =
    let list = c.args.a.now in
    let within : c.loop-at.at < length list = omega (arith, c.loop-at-test.true, c.min-at-end.ensures, c.loop-at.auto.at-end) in
    let deep : levels (json_of c.index-a-at.result.1) ≤ members_levels (members_of (pairs list)) = subst (λ m. levels (json_of m.1) ≤ members_levels (members_of (pairs list))) (sym c.index-a-at.is) (levels-member list c.loop-at.at c.index-a-at.result within) in
    omega (arith, deep, c.decreases)

pub rising_order-returns : goal.rising_order-returns
rising_order-returns t c =
    let end : c.loop-at.at ≡ min (length c.args.a.now) (length c.args.b.now) = omega (arith, c.loop-at-test.false, c.min-at-end.ensures, c.loop-at.auto.at-end) in
    c.cmp.ensures ∙ sym (members_end c.args.a.now c.args.b.now c.loop-at.at end) ∙ c.loop-at.invariant

pub sought_order-keys-init : goal.sought_order-keys-init
sought_order-keys-init t c = all_left (pairs c.args.a.now) (pairs c.args.b.now)

pub sought_order-member_order-found-requires : goal.sought_order-member_order-found-requires
sought_order-member_order-found-requires t c =
    let list = pairs c.args.a.now in
    let deep : levels (json_of c.in-Some-Some.m.now.1) ≤ members_levels (members_of list) = next_levels (option_map (λ s. s.now) c.keys.last) list (pair c.in-Some-Some.m.now) c.in-Some-Some.ensures in
    omega (arith, deep, c.decreases)

pub sought_order-returns-then-is_ne : goal.sought_order-returns-then-is_ne
sought_order-returns-then-is_ne t c =
    let apart : is_ne c.member_order-found.result ≡ true = grind (arith, c.is_ne.ensures, c.if-is_ne.true, c.if-is_ne.ensures) in
    told_here (option_map (λ s. s.now) c.keys.last) (pairs c.args.a.now) (pairs c.args.b.now) (pair c.in-Some-Some.m.now) (pair c.in-Some-Some.n.now) c.requires.first c.requires.second c.in-Some-Some.ensures c.in-Some-Some.ensures' c.member_order-found.result c.member_order-found.ensures apart
    ∙ c.keys.invariant

pub sought_order-keys-smaller : goal.sought_order-keys-smaller
sought_order-keys-smaller t c =
    let list = pairs c.args.a.now in
    let last = option_map (λ s. s.now) c.keys.last in
    let fewer = fewer_left last list (pair c.in-Some-Some.m.now) c.requires.first c.in-Some-Some.ensures in
    subst (λ k. length (sorted_in (behind (Some k) list)) < length (sorted_in (behind last list))) (sym c.as_str.ensures) fewer

pub sought_order-keys-preserved : goal.sought_order-keys-preserved
sought_order-keys-preserved t c =
    let first = pairs c.args.a.now in
    let second = pairs c.args.b.now in
    let equal : is_ne c.member_order-found.result ≡ false = grind (arith, c.is_ne.ensures, c.if-is_ne.false, c.if-is_ne.ensures) in
    ap (λ k. order_left (Some k) first second) c.as_str.ensures
    ∙ told_later (option_map (λ s. s.now) c.keys.last) first second (pair c.in-Some-Some.m.now) (pair c.in-Some-Some.n.now) c.requires.first c.requires.second c.in-Some-Some.ensures c.in-Some-Some.ensures' c.member_order-found.result c.member_order-found.ensures equal
    ∙ c.keys.invariant

pub sought_order-returns-in-Some-None : goal.sought_order-returns-in-Some-None
sought_order-returns-in-Some-None t c =
    second_ends (option_map (λ s. s.now) c.keys.last) (pairs c.args.a.now) (pairs c.args.b.now) (pair c.in-Some-None.field-0-0.now) c.requires.first c.in-Some-None.ensures c.in-Some-None.ensures'
    ∙ c.keys.invariant

pub sought_order-returns-in-None-Some : goal.sought_order-returns-in-None-Some
sought_order-returns-in-None-Some t c =
    first_ends (option_map (λ s. s.now) c.keys.last) (pairs c.args.a.now) (pairs c.args.b.now) (pair c.in-None-Some.field-0-1.now) c.requires.second c.in-None-Some.ensures c.in-None-Some.ensures'
    ∙ c.keys.invariant

pub sought_order-returns-in-None-None : goal.sought_order-returns-in-None-None
sought_order-returns-in-None-None t c =
    both_end (option_map (λ s. s.now) c.keys.last) (pairs c.args.a.now) (pairs c.args.b.now) c.in-None-None.ensures c.in-None-None.ensures'
    ∙ c.keys.invariant
