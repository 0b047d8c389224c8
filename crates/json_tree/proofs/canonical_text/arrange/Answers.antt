use Rattle.std.proofs.Common.{◌≡◌, ◌≤◌, ℕ, List, sym, subst, length, map, drop, arith}
use Rattle.std.specs.Prelude.{All}
use Rattle.std.specs.Borrow.{Bor}
use Rattle.std.proofs.lemmas.List.Sorted.{All-permutation}
use Rattle.text_spec.specs.Json.{levels, members_of, members_levels}
use Rattle.text_spec.specs.Compact.{arranged_members}
use Rattle.json_tree.specs.declared.tree.Json.{Json}
use Rattle.json_tree.specs.Arranged.{placed}
use Rattle.json_tree.specs.Tree.{json_of, pairs}
use Rattle.json_tree.proofs.ArrangedLaws.{placed-in_order}
use Rattle.json_tree.proofs.LevelLaws.{referents-shallow}
use Rattle.json_tree.proofs.canonical_text.arrange.Goals as goal

pub returns-clause-members : goal.returns-clause-members
returns-clause-members c =
    let list = c.args.list.now in
    let start = c.len-start.result in
    let added = c.append.new.order.items in
    let sorted = c.sort_from.new.order.items in
    let size : start ≡ length c.args.order.now.items = grind arith in
    let these : map (λ m. m.now) (drop start added) ≡ list = subst (λ n. map (λ m. m.now) (drop n added) ≡ list) (sym size) c.in_ok-append.ensures.members in
    subst (λ n. placed (drop n sorted) ≡ arranged_members (members_of (pairs list))) size
    (placed-in_order list (drop start added) (drop start sorted) these c.sort_from.ensures.permutation c.sort_from.ensures.sorted c.requires)

pub returns-clause-levels : goal.returns-clause-levels
returns-clause-levels c =
    let list = c.args.list.now in
    let start = c.len-start.result in
    let added = c.append.new.order.items in
    let sorted = c.sort_from.new.order.items in
    let size : start ≡ length c.args.order.now.items = grind arith in
    let these : map (λ m. m.now) (drop start added) ≡ list = subst (λ n. map (λ m. m.now) (drop n added) ≡ list) (sym size) c.in_ok-append.ensures.members in
    let P : Bor (List ℕ × Json) → Type 0 = λ m. levels (json_of m.now.1) ≤ members_levels (members_of (pairs list)) in
    subst (λ n. All P (drop n sorted)) size
    (All-permutation P (drop start added) (drop start sorted) c.sort_from.ensures.permutation (referents-shallow (drop start added) list these))
