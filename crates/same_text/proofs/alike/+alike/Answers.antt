use Rattle.std.proofs.Common.{◌≡◌, ◌∙◌, ◌≤◌, ◌++◌, ◌∷◌, [], sym, ap, subst, get_or}
use Rattle.std.proofs.lemmas.List.{map-append}
use Rattle.json_tree.specs.text_spec.Json as spec
use Rattle.json_tree.specs.text_spec.Json.{array, items_of, levels}
use Rattle.json_tree.specs.Tree.{json_of, pair, pairs}
use Rattle.json_tree.proofs.of_text_spec.JsonLemmas.{items_of-list}
use Rattle.same_text.specs.Alike.{alike, alike_items}
use Rattle.same_text.proofs.MemberSteps.{shallow, set_on, levels_on}
use Rattle.same_text.proofs.alike.+alike.Goals as goal

pub alike-returns-in_ok-alike_items-in-List : goal.alike-returns-in_ok-alike_items-in-List
alike-returns-in_ok-alike_items-in-List t c =
    (λ i. array (items_of (c.in_ok-alike_items-in-List.ensures i)))
    ∙ ap array (items_of-list (alike_items (items_of c.in-List.items)))
    ∙ ap (λ j. alike (json_of j)) (sym c.in-List.is)

pub alike_items-push-requires : goal.alike_items-push-requires
alike_items-push-requires t c =
    let list = c.as_slice-list.result.now in
    let most : levels (json_of (get_or list c.loop-item.item-index c.item-item.result)) ≤ 126 = c.as_slice-list.ensures.shallow c.loop-item.item-index c.item-item.result c.loop-item-test.true in
    shallow (json_of c.item-item.result) (json_of c.in_ok-alike.field-0) 126 c.in_ok-alike.ensures (subst (λ j. levels (json_of j) ≤ 126) (sym c.item-item.is) most)

pub alike_members-members-preserved : goal.alike_members-members-preserved
alike_members-members-preserved t c =
    let list = c.members.list.items in
    let name : c.in_ok-key.key ≡ c.pair.result.0.now = c.in_ok-key.ensures ∙ c.as_str.ensures in
    let made : spec.Json = json_of c.in_ok-alike.field-0 in
    let pushed : pairs c.push.new.self.items ≡ pairs list ++ (c.pair.result.0.now, made) ∷ [] =
    ap pairs c.in_ok-push.ensures.items ∙ map-append pair list ((c.in_ok-key.key, c.in_ok-alike.field-0) ∷ []) ∙ ap (λ k. pairs list ++ (k, made) ∷ []) name in
    let v : spec.Json = json_of c.pair.result.1.now in
    record {
      set = set_on c.args.members.now (pairs list) (pairs c.push.new.self.items) c.pair.result.0.now v made c.in_ok-alike.ensures pushed c.len-count.result c.members.i c.members-test.true c.pair.ensures.pair c.members.invariant.set;
      levels = levels_on c.args.members.now (pairs list) (pairs c.push.new.self.items) c.pair.result.0.now v made c.in_ok-alike.ensures pushed 126 c.pair.ensures.shallow c.members.invariant.levels;
    }
