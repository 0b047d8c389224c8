use Rattle.std.proofs.Common.{◌≡◌, ◌∙◌, ◌+◌, ◌++◌, ◌∷◌, [], take, drop, sym, ap, subst, true, false, arith}
use Rattle.std.specs.Prelude.{not, ◌&&◌}
use Rattle.std.specs.List.{list_any}
use Rattle.std.specs.Str.{bytes_eq}
use Rattle.std.proofs.lemmas.List.{take_more, drop_more}
use Rattle.wire_catalog.specs.wire_spec.Table.{has_name_of}
use Rattle.wire_catalog.proofs.KeyLaws.{HasKeys, NameKey, name_cmp, is_name_of, name_is, one_more}
use Rattle.change_reader.specs.Together.{are_new}
use Rattle.wire_catalog.proofs.of_wire_laws.LawfulChanges.{name-symm}
use Rattle.change_reader.proofs.distinct.resources_in_set.Goals as goal

pub returns-then-not-branch : goal.returns-then-not-branch
returns-then-not-branch c =
    let list = c.args.resources.now in
    let i = c.loop-resource.resource-index in
    let x = c.resource-item.result in
    let before = take i list in
    let key : NameKey = (c.as_str.result, c.as_str-in-loop-resource.result) in
    let rest : drop i list ≡ x ∷ drop (i + 1) list = drop_more list i x c.loop-resource-test.true ∙ ap (λ y. y ∷ drop (i + 1) list) (sym c.resource-item.is) in
    let has = c.loop-resource.invariant.seen key ∙ (λ k. list_any (λ r. bytes_eq (c.as_str.ensures k) r.rtype && bytes_eq (c.as_str-in-loop-resource.ensures k) r.title) before) ∙ (λ k. list_any (λ r. name-symm x r k) before) in
    let known : list_any (λ q. has_name_of q x) before ≡ true = grind (arith, has, c.in_ok-insert.ensures.added, c.if-not-branch.true) in
    sym (λ k. not (known k) && are_new has_name_of (before ++ x ∷ []) (drop (i + 1) list)) ∙ sym (ap (are_new has_name_of before) rest) ∙ c.loop-resource.invariant.rest

pub loop-resource-preserved : goal.loop-resource-preserved
loop-resource-preserved c =
    let list = c.args.resources.now in
    let i = c.loop-resource.resource-index in
    let x = c.resource-item.result in
    let before = take i list in
    let key : NameKey = (c.as_str.result, c.as_str-in-loop-resource.result) in
    let keys = c.insert.new.self.keys in
    let one : take (i + 1) list ≡ before ++ x ∷ [] = take_more list i x c.loop-resource-test.true ∙ ap (λ y. before ++ y ∷ []) (sym c.resource-item.is) in
    let rest : drop i list ≡ x ∷ drop (i + 1) list = drop_more list i x c.loop-resource-test.true ∙ ap (λ y. y ∷ drop (i + 1) list) (sym c.resource-item.is) in
    let has = c.loop-resource.invariant.seen key ∙ (λ k. list_any (λ r. bytes_eq (c.as_str.ensures k) r.rtype && bytes_eq (c.as_str-in-loop-resource.ensures k) r.title) before) ∙ (λ k. list_any (λ r. name-symm x r k) before) in
    let new : list_any (λ q. has_name_of q x) before ≡ false = grind (arith, has, c.in_ok-insert.ensures.added, c.if-not-branch.false) in
    record {
      seen = subst (HasKeys name_cmp is_name_of keys) (sym one) (one_more name_cmp is_name_of c.loop-resource.seen.keys keys key before x c.in_ok-insert.ensures.updates.0 (λ q. name_is key q x c.as_str.ensures c.as_str-in-loop-resource.ensures) c.loop-resource.invariant.seen);
      rest = ap (λ b. are_new has_name_of b (drop (i + 1) list)) one ∙ sym (λ k. not (new k) && are_new has_name_of (before ++ x ∷ []) (drop (i + 1) list)) ∙ sym (ap (are_new has_name_of before) rest) ∙ c.loop-resource.invariant.rest;
    }
