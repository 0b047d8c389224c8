use Rattle.std.proofs.Common.{◌≡◌, ◌∙◌, [], ◌∷◌, ◌++◌, true, false, sym, ap, subst, append_assoc, arith, rules}
use Rattle.std.proofs.lemmas.List.Sorted.{answers_always}
use Rattle.wire_fields.specs.fleet_rows.Texts.{sorted_texts}
use Rattle.wire_catalog.specs.Ends.{ends_with}
use Rattle.wire_catalog.proofs.SortLaws.{sorted-permutation}
use Rattle.wire_catalog.proofs.FallLaws.{Fall, falls, falls-weak, fall-sorted, fall-front, above, least, again}
use Rattle.wire_catalog.proofs.tags.sorted.Goals as goal

pub taking-init : goal.taking-init
taking-init c =
    let by = answers_always _ _ _ (λ f a r g h. search rules) in
    let fallen = c.sort_unstable_by.new.self.items in
    record {
      falls = fall-sorted fallen (c.sort_unstable_by.ensures.sorted falls falls-weak by);
      rest = ap (λ names. names ++ sorted_texts fallen) c.in_ok-names.ensures ∙ sorted-permutation c.args.texts.items fallen c.sort_unstable_by.ensures.permutation;
    }

pub taking-preserved-in-Continue-branch-2 : goal.taking-preserved-in-Continue-branch-2
taking-preserved-in-Continue-branch-2 c =
    let left = c.pop.new.self.items in
    let x = c.in-Some.text in
    let names = c.taking.names in
    let fall : Fall (left ++ x ∷ []) = subst Fall c.in-Some.ensures.items c.taking.invariant.falls in
    let is : c.ends_with.result ≡ ends_with left x = c.ends_with.ensures ∙ (λ k. ends_with (c.as_slice.ensures.value k) (c.as_str.ensures k)) in
    let new : ends_with left x ≡ false = grind (arith, is, c.if-not-ends_with.true) in
    record {
      falls = fall-front left x fall;
      rest = ap (λ ts. ts ++ sorted_texts left) c.in_ok-push.ensures.ok
          ∙ append_assoc names (x ∷ []) (sorted_texts left)
          ∙ ap (λ ts. names ++ ts) (sym (least left x (above left x fall new)) ∙ sym (ap sorted_texts c.in-Some.ensures.items))
          ∙ c.taking.invariant.rest;
    }

pub taking-preserved : goal.taking-preserved
taking-preserved c =
    let left = c.pop.new.self.items in
    let x = c.in-Some.text in
    let fall : Fall (left ++ x ∷ []) = subst Fall c.in-Some.ensures.items c.taking.invariant.falls in
    let is : c.ends_with.result ≡ ends_with left x = c.ends_with.ensures ∙ (λ k. ends_with (c.as_slice.ensures.value k) (c.as_str.ensures k)) in
    let known : ends_with left x ≡ true = grind (arith, is, c.if-not-ends_with.false) in
    record {
      falls = fall-front left x fall;
      rest = ap (λ ts. c.taking.names ++ ts) (sym (again left x known) ∙ sym (ap sorted_texts c.in-Some.ensures.items)) ∙ c.taking.invariant.rest;
    }
