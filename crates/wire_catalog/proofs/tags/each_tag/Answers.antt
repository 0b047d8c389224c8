use Rattle.std.proofs.Common.{◌≡◌, ◌∙◌, ◌+◌, ℕ, List, [], ◌∷◌, sym, ap, arith}
use Rattle.std.specs.Vec.Iter.{into_iter_items}
use Rattle.wire_fields.specs.json_tree.Tree.{json_of, jsons}
use Rattle.wire_fields.specs.wire_spec.Table.{text, each_from}
use Rattle.wire_fields.proofs.of_wire_spec.CountedLaws.{listed, listed_first, listed-le}
use Rattle.wire_catalog.specs.InOrder.{tag}
use Rattle.wire_catalog.proofs.EachLaws.{after, after-nil, goes_on}
use Rattle.wire_catalog.proofs.tags.each_tag.Goals as goal

pub loop-item-init : goal.loop-item-init
loop-item-init c =
    let check = tag c.args.index in
    let items = into_iter_items c.into_iter-item-iterator.result in
    let all : jsons items ≡ c.args.items = ap jsons c.into_iter-item-iterator.ensures.into_iter_gives.0 ∙ c.into_vec-list.ensures in
    record {
      can = tt;
      ends = tt;
      room = omega (arith, ap listed all, listed-le c.args.items, c.requires);
      rest = ap (λ (done : List (List ℕ)). after done (each_from 0 check (jsons items))) c.in_ok-done.ensures.items ∙ ap (λ js. after [] (each_from 0 check js)) all ∙ after-nil (each_from 0 check c.args.items);
    }

pub loop-item-preserved : goal.loop-item-preserved
loop-item-preserved c =
    let check = tag c.args.index in
    let i = c.loop-item.at in
    let done = c.loop-item.done.items in
    let j = json_of c.in-Some.item in
    let js = jsons (into_iter_items c.next.new.self) in
    let next : jsons (into_iter_items c.loop-item.item-iterator) ≡ j ∷ js = ap jsons c.in-Some.ensures.steps.0 in
    record {
      can = tt;
      ends = tt;
      room = omega (arith, ap listed next, listed_first j js, c.loop-item.invariant.room);
      rest = ap (λ (d : List (List ℕ)). after d (each_from (i + 1) check js)) c.in_ok-push.ensures.items
          ∙ goes_on check done i (each_from 0 check c.args.items) j js c.in_ok-text.field-0 (c.in_ok-text.ensures ∙ ap (λ p. text p j) c.inner.ensures) (ap (λ xs. after done (each_from i check xs)) (sym next) ∙ c.loop-item.invariant.rest);
    }
