use Rattle.std.proofs.Common.{◌≡◌, ◌∙◌, ◌+◌, List, [], ◌∷◌, sym, ap, arith}
use Rattle.std.specs.Vec.Iter.{into_iter_items}
use Rattle.wire_fields.specs.json_tree.Tree.{json_of, jsons}
use Rattle.wire_fields.specs.fleet_rows.declared.catalog.Edge.{Edge}
use Rattle.wire_fields.specs.wire_spec.Table.{edge, each_from}
use Rattle.wire_fields.proofs.of_wire_spec.CountedLaws.{listed, listed_first, listed-le}
use Rattle.wire_catalog.proofs.EachLaws.{after, after-nil, goes_on}
use Rattle.wire_catalog.proofs.edges.each_edge.Goals as goal

pub loop-item-init : goal.loop-item-init
loop-item-init c =
    let items = into_iter_items c.into_iter-item-iterator.result in
    let all : jsons items ≡ c.args.items = ap jsons c.into_iter-item-iterator.ensures.into_iter_gives.0 ∙ c.into_vec-list.ensures in
    record {
      can = tt;
      ends = tt;
      room = omega (arith, ap listed all, listed-le c.args.items, c.requires);
      rest = ap (λ (done : List Edge). after done (each_from 0 edge (jsons items))) c.in_ok-done.ensures.items ∙ ap (λ js. after [] (each_from 0 edge js)) all ∙ after-nil (each_from 0 edge c.args.items);
    }

pub loop-item-preserved : goal.loop-item-preserved
loop-item-preserved c =
    let i = c.loop-item.index in
    let done = c.loop-item.done.items in
    let j = json_of c.in-Some.item in
    let js = jsons (into_iter_items c.next.new.self) in
    let next : jsons (into_iter_items c.loop-item.item-iterator) ≡ j ∷ js = ap jsons c.in-Some.ensures.steps.0 in
    record {
      can = tt;
      ends = tt;
      room = omega (arith, ap listed next, listed_first j js, c.loop-item.invariant.room);
      rest = ap (λ (d : List Edge). after d (each_from (i + 1) edge js)) c.in_ok-push.ensures.items
          ∙ goes_on edge done i (each_from 0 edge c.args.items) j js c.in_ok-edge.field-0 c.in_ok-edge.ensures (ap (λ xs. after done (each_from i edge xs)) (sym next) ∙ c.loop-item.invariant.rest);
    }
