use Rattle.std.proofs.Common.{◌≡◌, ◌∙◌, List, [], ap, arith}
use Rattle.std.specs.Vec.Iter.{into_iter_items}
use Rattle.wire_fields.specs.json_tree.Tree.{jsons}
use Rattle.wire_fields.specs.fleet_rows.declared.catalog.Resource.{Resource}
use Rattle.wire_fields.proofs.of_wire_spec.CountedLaws.{listed, listed-le}
use Rattle.wire_catalog.specs.Names.{front_of}
use Rattle.wire_catalog.proofs.NameLaws.{joined}
use Rattle.wire_catalog.proofs.resources.front.Goals as goal

pub loop-item-init : goal.loop-item-init
loop-item-init c =
    let items = into_iter_items c.into_iter-item-iterator.result in
    let all : jsons items ≡ c.args.items = ap jsons c.into_iter-item-iterator.ensures.into_iter_gives.0 ∙ c.into_vec-list.ensures in
    record {
      can = tt;
      ends = tt;
      room = omega (arith, ap listed all, listed-le c.args.items, c.requires);
      rest = ap (λ (done : List Resource). joined done (front_of 0 (jsons items))) c.in_ok-done.ensures ∙ ap (λ js. joined [] (front_of 0 js)) all;
    }
