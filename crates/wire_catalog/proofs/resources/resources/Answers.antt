use Rattle.std.proofs.Common.{◌≡◌, ◌∙◌, [], length, sym, ap, Some, None, arith}
use Rattle.wire_fields.proofs.of_wire_spec.CountedLaws.{few_items}
use Rattle.wire_catalog.specs.Names.{front_of, again_from}
use Rattle.wire_catalog.proofs.NameLaws.{front_is, front-le, answered, verdict}
use Rattle.wire_catalog.proofs.resources.resources.Goals as goal

pub first_again-requires : goal.first_again-requires
first_again-requires c =
    let items = c.args.items in
    let is : front_of 0 items ≡ (c.in_ok-front.front, c.in_ok-front.refused) = front_is (front_of 0 items) (c.in_ok-front.front, c.in_ok-front.refused) c.in_ok-front.ensures in
    omega (arith, few_items items c.requires, front-le 0 items, ap (λ x. length x.0) is, ap length c.as_slice.ensures)

pub returns-in-Some : goal.returns-in-Some
returns-in-Some c =
    let is = front_is (front_of 0 c.args.items) (c.in_ok-front.front, c.in_ok-front.refused) c.in_ok-front.ensures in
    let again : Some c.in-Some.index ≡ again_from [] 0 c.in_ok-front.front = sym c.in-Some.is ∙ c.in_ok-index.ensures ∙ ap (again_from [] 0) c.as_slice.ensures in
    answered c.args.items c.in_ok-front.front c.in_ok-front.refused (Some c.in-Some.index) is again

pub returns-in-Some-refused : goal.returns-in-Some-refused
returns-in-Some-refused c =
    let is = front_is (front_of 0 c.args.items) (c.in_ok-front.front, c.in_ok-front.refused) c.in_ok-front.ensures in
    let again : None ≡ again_from [] 0 c.in_ok-front.front = sym c.in_default.is ∙ c.in_ok-index.ensures ∙ ap (again_from [] 0) c.as_slice.ensures in
    answered c.args.items c.in_ok-front.front c.in_ok-front.refused None is again ∙ ap (verdict None c.in_ok-front.front) c.in-Some-refused.is

pub returns-in-None : goal.returns-in-None
returns-in-None c =
    let is = front_is (front_of 0 c.args.items) (c.in_ok-front.front, c.in_ok-front.refused) c.in_ok-front.ensures in
    let again : None ≡ again_from [] 0 c.in_ok-front.front = sym c.in_default.is ∙ c.in_ok-index.ensures ∙ ap (again_from [] 0) c.as_slice.ensures in
    answered c.args.items c.in_ok-front.front c.in_ok-front.refused None is again ∙ ap (verdict None c.in_ok-front.front) c.in-None.is
