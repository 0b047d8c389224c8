use Rattle.std.proofs.Common.{◌∙◌, map, ap, subst, arith}
use Rattle.std.specs.Prelude.{nat_eq}
use Rattle.std.specs.List.{IsDistinct}
use Rattle.std.proofs.lemmas.List.{take_all}
use Rattle.wire_catalog.specs.Marks.{resource_mark}
use Rattle.wire_catalog.proofs.MarkLaws.{resources_apart}
use Rattle.wire_catalog.proofs.marks.are_resources_apart.Goals as goal

pub returns : goal.returns
returns c = λ up.
    let list = c.args.resources.now in
    resources_apart list (subst (IsDistinct nat_eq) (c.loop-resource.invariant ∙ ap (map resource_mark) (take_all c.loop-resource.resource-index list (omega (arith, c.loop-resource-test.false)))) (c.differ.ensures up))
