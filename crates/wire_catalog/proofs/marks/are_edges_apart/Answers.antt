use Rattle.std.proofs.Common.{◌∙◌, map, ap, subst, arith}
use Rattle.std.specs.Prelude.{nat_eq}
use Rattle.std.specs.List.{IsDistinct}
use Rattle.std.proofs.lemmas.List.{take_all}
use Rattle.wire_catalog.specs.Marks.{edge_mark}
use Rattle.wire_catalog.proofs.MarkLaws.{edges_apart}
use Rattle.wire_catalog.proofs.marks.are_edges_apart.Goals as goal

pub returns : goal.returns
returns c = λ up.
    let list = c.args.edges.now in
    edges_apart list (subst (IsDistinct nat_eq) (c.loop-edge.invariant ∙ ap (map edge_mark) (take_all c.loop-edge.edge-index list (omega (arith, c.loop-edge-test.false)))) (c.differ.ensures up))
