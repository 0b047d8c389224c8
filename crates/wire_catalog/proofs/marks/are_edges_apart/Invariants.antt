use Rattle.std.proofs.Common.{◌≡◌, map, take}
use Rattle.wire_catalog.specs.Marks.{edge_mark}
use Rattle.wire_catalog.proofs.marks.are_edges_apart.Given as goal

abbrev pub invariant-loop-edge : goal.invariant-loop-edge
invariant-loop-edge l = l.marks.items ≡ map edge_mark (take l.edge-index l.edges)
