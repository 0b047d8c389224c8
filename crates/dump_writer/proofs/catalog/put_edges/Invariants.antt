use Rattle.std.proofs.Common.{◌≡◌, ◌++◌, ◌∷◌, drop, map, false}
use Rattle.dump_laws.specs.dump_spec.text_spec.Json.{items_of}
use Rattle.dump_laws.specs.dump_spec.text_spec.Compact.{compact_items}
use Rattle.dump_laws.specs.dump_spec.Payloads.{edge_value}
use Rattle.dump_writer.proofs.catalog.put_edges.Given as goal

abbrev pub invariant-loop-edge : goal.invariant-loop-edge
invariant-loop-edge l = l.out.items ++ compact_items l.later (items_of (map edge_value (drop l.edge-index l.edges))) ≡ l.fn.out.items ++ 91 ∷ compact_items false (items_of (map edge_value l.edges))
