use Rattle.std.proofs.Common.{◌≡◌, ◌++◌, drop}
use Rattle.std.specs.List.{AllByRecursion, flat_map}
use Rattle.record_fields.specs.history_spec.Lawful.{IsEdge}
use Rattle.record_fields.specs.record_spec.Parts.{list_text}
use Rattle.record_fields.specs.record_spec.Changes.{edge_text}
use Rattle.store_records.proofs.write.put_edges.Given as goal

abbrev pub invariant-loop-edge : goal.invariant-loop-edge
invariant-loop-edge l = record {
  so_far : l.out.items ++ flat_map edge_text (drop l.edge-index l.edges) ≡ l.fn.out.items ++ list_text edge_text l.edges;
  are : AllByRecursion IsEdge (drop l.edge-index l.edges);
}
