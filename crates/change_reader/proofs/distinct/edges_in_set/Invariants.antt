use Rattle.std.proofs.Common.{◌≡◌, [], take, drop}
use Rattle.wire_catalog.specs.wire_spec.Table.{is_edge}
use Rattle.wire_catalog.proofs.KeyLaws.{HasKeys, key_cmp, is_key_of}
use Rattle.change_reader.specs.Together.{are_new}
use Rattle.change_reader.proofs.distinct.edges_in_set.Given as goal

abbrev pub invariant-loop-edge : goal.invariant-loop-edge
invariant-loop-edge l = record {
  seen : HasKeys key_cmp is_key_of l.seen.keys (take l.edge-index l.edges);
  rest : are_new is_edge (take l.edge-index l.edges) (drop l.edge-index l.edges) ≡ are_new is_edge [] l.edges;
}
