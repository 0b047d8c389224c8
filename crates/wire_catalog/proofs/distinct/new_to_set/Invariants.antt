use Rattle.std.proofs.Common.{◌≡◌, ◌++◌, [], take, drop}
use Rattle.wire_catalog.specs.Distinct.{news}
use Rattle.wire_catalog.proofs.KeyLaws.{HasKeys, key_cmp, is_key_of}
use Rattle.wire_catalog.proofs.distinct.new_to_set.Given as goal

abbrev pub invariant-loop-edge : goal.invariant-loop-edge
invariant-loop-edge l = record {
  seen : HasKeys key_cmp is_key_of l.seen.keys (take l.edge-index l.edges);
  rest : l.new.items ++ news (take l.edge-index l.edges) (drop l.edge-index l.edges) ≡ news [] l.edges;
}
