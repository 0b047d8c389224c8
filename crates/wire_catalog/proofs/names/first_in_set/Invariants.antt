use Rattle.std.proofs.Common.{◌≡◌, [], take, drop}
use Rattle.wire_catalog.specs.Names.{again_from}
use Rattle.wire_catalog.proofs.KeyLaws.{HasKeys, name_cmp, is_name_of}
use Rattle.wire_catalog.proofs.names.first_in_set.Given as goal

abbrev pub invariant-loop-resource : goal.invariant-loop-resource
invariant-loop-resource l = record {
  at : l.index ≡ l.resource-index;
  seen : HasKeys name_cmp is_name_of l.seen.keys (take l.resource-index l.resources);
  rest : again_from (take l.resource-index l.resources) l.index (drop l.resource-index l.resources) ≡ again_from [] 0 l.resources;
}
