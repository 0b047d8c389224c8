use Rattle.std.proofs.Common.{◌≡◌, [], take, drop}
use Rattle.wire_catalog.specs.wire_spec.Table.{has_name_of}
use Rattle.wire_catalog.proofs.KeyLaws.{HasKeys, name_cmp, is_name_of}
use Rattle.change_reader.specs.Together.{are_new}
use Rattle.change_reader.proofs.distinct.resources_in_set.Given as goal

abbrev pub invariant-loop-resource : goal.invariant-loop-resource
invariant-loop-resource l = record {
  seen : HasKeys name_cmp is_name_of l.seen.keys (take l.resource-index l.resources);
  rest : are_new has_name_of (take l.resource-index l.resources) (drop l.resource-index l.resources) ≡ are_new has_name_of [] l.resources;
}
