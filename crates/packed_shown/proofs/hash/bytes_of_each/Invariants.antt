use Rattle.std.proofs.Common.{◌≡◌, drop, map, take}
use Rattle.std.specs.List.{AllByRecursion}
use Rattle.hex.specs.Hex.{encode_lower}
use Rattle.packed_shown.specs.Hashes.{IsHash}
use Rattle.packed_shown.proofs.hash.bytes_of_each.Given as goal

abbrev pub invariant-packing : goal.invariant-packing
invariant-packing l = record {
  so_far : map encode_lower l.list.items ≡ take l.hash-index l.hashes;
  are : AllByRecursion IsHash (drop l.hash-index l.hashes);
}
