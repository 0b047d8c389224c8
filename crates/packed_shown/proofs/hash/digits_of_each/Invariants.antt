use Rattle.std.proofs.Common.{◌≡◌, map, take}
use Rattle.hex.specs.Hex.{encode_lower}
use Rattle.packed_shown.proofs.hash.digits_of_each.Given as goal

abbrev pub invariant-unpacking : goal.invariant-unpacking
invariant-unpacking l = l.hashes.items ≡ map encode_lower (take l.bytes-index l.list)
