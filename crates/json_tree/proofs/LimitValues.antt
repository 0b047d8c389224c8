-- The numbers that the names of limits stand for.
use Rattle.std.proofs.Common.{◌≡◌, refl}
use Rattle.json_tree.specs.Limits.{most_payload}

pub most_payload_is : most_payload ≡ 16_777_216
most_payload_is = refl
