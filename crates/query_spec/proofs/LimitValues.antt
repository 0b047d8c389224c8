-- The numbers that the names of limits stand for.
use Rattle.std.proofs.Common.{◌≡◌, refl}
use Rattle.query_spec.specs.Limits.{most_query, most_depth}

pub most_query_is : most_query ≡ 1_048_576
most_query_is = refl

pub most_depth_is : most_depth ≡ 100
most_depth_is = refl
