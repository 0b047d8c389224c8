-- The numbers that the names of limits stand for.
use Rattle.std.proofs.Common.{◌≡◌, ◌^◌, refl}
use Rattle.http_spec.specs.Limits.{most_head, most_lines, most_link}

pub most_head_is : most_head ≡ 65_536
most_head_is = refl

pub most_lines_is : most_lines ≡ 64
most_lines_is = refl

pub most_link_is : most_link ≡ 2 ^ 62
most_link_is = refl
