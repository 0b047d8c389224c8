-- The bytes left of a link from which `taken` bytes were read: bytes past 2^62 don't belong to it.
use Rattle.std.specs.Prelude.{ℕ, ◌-◌, List, take, Option}
use Rattle.std.specs.Option.{option_map}
use Rattle.http_spec.specs.Limits.{most_link}

abbrev pub limited : ℕ → Option (List ℕ) → Option (List ℕ)
limited taken left = option_map (take (most_link - taken)) left
