-- Values small enough for 32-bit list indices.
use Rattle.std.specs.Prelude.{◌<◌, ◌^◌, length}
use Rattle.fleet_rows.specs.text_spec.Json.{Json}
use Rattle.fleet_rows.specs.text_spec.Compact.{compact}

-- the length of the compact text fits 32 bits, and so does the length of each list in the value
abbrev pub IsCounted : Json → Type 0
IsCounted j = length (compact j) < 2 ^ 32
