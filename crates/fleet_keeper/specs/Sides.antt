-- Which of two files a log is in, for a keeper that has two.
use Rattle.std.specs.Prelude.{Option, Some, None}
use Rattle.log_pair.specs.log_spec.declared.side.Side.{Side}
use Rattle.log_pair.specs.Pair.{flipped}

-- the other file
abbrev pub turned_side : Option Side → Option Side
turned_side None = None
turned_side (Some side) = Some (flipped side)
