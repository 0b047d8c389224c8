-- Texts that were tried on patterns.
use Rattle.std.specs.Prelude.{◌≡◌, List, Option}
use Rattle.pattern_port.specs.Course.{Act, Try, course_more, only_tried}

-- only tries were added
pub record HasTried (before now : Option (List Act)) : Type 0 where
  pub tries : List Try
  pub course : now ≡ course_more before (only_tried tries)
