-- The words that clauses use for a course.
use Rattle.std.specs.Prelude.{ℕ, List}
use Rattle.pattern_port.specs.Course.{Act}
use Rattle.pattern_memory.specs.Marks.{acts_of}
use Rattle.pattern_memory.specs.declared.course.Course.{Course}

abbrev pub acts_in : Course → List Act
acts_in course = acts_of course.marks.items

-- how many acts couldn't be noted, for lack of memory
abbrev pub lost_in : Course → ℕ
lost_in course = course.lost
