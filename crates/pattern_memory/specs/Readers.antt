-- The words that clauses use for a reader of patterns in memory.
use Rattle.std.specs.Prelude.{ℕ, List, Bool, nat_eq}
use Rattle.std.specs.List.{starts_with}
use Rattle.std.specs.String.{string_bytes}
use Rattle.pattern_port.specs.Course.{Act}
use Rattle.pattern_memory.specs.Courses.{acts_in, lost_in}
use Rattle.pattern_memory.specs.declared.patterns.Compiled.{Compiled}
use Rattle.pattern_memory.specs.declared.patterns.MemoryPatterns.{MemoryPatterns}

-- the calls that it received, in order
abbrev pub course_of : MemoryPatterns → List Act
course_of reader = acts_in reader.course

abbrev pub lost_of : MemoryPatterns → ℕ
lost_of reader = lost_in reader.course

abbrev pub refusals_of : MemoryPatterns → ℕ
refusals_of reader = reader.refused

-- the text begins with the pattern's text
abbrev pub begins_with : List ℕ → List ℕ → Bool
begins_with pattern text = starts_with nat_eq text pattern

abbrev pub pattern_of : Compiled → List ℕ
pattern_of compiled = string_bytes compiled.text
