-- Where a head's text ends, as a function that reads byte by byte. The laws tie it to `IsHeadText`. Clauses on code are equations
-- on it.
use Rattle.std.specs.Prelude.{ℕ, suc, if◌then◌else◌, ◌==◌, List, [], ◌∷◌, Option, Some, None}

-- what was read of the current line: nothing, one CR, or a nonempty line
pub data Line : Type 0 where
  fresh : Line
  return : Line
  filled : Line

-- The position of a reader: the lines read after the request line, once that was read, and the state of the current line.
pub record Place : Type 0 where
  pub behind : Option ℕ
  pub line : Line

-- The head ends after this byte, with this many lines after the request line, or it continues.
pub data Next : Type 0 where
  ended : ℕ → Next
  on : Place → Next

abbrev pub at_start : Place
at_start = record { behind = None; line = fresh }

-- one more line was read
abbrev pub one_more : Option ℕ → Option ℕ
one_more None = Some 0
one_more (Some n) = Some (suc n)

-- after an empty line: before the request line it is skipped, otherwise it ends the head
abbrev pub behind_empty : Option ℕ → Next
behind_empty None = on at_start
behind_empty (Some n) = ended n

abbrev pub begun : ℕ → Line
begun c = if c == 13 then return else filled

abbrev pub line_ends : Option ℕ → Line → Next
line_ends behind fresh = behind_empty behind
line_ends behind return = behind_empty behind
line_ends behind filled = on (record { behind = one_more behind; line = fresh })

abbrev pub line_goes_on : Option ℕ → Line → ℕ → Next
line_goes_on behind fresh c = on (record { behind = behind; line = begun c })
line_goes_on behind return c = on (record { behind = behind; line = filled })
line_goes_on behind filled c = on (record { behind = behind; line = filled })

abbrev pub step : Place → ℕ → Next
step place c = if c == 10 then line_ends place.behind place.line else line_goes_on place.behind place.line c

-- the number of lines after the request line, and the bytes after the head
unfoldable pub head_from : Place → List ℕ → Option (ℕ × List ℕ)
head_from place [] = None
head_from place (c ∷ bytes) = elim (step place c) [ ended n ↦ Some (n, bytes) | on next ↦ head_from next bytes ]

abbrev pub head_at : List ℕ → Option (ℕ × List ℕ)
head_at bytes = head_from at_start bytes
