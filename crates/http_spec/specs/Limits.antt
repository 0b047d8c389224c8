-- The size limits of heads and connections.
use Rattle.std.specs.Prelude.{ℕ}
use Rattle.http_spec.specs.declared.limits.TheConstants.{MOST_HEAD, MOST_LINES, MOST_LINK}

-- the most bytes of a head's text
abbrev pub most_head : ℕ
most_head = MOST_HEAD

-- the most lines after the request line, each of which is a header field
abbrev pub most_lines : ℕ
most_lines = MOST_LINES

-- the most bytes that are read from a connection
abbrev pub most_link : ℕ
most_link = MOST_LINK
